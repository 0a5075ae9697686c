-- The card is unchanged up to the look-up of the next connection.
use Rattle.std.proofs.Common.{Option, MatchOption, inr, refl, sym, subst, ◌∙◌}
use Rattle.card_core.specs.Agreement.{CoreAgrees}
use Rattle.card_core.specs.ConnectionState.{IsLastVc, IsNextVc}
use Rattle.card_core.specs.World.{World}
use Rattle.upc_cell.specs.declared.vc.Vc.{Vc}
use Rattle.upc_c.proofs.cursor.upc_card_next.Goals as goal

pub returns-in-Ok-Some-clause-next : goal.returns-in-Ok-Some-clause-next
returns-in-Ok-Some-clause-next c = λ _. let found = c.in-Ok-Some.ensures.found in record {
  earlier = c.in-Ok.earlier;
  at = c.in-Ok.ensures.at;
  next = c.in-Ok-Some.vc;
  begun = refl;
  path = refl;
  channel = refl;
  core = found.core;
  had = sym c.earlier_of.ensures.kept ∙ found.had;
  so = subst (λ (o : Option Vc). (world : World) → CoreAgrees found.core world
      → MatchOption o (IsLastVc world c.in-Ok.earlier) (IsNextVc world c.in-Ok.earlier)) c.in-Ok-Some.field-0-is found.so;
}

pub returns-in-Ok-None-clause-refused : goal.returns-in-Ok-None-clause-refused
returns-in-Ok-None-clause-refused c = λ _. let found = c.in-Ok-None.ensures.found in inr (inr (
  record {
    earlier = c.in-Ok.earlier;
    at = c.in-Ok.ensures.at;
    core = found.core;
    had = sym c.earlier_of.ensures.kept ∙ found.had;
    so = subst (λ (o : Option Vc). (world : World) → CoreAgrees found.core world
        → MatchOption o (IsLastVc world c.in-Ok.earlier) (IsNextVc world c.in-Ok.earlier)) c.in-Ok-None.field-0-is found.so;
  },
  c.report-in-Ok-None.ensures.written ∙ c.desk_fault_for_c.ensures.fault,
))
