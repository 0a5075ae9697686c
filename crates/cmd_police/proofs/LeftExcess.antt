-- The excess that is computed from the line of a judged cell is that of the cell.
use Rattle.std.proofs.Common.{◌≡◌, ◌≢◌, ◌≤◌, ℕ, Bool, List, Option, Some, sym, ap, ◌∙◌, subst, arith}
use Rattle.std.specs.Prelude.{option_and_then}
use Rattle.card_core.specs.Agreement.{CoreAgrees, CoreView}
use Rattle.card_core.specs.Inspection.{line_at}
use Rattle.card_core.specs.World.{Connection, World, connection_in}
use Rattle.leaky.specs.declared.excess.Excess.{Excess}
use Rattle.leaky.specs.declared.verdict.Verdict.{Verdict}
use Rattle.leaky.specs.declared.verdict.Verdict.TheVariants.{Pass}
use Rattle.line_record.specs.History.{NamedCell, last_moment}
use Rattle.line_record.specs.Line.{LineView}
use Rattle.upc_cell.specs.declared.vc.Vc.{Vc}
use Rattle.cmd_police.specs.PoliceLines.{next_excess}
use Rattle.cmd_setups.specs.inner.ExcessLeft.{IsKeptOnLine, JudgesNext, excess_left}
use Rattle.cmd_police.proofs.ExcessLemmas.{last_then, line_keeps}
use Rattle.cmd_police.proofs.KeptExcess.{refused_next}

pub judged_excess : (core : CoreView) (before after : World) (vc : Vc) (clp : Bool) (moment value : ℕ) (verdict : Verdict) (line : LineView) (found : Option Excess)
    → CoreAgrees core after → JudgesNext before.connections after.connections vc clp moment value verdict → Some line ≡ line_at core vc → verdict ≢ Pass
    → ((connection : Connection) → IsKeptOnLine connection line → line.state.last ≤ moment → found ≡ excess_left connection value verdict clp moment)
    → found ≡ option_and_then (λ connection. next_excess connection value clp moment) (connection_in before.connections vc)
judged_excess core before after vc clp moment value verdict line found agrees judges there refused at =
    let keeps = line_keeps core after vc judges.next agrees judges.left in
    let both : Some line ≡ Some keeps.0 = there ∙ keeps.1 in
    let same : keeps.0 ≡ line = cc in
    let kept : IsKeptOnLine judges.next line = subst (λ (l : LineView). IsKeptOnLine judges.next l) same keeps.2 in
    let last : line.state.last ≡ moment =
    kept.state.last ∙ ap (λ (cells : List NamedCell). last_moment 0 cells) judges.history ∙ last_then 0 judges.connection.history judges.cell ∙ judges.at in
    at judges.next kept (omega (arith, last))
    ∙ refused_next before.connections after.connections vc clp moment value verdict judges refused
    ∙ sym (ap (option_and_then (λ connection. next_excess connection value clp moment)) judges.found)
