-- The connections that come one after another have their lines.
use Rattle.std.proofs.Common.{◌≡◌, ◌∙◌, ◌++◌, ◌+◌, Option, suc, ap, append-nil, append_assoc, arith, refl, subst, sym}
use Rattle.std.specs.Option.{MatchOption}
use Rattle.card_core.specs.ConnectionState.{IsLastVc, IsNextVc}
use Rattle.upc_cell.specs.declared.vc.Vc.{Vc}
use Rattle.cmd_setups.specs.ConnectionCounts.{counts_below, connection_counts}
use Rattle.cmd_setups.specs.OrderNumber.{order_number}
use Rattle.cmd_setups.proofs.CountsLemmas.{last_line, next_is_after, next_line, no_numbers, number_after}
use Rattle.cmd_setups.proofs.connection_counts.add_all_counts.Goals as goal

pub loop-vc-init : goal.loop-vc-init
loop-vc-init c = record {
  number = refl;
  small = tt;
  bounded = omega arith;
  lines = λ world agrees are. sym (append-nil c.args.answers.now.items) ∙ ap (λ xs. c.args.answers.now.items ++ xs) (sym (no_numbers world));
}

pub loop-vc-preserved : goal.loop-vc-preserved
loop-vc-preserved c =
    let vc = c.in-Some.vc in
    let earlier = c.loop-vc.earlier in
    let old = c.args.answers.now.items in
    let number = c.order_number-number.ensures in
    let following : c.order_number-number.result + 1 ≡ suc (order_number vc) = omega (arith, number.number) in
    record {
      number = following;
      small = number.channel;
      bounded = omega (arith, number.bounded);
      lines = λ world agrees are.
          let next : IsNextVc world earlier vc =
          subst (λ (o : Option Vc). MatchOption o (IsLastVc world earlier) (IsNextVc world earlier)) c.in-Some.is (c.next_vc.ensures world agrees) in
          let low = next_is_after world earlier vc next c.loop-vc.invariant.small number.channel in
          c.in_ok-add_counts_of.ensures world agrees are
          ∙ ap (λ xs. xs ++ connection_counts world vc) (c.loop-vc.invariant.lines world agrees are ∙ ap (λ n. old ++ counts_below world n) c.loop-vc.invariant.number)
          ∙ append_assoc old (counts_below world (number_after earlier)) (connection_counts world vc)
          ∙ ap (λ xs. old ++ xs) (sym (next_line world earlier vc next c.loop-vc.invariant.small number.channel (omega (arith, number.number, number.bounded)) low))
          ∙ ap (λ n. old ++ counts_below world n) (sym following);
    }

pub returns-in_default : goal.returns-in_default
returns-in_default c = λ world agrees are.
    let earlier = c.loop-vc.earlier in
    let old = c.args.answers.now.items in
    let last : IsLastVc world earlier =
    subst (λ (o : Option Vc). MatchOption o (IsLastVc world earlier) (IsNextVc world earlier)) c.in_default.is (c.next_vc.ensures world agrees) in
    c.loop-vc.invariant.lines world agrees are ∙ ap (λ n. old ++ counts_below world n) c.loop-vc.invariant.number
    ∙ ap (λ xs. old ++ xs) (sym (last_line world earlier last c.loop-vc.invariant.small (omega (arith, c.loop-vc.invariant.number, c.loop-vc.invariant.bounded))))
