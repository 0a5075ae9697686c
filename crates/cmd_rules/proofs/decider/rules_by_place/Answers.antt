use Rattle.std.proofs.Common.{◌≡◌, ◌∙◌, ◌+◌, List, ap, arith, length, rules, subst, sym}
use Rattle.std.proofs.lemmas.List.{length_push}
use Rattle.rules_cells.specs.declared.rules.RuleLine.{RuleLine}
use Rattle.cmd_rules.proofs.Places.{AreTaken, one_taken}
use Rattle.cmd_rules.proofs.decider.rules_by_place.Goals as goal

pub loop-line-preserved : goal.loop-line-preserved
loop-line-preserved c =
    let lines = c.args.rules.lines.items in
    let old = c.loop-line.left.items in
    let new = c.pop.new.self.items in
    let sized : c.len.result ≡ length new = search rules in
    let counted : length old ≡ length new + 1 = ap length c.in-Some.ensures.items ∙ length_push new c.in-Some.line in
    let fewer = c.loop-line.invariant.fewer in
    let grown = c.in_ok-push.ensures.items in
    record {
      fewer = omega (arith, counted, fewer);
      taken = subst (λ (ls : List RuleLine). AreTaken lines new ls) (sym {A = List RuleLine} grown)
          (one_taken lines old new c.loop-line.reversed.items c.in-Some.line c.line_by_place.result c.in-Some.ensures.items
          (c.line_by_place.ensures (length new) (omega (arith, sized))) c.loop-line.invariant.taken);
    }
