use Rattle.std.proofs.Common.{subst, sym, List}
use Rattle.rules_code.specs.declared.lines.Line.{Line}
use Rattle.rules_cells.specs.declared.rules.RuleLine.{RuleLine}
use Rattle.rules_cells.specs.PlainOf.{ArePlainLines}
use Rattle.rules_cells.proofs.Follows.{follows, if_ok, if_ok_both}
use Rattle.rules_cells.proofs.compiler.compile_placed.Goals as goal

pub returns-in-Ok : goal.returns-in-Ok
returns-in-Ok c =
    let rules = c.args.rules.now in
    let lines = c.deref-in-Ok.result.now in
    let there = subst (λ (r : List RuleLine). ArePlainLines rules.side r c.in-Ok.lines.items) c.deref.ensures.value c.in-Ok.ensures in
    let are = subst (λ (l : List Line). ArePlainLines rules.side rules.lines.items l) (sym c.deref-in-Ok.ensures.value) there in
    record {
      accepted = c.generate_placed.ensures.accepted;
      value = if_ok c.generate_placed.result _ _ (λ placed h. follows rules lines placed.code.items are h) c.generate_placed.ensures.value;
      code = if_ok_both c.generate_placed.result _ _ _ (λ placed code starts_from_end. (lines, are, code, starts_from_end)) c.generate_placed.ensures.code c.generate_placed.ensures.starts_from_end;
      too_long = λ e. (lines, are, c.generate_placed.ensures.too_long e);
    }
