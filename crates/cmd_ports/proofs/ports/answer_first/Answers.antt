-- The lines before the first cell line are answered, one after another.
use Rattle.std.proofs.Common.{◌++◌, List, ℕ, ap, append_assoc, sym, ◌∙◌}
use Rattle.cmd_ports.proofs.FirstLemmas.{first-found, first-more, first-none}
use Rattle.cmd_ports.proofs.ports.answer_first.Goals as goal

pub returns-then-is_cell_line : goal.returns-then-is_cell_line
returns-then-is_cell_line g c =
    let was = c.loop-line.invariant in (
      was.0,
      was.1,
      λ whole are.
          first-found c.args.card.now.side whole c.loop-line.rest.now c.in-Some.line.now c.in-Some.later.now _ _ was.0 c.in-Some.ensures.cut c.in-Some.ensures.before
          (sym c.is_cell_line.ensures ∙ c.if-is_cell_line.true) (was.2 whole are),
    )

pub loop-line-preserved : goal.loop-line-preserved
loop-line-preserved g c =
    let was = c.loop-line.invariant in
    let one = c.in_ok-answer.ensures in (
      was.0 ++ one.0,
      one.1 ∙ ap (λ (t : List ℕ). t ++ one.0) was.1 ∙ append_assoc c.args.answers.now.items was.0 one.0,
      λ whole are.
          first-more c.args.card.now.side whole c.loop-line.rest.now c.in-Some.line.now c.in-Some.later.now _ _ _ was.0 one.0 c.in-Some.ensures.cut c.in-Some.ensures.before
          (sym c.is_cell_line.ensures ∙ c.if-is_cell_line.false) (was.2 whole are) one.2,
    )

pub returns : goal.returns
returns g c =
    let was = c.loop-line.invariant in (
      was.0,
      was.1,
      λ whole are.
          first-none c.args.card.now.side whole c.loop-line.rest.now _ _ was.0 c.in_default.ensures.none (was.2 whole are),
    )
