-- The octets written so far are a prefix.
use Rattle.std.proofs.Common.{ℕ, sym, ◌∙◌, take, drop, length-take, arith}
use Rattle.std.proofs.lemmas.List.{take-append-drop}
use Rattle.text_io.proofs.Ranges.{given-more}
use Rattle.text_io.proofs.delivery.give_all.Goals as goal

pub returns-in_err-given-clause-front : goal.returns-in_err-given-clause-front
returns-in_err-given-clause-front g c = λ known. (
  take c.loop-given.given c.args.octets.now,
  drop c.loop-given.given c.args.octets.now,
  sym (take-append-drop c.loop-given.given c.args.octets.now),
  c.in_err-given.ensures.kept known ∙ c.loop-given.invariant.held known,
)

pub loop-given-preserved : goal.loop-given-preserved
loop-given-preserved g c = record {
  within = omega (arith, c.in_ok-given.ensures.within, length-take {A = ℕ});
  held = λ known. given-more c.args.octets.now _ _ _ c.loop-given.given c.in_ok-given.field-0 (c.loop-given.invariant.held known)
      (c.in_ok-given.ensures.octets known);
  calm = c.in_ok-given.ensures.calm ∙ c.loop-given.invariant.calm;
}
