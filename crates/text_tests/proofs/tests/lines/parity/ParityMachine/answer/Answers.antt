-- The stored bit is right for every list of lines that the machine may have read.
use Rattle.std.proofs.Common.{ap, refl, ◌∙◌, ◌∷◌, not}
use Rattle.text_tests.specs.examples.Parity.{answer_of}
use Rattle.text_tests.proofs.tests.lines.parity.ParityMachine.answer.Goals as goal

pub returns : goal.returns
returns c = (
  c.text_of.result.now,
  c.in_ok-extend_from_slice.ensures.items,
  λ world sound is_shown. (c.args._line.now ∷ world, ap not is_shown, (c.text_of.ensures ∙ ap answer_of is_shown, refl)),
)
