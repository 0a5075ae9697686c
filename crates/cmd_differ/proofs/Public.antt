-- Lemmas for other crates.
use Rattle.std.proofs.Common.{ℕ, Bool, List}
use Rattle.text_io.specs.declared.ending.Done.{Done}
use Rattle.cmd_differ.specs.DifferText.{IsDifferAnswer}
use Rattle.cmd_differ.specs.UnusedText.{IsUnusedAnswer}
use Rattle.cmd_differ.specs.declared.kinds.TextKinds.{TextKinds}
use Rattle.cmd_differ.proofs.UnusedAnswers as unused
use Rattle.cmd_differ.proofs.WholeAnswers as answers

-- Every old text and every input have an answer of `differ`.
pub some-differ_text : (kinds : TextKinds) (lines : Bool) (old octets : List ℕ) → (answer : List ℕ) × (done : Done) × IsDifferAnswer kinds lines old octets answer done
some-differ_text = answers.some_answer

-- Every input has an answer of `unused`.
pub some-unused_text : (octets : List ℕ) → (answer : List ℕ) × (done : Done) × IsUnusedAnswer octets answer done
some-unused_text = unused.some_unused
