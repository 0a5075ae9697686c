-- Lemmas for other crates.
use Rattle.std.proofs.Common.{ℕ, List}
use Rattle.text_io.specs.declared.ending.Done.{Done}
use Rattle.cmd_explain.specs.Explained.{IsExplainText}
use Rattle.cmd_explain.proofs.Answered as explaining

-- Every input has an answer.
pub some-explain_text : (octets : List ℕ) → (text : List ℕ) × (done : Done) × IsExplainText octets text done
some-explain_text = explaining.some-explain_text
