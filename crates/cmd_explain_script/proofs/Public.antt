-- Lemmas for other crates.
use Rattle.std.proofs.Common.{ℕ, List}
use Rattle.text_io.proofs.Public.{some-text}
use Rattle.text_io.specs.Lines.{lines_of}
use Rattle.text_io.specs.declared.ending.Done.{Done}
use Rattle.cmd_explain_script.specs.ScriptText.{IsScriptExplained, before_script, script_rules}
use Rattle.cmd_explain_script.specs.inner.ScriptLaws.{script-total}

-- Every script has a text.
pub some-script_text : (octets : List ℕ) → (text : List ℕ) × (done : Done) × IsScriptExplained octets text done
some-script_text octets = some-text script_rules script-total (lines_of octets) 0 before_script tt
