-- What is proved of explanations.
use Rattle.std.specs.Prelude.{◌≡◌, ℕ, List}
use Rattle.text_io.specs.declared.ending.Done.{Done}
use Rattle.cmd_explain_script.specs.ScriptText.{IsScriptExplained}

-- A script has one explanation, and it has a fault or none, although a card chooses the slots of programs and the lines of connections.
abbrev pub ScriptsHaveOneExplanation : Type 0
ScriptsHaveOneExplanation = (octets one other : List ℕ) (ends other_ends : Done)
    → IsScriptExplained octets one ends → IsScriptExplained octets other other_ends → (one ≡ other) × (ends ≡ other_ends)
