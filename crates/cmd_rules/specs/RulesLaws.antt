-- What is proved of the texts that `upc-lab rules` prints.
use Rattle.std.specs.Prelude.{◌≡◌, ℕ, List}
use Rattle.text_io.specs.declared.ending.Done.{Done}
use Rattle.cmd_rules.specs.RulesText.{IsRulesText}

-- An input has one text, with one end.
abbrev pub RulesHaveOneText : Type 0
RulesHaveOneText =
    (octets answer other : List ℕ) (done finish : Done) → IsRulesText octets answer done → IsRulesText octets other finish → (answer ≡ other) × (done ≡ finish)
