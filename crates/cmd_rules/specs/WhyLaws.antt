-- What is proved of the texts that `upc-lab why` prints.
use Rattle.std.specs.Prelude.{◌≡◌, ℕ, Bool, List, ◌++◌}
use Rattle.text_io.specs.Lines.{lines_of}
use Rattle.text_io.specs.declared.ending.Done.{Done}
use Rattle.cmd_rules.specs.WhyText.{IsWhyText, rules_before}

-- The text of the rules is the beginning of the input, octet by octet. So its lines have the numbers that they have in the input.
abbrev pub RulesBeginTheInput : Type 0
RulesBeginTheInput = (octets : List ℕ) → (more : List ℕ) × (octets ≡ rules_before (lines_of octets) ++ more)

-- An input has one text, with one end, whether cells are counted or not.
abbrev pub WhyHasOneText : Type 0
WhyHasOneText =
    (counts : Bool) (octets answer other : List ℕ) (done finish : Done) → IsWhyText counts octets answer done → IsWhyText counts octets other finish → (answer ≡ other) × (done ≡ finish)
