-- The octets of the texts that lines of a script share.
use Rattle.std.specs.Prelude.{ℕ, List, map}
use Rattle.cmd_setups.specs.declared.shared_text.SharedText.{SharedText}

-- The octets of a text.
abbrev pub octets_of_text : SharedText → List ℕ
octets_of_text text = text.octets.value.items

-- The octets of each text.
abbrev pub octets_of_texts : List SharedText → List (List ℕ)
octets_of_texts texts = map octets_of_text texts
