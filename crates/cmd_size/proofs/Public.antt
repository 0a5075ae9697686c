-- Lemmas for other crates.
use Rattle.std.proofs.Common.{◌≡◌, ℕ, List}
use Rattle.text_io.specs.declared.ending.Done.{Done}
use Rattle.cmd_size.specs.SizeText.{IsSizesText}
use Rattle.cmd_size.proofs.OneText as texts

-- An input has a text of `size`.
pub some-sizes_text : (octets : List ℕ) → (text : List ℕ) × (done : Done) × IsSizesText octets text done
some-sizes_text = texts.some-sizes_text

-- It has only one.
pub one-sizes_text : (octets one other : List ℕ) (ends other_ends : Done) → IsSizesText octets one ends → IsSizesText octets other other_ends → (one ≡ other) × (ends ≡ other_ends)
one-sizes_text = texts.one-sizes_text
