-- The facts that higher crates may use in their proofs.
use Rattle.std.proofs.Common.{◌≡◌, ℕ, List, Option, Some, None, refl}
use Rattle.text_io.specs.Devices.{Adds}
use Rattle.text_card.specs.AddsSome.{AddsSome}

-- Octets that were appended are the text that exists.
pub adds-some : (found : Option (List ℕ)) (before after : List ℕ) → AddsSome found before after → Adds (λ text. found ≡ Some text) before after
adds-some None before after added = absurd added
adds-some (Some text) before after added = (text, added, refl)
