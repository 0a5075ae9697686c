-- What a record holds, if its type holds cells.
use Rattle.std.specs.Prelude.{◌≡◌, ◌≤◌, ◌<◌, ◌*◌, ◌+◌, ℕ, List, length, take, drop, Result, Ok, Err}
use Rattle.captures.specs.Record.{HasExtensions}
use Rattle.captures.specs.RecordContent.{IsErrored, octets_of_cell}
use Rattle.captures.specs.declared.content.NoCell.{NoCell}
use Rattle.captures.specs.declared.content.NoCell.TheVariants.{OtherType, Errored, CutShort}

-- From this place on, octets have a cell, or fewer octets.
abbrev pub IsCellFrom : List ℕ → ℕ → Result (List ℕ) NoCell → Type 0
IsCellFrom octets place (Ok cell) = (52 ≤ octets_of_cell octets place) × (cell ≡ take 52 (drop place octets))
IsCellFrom octets place (Err (CutShort number)) = (octets_of_cell octets place < 52) × (number ≡ octets_of_cell octets place)
IsCellFrom octets place (Err (OtherType number)) = ⊥
IsCellFrom octets place (Err Errored) = ⊥

-- What a record holds that has this many octets of multi-channel header.
abbrev pub IsReceived : List ℕ → ℕ → Result (List ℕ) NoCell → Type 0
IsReceived octets channel (Err Errored) = IsErrored octets
IsReceived octets channel (Err (OtherType number)) = ⊥
IsReceived octets channel (Err (CutShort number)) =
    (¬ IsErrored octets) × (n : ℕ) × HasExtensions octets n × IsCellFrom octets (16 + 8 * n + channel) (Err (CutShort number))
IsReceived octets channel (Ok cell) =
    (¬ IsErrored octets) × (n : ℕ) × HasExtensions octets n × IsCellFrom octets (16 + 8 * n + channel) (Ok cell)

-- A cell comes after the extension headers of a record and this many octets of multi-channel header.
abbrev pub ComesAfterHeaders : List ℕ → ℕ → ℕ → Type 0
ComesAfterHeaders octets channel place = (n : ℕ) × HasExtensions octets n × (place ≡ 16 + 8 * n + channel)

-- A cell of these octets begins at this place, and is what is held. Or this is why none is.
abbrev pub IsPlaced : (Result (List ℕ) NoCell → Type 0) → List ℕ → Result ℕ NoCell → Type 0
IsPlaced IsHeld octets (Ok place) = (place + 52 ≤ length octets) × IsHeld (Ok (take 52 (drop place octets)))
IsPlaced IsHeld octets (Err why) = IsHeld (Err why)
