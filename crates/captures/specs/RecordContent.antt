-- The cell in a record, or why there is none.
use Rattle.std.specs.Prelude.{◌≡◌, ◌≢◌, ◌≤◌, ◌<◌, ◌*◌, ◌+◌, ◌-◌, ◌/◌, ◌%◌, ◌⊎◌, ◌==◌, ℕ, List, length, take, drop, min, if◌then◌else◌, Result, Ok, Err}
use Rattle.captures.specs.Record.{record_type, record_flags, record_wire_length, HasExtensions}
use Rattle.captures.specs.declared.content.NoCell.{NoCell}
use Rattle.captures.specs.declared.content.NoCell.TheVariants.{OtherType, Errored, CutShort}

-- A record holds a cell as it is (type 3, ATM), or after a multi-channel header (type 7, MC_ATM).
abbrev pub IsOfCell : List ℕ → Type 0
IsOfCell octets = (record_type octets ≡ 3) ⊎ (record_type octets ≡ 7)

-- A record was received or stored with an error: bit 4 or bit 5 of its flags is set.
abbrev pub IsErrored : List ℕ → Type 0
IsErrored octets = record_flags octets / 16 % 4 ≢ 0

-- How many octets of multi-channel header a record of this type has before its cell.
abbrev pub channel_octets : ℕ → ℕ
channel_octets kind = if kind == 7 then 4 else 0

-- Where the cell of a record begins: after the header of 16 octets, the extension headers of eight octets, and the
-- multi-channel header.
abbrev pub cell_place : List ℕ → ℕ → ℕ
cell_place octets extensions = 16 + 8 * extensions + channel_octets (record_type octets)

-- A record was received without an error, and is of a type that holds a cell.
abbrev pub IsGoodCell : List ℕ → Type 0
IsGoodCell octets = IsOfCell octets × (¬ IsErrored octets)

-- P holds of the place at which the cell of a record begins.
abbrev pub FromCellPlace : List ℕ → (ℕ → Type 0) → Type 0
FromCellPlace octets P = (extensions : ℕ) × HasExtensions octets extensions × P (cell_place octets extensions)

-- How many octets of a cell a record has from this place on: as many as came by the link, and no more than there are. What comes after
-- them is padding.
abbrev pub octets_of_cell : List ℕ → ℕ → ℕ
octets_of_cell octets place = min (length octets - place) (record_wire_length octets)

-- What a record holds: no cell if it is of another type or was received with an error. Otherwise the 52 octets from the place
-- of the cell, or no cell if it has fewer of it.
abbrev pub IsContent : List ℕ → Result (List ℕ) NoCell → Type 0
IsContent octets (Err (OtherType number)) = (¬ IsOfCell octets) × (number ≡ record_type octets)
IsContent octets (Err Errored) = IsOfCell octets × IsErrored octets
IsContent octets (Err (CutShort number)) =
    IsGoodCell octets × FromCellPlace octets (λ place. (octets_of_cell octets place < 52) × (number ≡ octets_of_cell octets place))
IsContent octets (Ok cell) =
    IsGoodCell octets × FromCellPlace octets (λ place. (52 ≤ octets_of_cell octets place) × (cell ≡ take 52 (drop place octets)))
