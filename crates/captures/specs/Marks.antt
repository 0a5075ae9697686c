-- What a record says of losses before it, and of doubts about its cell.
use Rattle.std.specs.Prelude.{◌≡◌, ◌-◌, ◌/◌, ◌%◌, ◌==◌, ◌||◌, nat_lt, if◌then◌else◌, Bool, false, ℕ, List, drop, Result, Ok, Err}
use Rattle.byteorder.specs.Endian.{big_number}
use Rattle.captures.specs.Record.{record_flags, record_losses, record_type}
use Rattle.captures.specs.RecordContent.{FromCellPlace}
use Rattle.captures.specs.declared.content.NoCell.{NoCell}
use Rattle.captures.specs.declared.marks.Marks.{Marks}

-- A record is of a type with cells.
abbrev pub has_cell_type : List ℕ → Bool
has_cell_type octets = record_type octets == 3 || record_type octets == 7

-- The marks in the first header: the loss counter, and bit 3 of the flags, which is set if the card cut the record off. Records of other
-- types have none.
abbrev pub header_marks : List ℕ → Marks
header_marks octets = record {
  losses = if has_cell_type octets then record_losses octets else 0;
  truncated = if has_cell_type octets then record_flags octets / 8 % 2 == 1 else false;
  lost_octet = false;
  header_corrected = false;
  crc_error = false;
}

-- Whether there is any mark.
abbrev pub has_mark : Marks → Bool
has_mark marks = nat_lt 0 marks.losses || marks.truncated || marks.lost_octet || marks.header_corrected || marks.crc_error

-- The marks with those of a multi-channel header, as the number in its four octets, the highest first: an octet was
-- lost (bit 24), the header of the cell was corrected by its check (bit 25), the CRC-10 of the cell is wrong (bit 26).
abbrev pub with_channel_marks : Marks → ℕ → Marks
with_channel_marks marks header = record marks {
  lost_octet = header / 16777216 % 2 == 1;
  header_corrected = header / 33554432 % 2 == 1;
  crc_error = header / 67108864 % 2 == 1;
}

-- The marks of a record whose cell begins at this place.
abbrev pub marks_before : List ℕ → ℕ → Marks
marks_before octets place =
    if record_type octets == 7 then with_channel_marks (header_marks octets) (big_number 4 (drop (place - 4) octets)) else header_marks octets

-- The marks of a record that holds this.
abbrev pub AreMarksOf : List ℕ → Result (List ℕ) NoCell → Marks → Type 0
AreMarksOf octets (Err why) marks = marks ≡ header_marks octets
AreMarksOf octets (Ok cell) marks = FromCellPlace octets (λ place. marks ≡ marks_before octets place)
