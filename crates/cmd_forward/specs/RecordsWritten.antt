-- What is written of a record.
use Rattle.std.specs.Prelude.{◌≡◌, ◌+◌, ◌-◌, ℕ, List, [], ◌++◌, length, take, drop, replicate}
use Rattle.captures.specs.Record.{record_length}
use Rattle.captures.specs.RecordContent.{FromCellPlace}
use Rattle.upc_cell.specs.Tagged.{tagged_form}
use Rattle.cmd_forward.specs.declared.onward.Onward.{Onward}
use Rattle.cmd_forward.specs.declared.onward.Onward.TheVariants.{Stays, Unchanged, Tagged}
use Rattle.cmd_forward.specs.declared.others.Others.{Others}
use Rattle.cmd_forward.specs.declared.others.Others.TheVariants.{Pass, Drop}

-- The octets that a record lacks, where its packet was cut short of the length in its header: zeros.
abbrev pub octets_lacking : List ℕ → List ℕ
octets_lacking octets = replicate (record_length octets - length octets) 0

-- A record with as many octets as its length says.
abbrev pub whole_record : List ℕ → List ℕ
whole_record octets = octets ++ octets_lacking octets

-- The same, where the cell begins at this place, and is tagged. Nothing else is changed.
abbrev pub tagged_record : List ℕ → ℕ → List ℕ
tagged_record octets place =
    take place octets ++ (tagged_form (take 52 (drop place octets)) ++ (drop (place + 52) octets ++ octets_lacking octets))

-- What is written of a record whose cell counts, if its cell goes on so.
abbrev pub IsCellWritten : Onward → List ℕ → List ℕ → Type 0
IsCellWritten Stays octets text = text ≡ []
IsCellWritten Unchanged octets text = text ≡ whole_record octets
IsCellWritten Tagged octets text = FromCellPlace octets (λ place. text ≡ tagged_record octets place)

-- What is written of any other record.
abbrev pub other_written : Others → List ℕ → List ℕ
other_written Pass octets = whole_record octets
other_written Drop octets = []
