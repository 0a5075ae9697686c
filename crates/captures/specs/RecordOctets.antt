-- The octets of a record as its frame has them, and the place of its cell among them.
use Rattle.std.specs.Prelude.{◌≡◌, ◌≤◌, ℕ, List, [], length, take, drop, Option, Some, None, Result, Ok, Err, IfOk}
use Rattle.captures.specs.Frames.{Frame}
use Rattle.captures.specs.Framing.{Framed}
use Rattle.captures.specs.RecordContent.{FromCellPlace, IsContent}
use Rattle.captures.specs.declared.block.SkippedKind.{SkippedKind}
use Rattle.captures.specs.declared.fault.RecordFault.{RecordFault}

-- The octets of the record in a frame. A frame without a record has none.
abbrev pub octets_held : Result Framed SkippedKind → List ℕ
octets_held (Ok framed) = framed.octets
octets_held (Err unread) = []

-- The octets of the record in the first frame. Without a whole frame there are none.
abbrev pub octets_of_first : Option (Result Frame RecordFault) → List ℕ
octets_of_first None = []
octets_of_first (Some (Err reason)) = []
octets_of_first (Some (Ok frame)) = octets_held frame.held

-- The record in the first frame, if there is one, has its first header.
abbrev pub IsHeaded : Option (Result Frame RecordFault) → Type 0
IsHeaded None = Unit {0}
IsHeaded (Some (Err reason)) = Unit {0}
IsHeaded (Some (Ok frame)) = IfOk frame.held (λ framed. 16 ≤ length framed.octets)

-- The record holds a cell, which begins at this place.
pub record HasCellAt (octets : List ℕ) (place : ℕ) : Type 0 where
  pub content : IsContent octets (Ok (take 52 (drop place octets)))
  pub place_of : FromCellPlace octets (λ it. place ≡ it)

-- The record holds no cell.
abbrev pub HasNoCell : List ℕ → Type 0
HasNoCell octets = (cell : List ℕ) → ¬ IsContent octets (Ok cell)
