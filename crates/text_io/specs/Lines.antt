-- The lines of a text.
use Rattle.std.specs.Prelude.{ℕ, ◌==◌, ◌-◌, Bool, true, false, if◌then◌else◌, List, [], ◌∷◌, ◌++◌, codes, length, slice_index, take}

-- A line: its octets, and whether a line feed ended it.
pub record Line : Type 0 where
  pub octets : List ℕ
  pub ended : Bool

-- Puts an octet in front of the first line.
abbrev pub begun_with : ℕ → List Line → List Line
begun_with octet [] = (record { octets = octet ∷ []; ended = false }) ∷ []
begun_with octet (line ∷ lines) = (record { octets = octet ∷ line.octets; ended = line.ended }) ∷ lines

-- The lines of the octets. Each ends with a line feed (10); the last may end with the octets instead. No line follows
-- a final line feed.
abbrev pub lines_of : List ℕ → List Line
lines_of [] = []
lines_of (octet ∷ octets) =
    if octet == 10 then (record { octets = []; ended = true }) ∷ lines_of octets else begun_with octet (lines_of octets)

-- The octets without one carriage return (13) at their end.
abbrev pub without_return : List ℕ → List ℕ
without_return octets =
    if slice_index octets (length octets - 1) == 13 then take (length octets - 1) octets else octets

-- The content of a line: its octets, without a carriage return just before its line feed.
abbrev pub line_content : Line → List ℕ
line_content line = if line.ended then without_return line.octets else line.octets

-- The octets of a line, with its line feed if one ends it.
abbrev pub line_with_feed : Line → List ℕ
line_with_feed line = if line.ended then line.octets ++ codes "\n" else line.octets
