-- The frames of a capture in order, each with the octets of its record.
use Rattle.std.specs.Prelude.{◌≡◌, ◌+◌, ℕ, List, [], ◌∷◌, drop, Option, Some, Result, Ok}
use Rattle.captures.specs.Frames.{Frame, first_frame}
use Rattle.captures.specs.Reading.{EndsReading, IsGiven, count_after}
use Rattle.captures.specs.RecordOctets.{octets_held}
use Rattle.captures.specs.declared.fault.Fault.{Fault}
use Rattle.captures.specs.declared.format.Format.{Format}
use Rattle.captures.specs.declared.reader.SkippedBlock.{SkippedBlock}
use Rattle.captures.specs.declared.reader.Record.{Record}

-- What is given of a frame: its record, or what it is that has none; and the octets of the record.
pub record FrameRead : Type 0 where
  pub given : Result Record SkippedBlock
  pub octets : List ℕ

-- After this many records, at this place, the octets are read as these frames, in order, and then end: the whole
-- capture was read, or this is its first fault. So the reading is that of `IsReading`.
abbrev pub AreFrames : Format → ℕ → ℕ → List ℕ → List FrameRead → Option Fault → Type 0
AreFrames format count at octets [] ending = EndsReading format at octets ending
AreFrames format count at octets (read ∷ frames) ending =
    (frame : Frame) × (first_frame format at octets ≡ Some (Ok frame)) × IsGiven count at frame.held read.given × (read.octets ≡ octets_held frame.held)
    × AreFrames frame.after (count_after count read.given) (at + frame.size) (drop frame.size octets) frames ending
