-- The reading of a capture: its records and what was passed over between them, in order, and then its end or the first
-- place at which it is no capture.
use Rattle.std.specs.Prelude.{◌≡◌, ◌≤◌, ◌<◌, ◌+◌, ◌^◌, ◌⊎◌, ℕ, List, [], ◌∷◌, ◌++◌, length, drop, Option, Some, None, Result, Ok, Err}
use Rattle.captures.specs.Blocks.{count_past, most_block}
use Rattle.captures.specs.Frames.{Frame, first_frame}
use Rattle.captures.specs.Framing.{Framed}
use Rattle.captures.specs.RecordReading.{IsRecordOf}
use Rattle.captures.specs.declared.block.SkippedKind.{SkippedKind}
use Rattle.captures.specs.declared.fault.Fault.{Fault}
use Rattle.captures.specs.declared.fault.RecordFault.{RecordFault}
use Rattle.captures.specs.declared.fault.RecordFault.TheVariants.{CutOff}
use Rattle.captures.specs.declared.format.Format.{Format}
use Rattle.captures.specs.declared.reader.Next.{Next}
use Rattle.captures.specs.declared.reader.Next.TheVariants.{Taken, Skipped, Unfinished, Broken}
use Rattle.captures.specs.declared.reader.SkippedBlock.{SkippedBlock}
use Rattle.captures.specs.declared.reader.Reader.{Reader}
use Rattle.captures.specs.declared.reader.Record.{Record}

-- A file that ends with these octets ends inside a frame.
abbrev pub IsCutOff : Format → ℕ → List ℕ → RecordFault → Type 0
IsCutOff format at octets reason = (0 < length octets) × (first_frame format at octets ≡ None) × (reason ≡ CutOff)

-- Why the octets with which a file ends, and which come at this place, begin with no frame.
abbrev pub IsRecordFault : Format → ℕ → List ℕ → RecordFault → Type 0
IsRecordFault format at octets reason = IsCutOff format at octets reason ⊎ (first_frame format at octets ≡ Some (Err reason))

-- The reading ends at this place, before these octets: there are none, or they begin with no frame.
abbrev pub EndsReading : Format → ℕ → List ℕ → Option Fault → Type 0
EndsReading format at octets None = octets ≡ []
EndsReading format at octets (Some fault) = (fault.at ≡ at) × IsRecordFault format at octets fault.reason

-- What is given of a frame after this many numbers, at this place: the record in it, which has the next number, or what is
-- skipped, and its place.
abbrev pub IsGiven : ℕ → ℕ → Result Framed SkippedKind → Result Record SkippedBlock → Type 0
IsGiven count at (Err unread) (Err block) = block ≡ record { what = unread; at = at }
IsGiven count at (Err unread) (Ok record_read) = ⊥
IsGiven count at (Ok framed) (Err block) = ⊥
IsGiven count at (Ok framed) (Ok record_read) = IsRecordOf (count + 1) framed record_read

-- How many numbers were given after a frame: a record has one, and so has a packet that is passed over.
abbrev pub count_after : ℕ → Result Record SkippedBlock → ℕ
count_after count (Err block) = count_past count block.what
count_after count (Ok record_read) = count + 1

-- After this many numbers, at this place, the octets are read as frames of which this is given, in order, and then end:
-- the whole capture was read, or this is its first fault.
abbrev pub IsReading : Format → ℕ → ℕ → List ℕ → List (Result Record SkippedBlock) → Option Fault → Type 0
IsReading format count at octets [] ending = EndsReading format at octets ending
IsReading format count at octets (given ∷ frames) ending =
    (frame : Frame) × (first_frame format at octets ≡ Some (Ok frame)) × IsGiven count at frame.held given
    × IsReading frame.after (count_after count given) (at + frame.size) (drop frame.size octets) frames ending

-- A reader goes on by one frame of this many octets, of which this is given. A frame has one octet at least.
pub record TakesFrame (before : Reader) (octets : List ℕ) (given : Result Record SkippedBlock) (consumed : ℕ) (after : Reader) : Type 0 where
  pub frame : Frame
  pub first : first_frame before.format before.at octets ≡ Some (Ok frame)
  pub given_of : IsGiven before.count before.at frame.held given
  pub size : consumed ≡ frame.size
  pub some : 0 < consumed
  pub within : consumed ≤ length octets
  pub near : before.at + consumed < 2 ^ 64
  pub format : after.format ≡ frame.after
  pub count : after.count ≡ count_after before.count given
  pub at : after.at ≡ before.at + consumed

-- A reader stays where it is.
pub record IsSamePlace (before after : Reader) : Type 0 where
  pub format : after.format ≡ before.format
  pub count : after.count ≡ before.count
  pub at : after.at ≡ before.at

-- What comes next for a reader at octets, of which more may follow, and the reader after it: the frame with which they
-- begin, what is given of it, and how many octets it has; or more octets are wanted; or a fault, whatever follows.
abbrev pub ComesNext : Reader → List ℕ → Next → Reader → Type 0
ComesNext before octets (Taken record_read consumed) after = TakesFrame before octets (Ok record_read) consumed after
ComesNext before octets (Skipped block consumed) after = TakesFrame before octets (Err block) consumed after
ComesNext before octets Unfinished after =
    (first_frame before.format before.at octets ≡ None) × (length octets < most_block) × IsSamePlace before after
ComesNext before octets (Broken fault) after =
    (fault.at ≡ before.at) × (first_frame before.format before.at octets ≡ Some (Err fault.reason)) × IsSamePlace before after

-- A reading begins with the frame that comes next, and goes on as the reading of what follows it.
abbrev pub FramesAreReadInOrder : Type 0
FramesAreReadInOrder = (before after : Reader) (octets more : List ℕ) (given : Result Record SkippedBlock) (consumed : ℕ) (frames : List (Result Record SkippedBlock)) (ending : Option Fault)
    → TakesFrame before octets given consumed after
    → IsReading after.format after.count after.at (drop consumed octets ++ more) frames ending
    → IsReading before.format before.count before.at (octets ++ more) (given ∷ frames) ending

-- A reading ends with the fault that comes next, whatever follows.
abbrev pub FaultsEndReadings : Type 0
FaultsEndReadings = (before after : Reader) (octets more : List ℕ) (fault : Fault)
    → ComesNext before octets (Broken fault) after
    → IsReading before.format before.count before.at (octets ++ more) [] (Some fault)

-- A capture has at most one reading.
abbrev pub HasOneReading : Type 0
HasOneReading = (format : Format) (count at : ℕ) (octets : List ℕ) (frames others : List (Result Record SkippedBlock)) (ending other : Option Fault)
    → IsReading format count at octets frames ending → IsReading format count at octets others other
    → (frames ≡ others) × (ending ≡ other)

-- Any octets have a reading.
abbrev pub HasSomeReading : Type 0
HasSomeReading = (format : Format) (count at : ℕ) (octets : List ℕ)
    → (frames : List (Result Record SkippedBlock)) × (ending : Option Fault) × IsReading format count at octets frames ending
