-- Lemmas for other crates.
use Rattle.std.proofs.Common.{◌≡◌, ◌≤◌, ◌<◌, ℕ, List, [], ◌++◌, length}
use Rattle.captures.specs.Frames.{format_start}
use Rattle.captures.specs.Opening.{OpeningsStay, file_opening, opening_of}
use Rattle.captures.specs.Reading.{FaultsEndReadings, FramesAreReadInOrder, HasOneReading, HasSomeReading}
use Rattle.captures.specs.declared.format.Format.{Format}
use Rattle.captures.specs.declared.opening.Opening.{Opening}
use Rattle.captures.specs.declared.opening.Opening.TheVariants.{Opened, Undecided}
use Rattle.captures.proofs.OneReading as one
use Rattle.captures.proofs.Openings as openings
use Rattle.captures.proofs.Readings as readings
use Rattle.captures.proofs.SomeReading as some

-- The law `frames_are_read_in_order`.
pub frames_in_order : FramesAreReadInOrder
frames_in_order = readings.frames_in_order

-- The law `faults_end_readings`.
pub faults_end : FaultsEndReadings
faults_end = readings.faults_end

-- The law `captures_have_one_reading`.
pub one_reading : HasOneReading
one_reading = one.one_reading

-- The law `captures_have_a_reading`.
pub some_reading : HasSomeReading
some_reading = some.some_reading

-- The law `openings_stay`.
pub openings_stay : OpeningsStay
openings_stay = openings.openings_stay

-- 24 octets decide what a file is.
pub undecided_short : (octets : List ℕ) → opening_of octets ≡ Undecided → length octets < 24
undecided_short = openings.undecided_short

-- The header of a file that was opened is among its octets.
pub header_within : (octets : List ℕ) (format : Format) → opening_of octets ≡ Opened format → format_start format ≤ length octets
header_within = openings.header_within

-- What a file is whose first octets are these, of which all were read if they decide nothing.
pub file_decided : (octets more : List ℕ) (opening : Opening) → file_opening octets ≡ opening → (opening_of octets ≡ Undecided → more ≡ [])
    → file_opening (octets ++ more) ≡ opening
file_decided = openings.file_decided

-- A file that was opened is no empty one.
pub file_opened : (octets : List ℕ) (format : Format) → file_opening octets ≡ Opened format → opening_of octets ≡ Opened format
file_opened = openings.file_opened

-- Nor is one that its octets don't decide.
pub file_undecided : (octets : List ℕ) → file_opening octets ≡ Undecided → opening_of octets ≡ Undecided
file_undecided = openings.file_undecided
