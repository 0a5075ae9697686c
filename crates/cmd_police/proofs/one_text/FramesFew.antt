-- A capture has fewer cells than a line has verdicts: each is in a frame of 12 octets or more, and frames end before octet 2^64.
use Rattle.std.proofs.Common.{◌≡◌, ◌≤◌, ◌<◌, ◌+◌, ◌*◌, ◌%◌, ◌^◌, ◌==◌, ℕ, Bool, true, false, if◌then◌else◌, List, [], ◌∷◌, length, take, drop, Option, Some, None, Result, Ok, Err, nat_lt, refl, sym, ap, subst, arith}
use Rattle.std.proofs.lemmas.Bool.{ltb-false, ltb-true}
use Rattle.std.proofs.lemmas.Option.{same_Some}
use Rattle.captures.specs.Blocks.{block_order, even_block, most_block}
use Rattle.captures.specs.Frames.{Frame, first_frame, frame_held, frame_of_size, frame_size, head_length, held_frame}
use Rattle.captures.specs.Framing.{Framed, number_in_order, or_fault, sized}
use Rattle.captures.specs.Reading.{IsReading, count_after}
use Rattle.captures.specs.Record.{record_length}
use Rattle.captures.specs.declared.block.SkippedKind.{SkippedKind}
use Rattle.captures.specs.declared.fault.RecordFault.{RecordFault}
use Rattle.captures.specs.declared.fault.RecordFault.TheVariants.{LongLength, OddLength, ShortLength, TooFar}
use Rattle.captures.specs.declared.fault.Fault.{Fault}
use Rattle.captures.specs.declared.format.Format.{Format}
use Rattle.captures.specs.declared.format.Format.TheVariants.{Erf, Pcap, PcapNg}
use Rattle.captures.specs.declared.format.Order.{Order}
use Rattle.captures.specs.declared.reader.SkippedBlock.{SkippedBlock}
use Rattle.captures.specs.declared.reader.Record.{Record}
use Rattle.captures_text.specs.CellFilter.{CellsEnd, FilterState, HasCells, captured_cells, captured_then, filter_block, filter_record}
use Rattle.captures_text.specs.declared.captured_cell.CapturedCell.{CapturedCell}
use Rattle.captures_text.specs.declared.filter.Filtered.{Filtered}
use Rattle.captures_text.specs.declared.filter.Filtered.TheVariants.{Counts, Skipped, SecondLink}

same_Ok : (size other : ℕ) → ◌≡◌ {A = Result ℕ RecordFault} (Ok size) (Ok other) → size ≡ other
same_Ok size other e = cc

-- A length field has its least value at least.
sized_least : (before least most stated size : ℕ) → sized before least most stated ≡ Ok size → least ≤ size
sized_least before least most stated size = by (nat_lt stated least) (nat_lt most stated) refl
  where
    by : (short long : Bool) → nat_lt stated least ≡ short
        → ◌≡◌ {A = Result ℕ RecordFault} (if short then Err (ShortLength stated) else if long then Err (LongLength stated) else Ok (before + stated)) (Ok size) → least ≤ size
    by true long e never = absurd (cc)
    by false true e never = absurd (cc)
    by false false e is =
        let enough = ltb-false stated least e in
        let whole = same_Ok (before + stated) size is in omega (arith, enough, whole)

even_is : (stated size : ℕ) → even_block stated ≡ Ok size → stated ≡ size
even_is stated size = by (stated % 4 == 0)
  where
    by : (b : Bool) → ◌≡◌ {A = Result ℕ RecordFault} (if b then Ok stated else Err (OddLength stated)) (Ok size) → stated ≡ size
    by true is = same_Ok stated size is
    by false never = absurd (cc)

block_least : (order : Result Order RecordFault) (octets : List ℕ) (size : ℕ)
    → or_fault order (λ order. or_fault (sized 0 12 most_block (number_in_order order (drop 4 octets))) even_block) ≡ Ok size → 12 ≤ size
block_least (Err reason) octets size never = absurd (cc)
block_least (Ok order) octets size is = by (sized 0 12 most_block (number_in_order order (drop 4 octets))) refl is
  where
    by : (found : Result ℕ RecordFault) → sized 0 12 most_block (number_in_order order (drop 4 octets)) ≡ found → or_fault found even_block ≡ Ok size → 12 ≤ size
    by (Err reason) e never = absurd (cc)
    by (Ok stated) e is = subst (λ n. 12 ≤ n) (even_is stated size is) (sized_least 0 12 most_block (number_in_order order (drop 4 octets)) stated e)

-- A frame has 12 octets at least.
size_least : (format : Format) (octets : List ℕ) (size : ℕ) → frame_size format octets ≡ Ok size → 12 ≤ size
unfolding frame_size
size_least Erf octets size is = let least = sized_least 0 16 65535 (record_length octets) size is in omega (arith, least)
size_least (Pcap order times) octets size is = let least = sized_least 16 16 65535 (number_in_order order (drop 8 octets)) size is in omega (arith, least)
size_least (PcapNg section) octets size is = block_least (block_order section octets) octets size is

-- It ends before octet 2^64.
held_near : (at size : ℕ) (held : Result (Format × Result Framed SkippedKind) RecordFault) (frame : Frame) → held_frame at size held ≡ Ok frame
    → (frame.size ≡ size) × (at + size < 2 ^ 64)
held_near at size (Err reason) frame never = absurd (cc)
held_near at size (Ok it) frame is = by (nat_lt (at + size) (2 ^ 64)) refl is
  where
    by : (near : Bool) → nat_lt (at + size) (2 ^ 64) ≡ near
        → ◌≡◌ {A = Result Frame RecordFault} (if near then Ok (record { size = size; after = it.0; held = it.1 }) else Err TooFar) (Ok frame)
        → (frame.size ≡ size) × (at + size < 2 ^ 64)
    by true e is =
        let own : frame ≡ record { size = size; after = it.0; held = it.1 } = cc in
        (ap (λ (f : Frame). f.size) own, ltb-true (at + size) (2 ^ 64) e)
    by false e never = absurd (cc)

abbrev IsWide : ℕ → Frame → Type 0
IsWide at frame = (12 ≤ frame.size) × (at + frame.size < 2 ^ 64)

of_size : (format : Format) (at : ℕ) (octets : List ℕ) (found : Result ℕ RecordFault) (frame : Frame) → frame_size format octets ≡ found
    → frame_of_size format at octets found ≡ Some (Ok frame) → IsWide at frame
of_size format at octets (Err reason) frame e never = absurd (cc)
of_size format at octets (Ok size) frame e is = by (nat_lt (length octets) size) is
  where
    by : (short : Bool) → ◌≡◌ {A = Option (Result Frame RecordFault)} (if short then None else Some (held_frame at size (frame_held format (take size octets)))) (Some (Ok frame))
        → IsWide at frame
    by true never = absurd (cc)
    by false is =
        let near = held_near at size (frame_held format (take size octets)) frame (same_Some (held_frame at size (frame_held format (take size octets))) (Ok frame) is) in
        let least = size_least format octets size e in
        let same = near.0 in
        let end = near.1 in
        (omega (arith, least, same), omega (arith, end, same))

first_wide : (format : Format) (at : ℕ) (octets : List ℕ) (frame : Frame) → first_frame format at octets ≡ Some (Ok frame) → IsWide at frame
first_wide format at octets frame is = by (nat_lt (length octets) (head_length format)) is
  where
    by : (short : Bool) → ◌≡◌ {A = Option (Result Frame RecordFault)} (if short then None else frame_of_size format at octets (frame_size format octets)) (Some (Ok frame))
        → IsWide at frame
    by true never = absurd (cc)
    by false is = of_size format at octets (frame_size format octets) frame refl is

pub frames_few : (frames : List (Result Record SkippedBlock)) (format : Format) (count at : ℕ) (octets : List ℕ) (ending : Option Fault) → at ≤ 2 ^ 64
    → IsReading format count at octets frames ending → at + 12 * length frames ≤ 2 ^ 64
frames_few [] format count at octets ending near reading = omega (arith, near)
frames_few (given ∷ frames) format count at octets ending near reading =
    let wide = first_wide format at octets reading.0 reading.1 in
    let least = wide.0 in
    let end = wide.1 in
    let rest = frames_few frames reading.0.after (count_after count given) (at + reading.0.size) (drop reading.0.size octets) ending (omega (arith, end)) reading.3 in
    omega (arith, rest, least)

-- Each cell that counts is in a frame.
then_few : (filtered : Filtered) (number : ℕ) (later : List CapturedCell) (many : ℕ) → length later ≤ many → length (captured_then filtered number later) ≤ many + 1
then_few (Counts moment cell) number later many few = omega (arith, few)
then_few Skipped number later many few = omega (arith, few)
then_few (SecondLink one other) number later many few = omega arith

captured_few : (state : FilterState) (frames : List (Result Record SkippedBlock)) → length (captured_cells state frames) ≤ length frames
captured_few state [] = omega arith
captured_few state (Err block ∷ frames) = let rest = captured_few (filter_block state block) frames in omega (arith, rest)
captured_few state (Ok record_read ∷ frames) =
    let rest = captured_few (filter_record state record_read).1 frames in
    let here = then_few (filter_record state record_read).0 record_read.number (captured_cells (filter_record state record_read).1 frames) (length frames) rest in
    omega (arith, here)

-- So a capture has fewer than 2^61 cells.
pub cells_few : (state : FilterState) (format : Format) (count at : ℕ) (octets : List ℕ) (cells : List CapturedCell) (end : CellsEnd) → at ≤ 2 ^ 64
    → HasCells state format count at octets cells end → length cells < 2 ^ 61
cells_few state format count at octets cells end near has =
    let frames = frames_few has.frames format count at octets has.ending near has.reading in
    let counted = captured_few state has.frames in
    let own : length (captured_cells state has.frames) < 2 ^ 61 = omega (arith, frames, counted) in
    subst (λ (xs : List CapturedCell). length xs < 2 ^ 61) (sym has.captured) own
