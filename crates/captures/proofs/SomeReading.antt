-- Any octets have a reading.
use Rattle.std.proofs.Common.{◌≡◌, ◌≤◌, ◌<◌, ◌+◌, ◌*◌, ◌/◌, ◌%◌, ◌^◌, inl, inr, ℕ, zero, suc, List, [], ◌∷◌, length, take, drop, slice_index, Option, Some, None, Result, Ok, Err, arith, refl, ◌∙◌, sym, ap, subst, length-drop}
use Rattle.std.proofs.lemmas.Bool.{cases_eq, cases_lt}
use Rattle.std.proofs.lemmas.Bool.Decides.{nat_tests}
use Rattle.std.proofs.lemmas.List.{get_or_past}
use Rattle.captures.specs.Blocks.{block_order, even_block, most_block}
use Rattle.captures.specs.Frames.{Frame, first_frame, frame_held, frame_of_size, frame_size, head_length, held_frame}
use Rattle.captures.specs.Framing.{Framed, number_in_order, or_fault, sized}
use Rattle.captures.specs.Marks.{AreMarksOf, header_marks, marks_before}
use Rattle.captures.specs.Reading.{HasSomeReading, IsReading, IsGiven, count_after}
use Rattle.captures.specs.Record.{HasExtensions, record_flags, record_interface, record_length, record_type}
use Rattle.captures.specs.Links.{IsChannelOf, channel_before}
use Rattle.captures.specs.RecordContent.{IsContent, IsErrored, IsOfCell, cell_place, octets_of_cell}
use Rattle.captures.specs.RecordReading.{IsRecordOf, time_in}
use Rattle.captures.specs.declared.block.SkippedKind.{SkippedKind}
use Rattle.captures.specs.declared.content.NoCell.{NoCell}
use Rattle.captures.specs.declared.content.NoCell.TheVariants.{OtherType, Errored, CutShort}
use Rattle.captures.specs.declared.fault.Fault.{Fault}
use Rattle.captures.specs.declared.fault.RecordFault.{RecordFault}
use Rattle.captures.specs.declared.fault.RecordFault.TheVariants.{CutOff, TooFar}
use Rattle.captures.specs.declared.format.Format.{Format}
use Rattle.captures.specs.declared.format.Format.TheVariants.{Erf, Pcap, PcapNg}
use Rattle.captures.specs.declared.format.Order.{Order}
use Rattle.captures.specs.declared.link.Channel.{Channel}
use Rattle.captures.specs.declared.marks.Marks.{Marks}
use Rattle.captures.specs.declared.reader.SkippedBlock.{SkippedBlock}
use Rattle.captures.specs.declared.reader.Record.{Record}
use Rattle.captures.proofs.First.{has_head, lacks_head, when_above, when_below}

-- Behind the end of octets there is nothing.
beyond : (octets : List ℕ) (n : ℕ) → length octets ≤ n → slice_index octets n ≡ 0
beyond octets n past = get_or_past octets n 0 past

-- A record has some number of extension headers.
extensions_from : (fuel n : ℕ) (octets : List ℕ) → length octets ≤ 8 + 8 * n + fuel
    → ((k : ℕ) → k < n → 128 ≤ slice_index octets (8 + 8 * k)) → (count : ℕ) × HasExtensions octets count
extensions_from zero n octets near so_far =
    (n, record { more = so_far; last = omega (arith, beyond octets (8 + 8 * n) (omega arith)) })
extensions_from (suc fuel) n octets near so_far =
    elim (cases_lt (slice_index octets (8 + 8 * n)) 128) [
      | inl last ↦ (n, record { more = so_far; last = last })
      | inr more ↦
          extensions_from fuel (n + 1) octets (omega arith)
          (λ k below. elim (cases_lt k n) [
            | inl less ↦ so_far k less
            | inr least ↦ let same : n ≡ k = omega arith in subst (λ (i : ℕ). 128 ≤ slice_index octets (8 + 8 * i)) same more
          ])
    ]

some_extensions : (octets : List ℕ) → (count : ℕ) × HasExtensions octets count
some_extensions octets = extensions_from (length octets) 0 octets (omega arith) (λ k below. absurd (omega arith))

-- A record holds something.
good_content : (octets : List ℕ) → IsOfCell octets → ¬ IsErrored octets → (content : Result (List ℕ) NoCell) × IsContent octets content
good_content octets kind good =
    let found = some_extensions octets in
    let place : ℕ = cell_place octets found.0 in
    elim (cases_lt (octets_of_cell octets place) 52) [
      | inl short ↦ (Err (CutShort (octets_of_cell octets place)), ((kind, good), (found.0, found.1, (short, refl))))
      | inr long ↦ (Ok (take 52 (drop place octets)), ((kind, good), (found.0, found.1, (long, refl))))
    ]

content_of_kind : (octets : List ℕ) → IsOfCell octets → (content : Result (List ℕ) NoCell) × IsContent octets content
content_of_kind octets kind =
    elim (cases_eq (record_flags octets / 16 % 4) 0) [
      | inl none ↦ good_content octets kind (λ errored. errored none)
      | inr some ↦ (Err Errored, (kind, some))
    ]

some_content : (octets : List ℕ) → (content : Result (List ℕ) NoCell) × IsContent octets content
some_content octets =
    elim (cases_eq (record_type octets) 3) [
      | inl plain ↦ content_of_kind octets (inl plain)
      | inr other ↦ elim (cases_eq (record_type octets) 7) [
        | inl channel ↦ content_of_kind octets (inr channel)
        | inr neither ↦ (
          Err (OtherType (record_type octets)),
          ((λ kind. elim kind [ inl is ↦ other is | inr is ↦ neither is ]), refl),
        )
      ]
    ]

some_channel : (octets : List ℕ) (content : Result (List ℕ) NoCell) → IsContent octets content → (channel : Option Channel) × IsChannelOf octets content channel
some_channel octets (Err why) holds = (None, refl)
some_channel octets (Ok cell) holds = (channel_before octets (cell_place octets holds.1.0), (holds.1.0, holds.1.1, refl))

some_marks : (octets : List ℕ) (content : Result (List ℕ) NoCell) → IsContent octets content → (marks : Marks) × AreMarksOf octets content marks
some_marks octets (Err why) holds = (header_marks octets, refl)
some_marks octets (Ok cell) holds = (marks_before octets (cell_place octets holds.1.0), (holds.1.0, holds.1.1, refl))

some_record_of : (number : ℕ) (framed : Framed) → (record_read : Record) × IsRecordOf number framed record_read
some_record_of number framed =
    let content = some_content framed.octets in
    let channel = some_channel framed.octets content.0 content.1 in
    let marks = some_marks framed.octets content.0 content.1 in (
      record {
        number = number;
        link = record { packet_interface = framed.packet_interface; interface = record_interface framed.octets; channel = channel.0 };
        marks = marks.0;
        time = time_in framed;
        content = content.0;
      },
      record { numbered = refl; packet_interface = refl; interface = refl; channel = channel.1; marks = marks.1; time = refl; content = content.1 },
    )

some_given : (count at : ℕ) (held : Result Framed SkippedKind) → (given : Result Record SkippedBlock) × IsGiven count at held given
some_given count at (Err unread) = (Err (record { what = unread; at = at }), refl)
some_given count at (Ok framed) = let record_read = some_record_of (count + 1) framed in (Ok record_read.0, record_read.1)

-- A frame has octets, and no more than there are.
sized_some : (before least most stated size : ℕ) → 0 < before + least → sized before least most stated ≡ Ok size → 0 < size
sized_some before least most stated size some is =
    elim (cases_lt stated least) [
      | inl short ↦ let bad = sym (when_below stated least _ _ short) ∙ is in cc
      | inr long ↦ elim (cases_lt most stated) [
        | inl far ↦ let bad = sym (when_above stated least _ _ long ∙ when_below most stated _ _ far) ∙ is in cc
        | inr near ↦
            let same : Ok (before + stated) ≡ Ok size = sym (when_above stated least _ _ long ∙ when_above most stated _ _ near) ∙ is in
            let equal : before + stated ≡ size = cc in omega arith
      ]
    ]

even_some : (r : Result ℕ RecordFault) (size : ℕ) → ((n : ℕ) → r ≡ Ok n → 0 < n) → or_fault r even_block ≡ Ok size → 0 < size
even_some (Err reason) size some is = cc
even_some (Ok n) size some is =
    elim (cases_eq (n % 4) 0) [
      | inl even ↦ let same : n ≡ size = grind (arith, nat_tests) in omega (arith, some n refl)
      | inr odd ↦ absurd (grind (arith, nat_tests))
    ]

block_some : (order : Result Order RecordFault) (octets : List ℕ) (size : ℕ)
    → or_fault order (λ o. or_fault (sized 0 12 most_block (number_in_order o (drop 4 octets))) even_block) ≡ Ok size → 0 < size
block_some (Err reason) octets size is = cc
block_some (Ok order) octets size is =
    even_some (sized 0 12 most_block (number_in_order order (drop 4 octets))) size
    (λ n one. sized_some 0 12 most_block (number_in_order order (drop 4 octets)) n (omega arith) one) is

-- The size of a frame is that of its length field.
size_of_held : (at size : ℕ) (held : Result (Format × Result Framed SkippedKind) RecordFault) (frame : Frame) → held_frame at size held ≡ Ok frame → frame.size ≡ size
size_of_held at size (Err reason) frame is = cc
size_of_held at size (Ok held) frame is =
    elim (cases_lt (at + size) (2 ^ 64)) [
      | inl near ↦
          let same : Ok (record { size = size; after = held.0; held = held.1 }) ≡ Ok frame = sym (when_below (at + size) (2 ^ 64) _ _ near) ∙ is in
          let equal : record { size = size; after = held.0; held = held.1 } ≡ frame = cc in sym (ap (λ f. f.size) equal)
      | inr far ↦ let bad : Err TooFar ≡ Ok frame = sym (when_above (at + size) (2 ^ 64) _ _ far) ∙ is in cc
    ]

size_some : (format : Format) (octets : List ℕ) (size : ℕ) → frame_size format octets ≡ Ok size → 0 < size
unfolding frame_size
size_some Erf octets size is = sized_some 0 16 65535 (record_length octets) size (omega arith) is
size_some (Pcap order times) octets size is = sized_some 16 16 65535 (number_in_order order (drop 8 octets)) size (omega arith) is
size_some (PcapNg section) octets size is = block_some (block_order section octets) octets size is

of_size_some : (format : Format) (at : ℕ) (octets : List ℕ) (size : Result ℕ RecordFault) (frame : Frame)
    → ((n : ℕ) → size ≡ Ok n → 0 < n) → frame_of_size format at octets size ≡ Some (Ok frame) → (0 < frame.size) × (frame.size ≤ length octets)
of_size_some format at octets (Err reason) frame some is = let bad : Some (Err reason) ≡ Some (Ok frame) = is in cc
of_size_some format at octets (Ok size) frame some is =
    elim (cases_lt (length octets) size) [
      | inl short ↦ let bad : None ≡ Some (Ok frame) = sym (when_below (length octets) size None (Some (held_frame at size (frame_held format (take size octets)))) short) ∙ is in cc
      | inr long ↦
          let whole : Some (held_frame at size (frame_held format (take size octets))) ≡ Some (Ok frame) =
          sym (when_above (length octets) size None (Some (held_frame at size (frame_held format (take size octets)))) long) ∙ is
          in
          let inner : held_frame at size (frame_held format (take size octets)) ≡ Ok frame = cc in
          let same : frame.size ≡ size = size_of_held at size (frame_held format (take size octets)) frame inner in
          let least : 0 < size = some size refl in
          (omega arith, omega arith)
    ]

frame_some : (format : Format) (at : ℕ) (octets : List ℕ) (frame : Frame) → first_frame format at octets ≡ Some (Ok frame)
    → (0 < frame.size) × (frame.size ≤ length octets)
frame_some format at octets frame is =
    elim (cases_lt (length octets) (head_length format)) [
      | inl short ↦ let bad : None ≡ Some (Ok frame) = sym (lacks_head format at octets short) ∙ is in cc
      | inr long ↦ of_size_some format at octets (frame_size format octets) frame (size_some format octets) (sym (has_head format at octets long) ∙ is)
    ]

-- ---- the reading of any octets

abbrev SomeReadings : Format → ℕ → ℕ → List ℕ → Type 0
SomeReadings format count at octets = (frames : List (Result Record SkippedBlock)) × (ending : Option Fault) × IsReading format count at octets frames ending

nothing_left : (octets : List ℕ) → length octets ≡ 0 → octets ≡ []
nothing_left [] none = refl
nothing_left (x ∷ xs) none = absurd (omega (arith, none))

-- Where no frame begins, the reading ends.
ended : (format : Format) (count at : ℕ) (octets : List ℕ) (answer : Option (Result Frame RecordFault)) → first_frame format at octets ≡ answer
    → ((frame : Frame) → answer ≡ Some (Ok frame) → SomeReadings format count at octets) → SomeReadings format count at octets
ended format count at octets None is goes =
    elim (cases_eq (length octets) 0) [
      | inl none ↦ ([], None, nothing_left octets none)
      | inr some ↦ let positive : 0 < length octets = omega arith in ([], Some (record { at = at; reason = CutOff }), (refl, inl (positive, is, refl)))
    ]
ended format count at octets (Some (Err reason)) is goes = ([], Some (record { at = at; reason = reason }), (refl, inr is))
ended format count at octets (Some (Ok frame)) is goes = goes frame refl

some_readings : (fuel : ℕ) (format : Format) (count at : ℕ) (octets : List ℕ) → length octets ≤ fuel → SomeReadings format count at octets
some_readings zero format count at octets short = ([], None, nothing_left octets (omega arith))
some_readings (suc fuel) format count at octets short =
    ended format count at octets (first_frame format at octets) refl
    (λ frame is.
    let size = frame_some format at octets frame is in
    let given = some_given count at frame.held in
    let rest = some_readings fuel frame.after (count_after count given.0) (at + frame.size) (drop frame.size octets)
    (omega (arith, length-drop frame.size octets, size.0))
    in
    (given.0 ∷ rest.0, rest.1, (frame, is, given.1, rest.2)))

pub some_reading : HasSomeReading
some_reading format count at octets = some_readings (length octets) format count at octets (omega arith)
