-- A capture has at most one reading.
use Rattle.std.proofs.Common.{◌≡◌, ◌+◌, inl, inr, ℕ, List, [], ◌∷◌, length, take, drop, Option, Some, None, Result, Ok, Err, arith, refl, ◌∙◌, sym, ap, subst}
use Rattle.std.proofs.lemmas.Bool.{cases_lt}
use Rattle.captures.specs.Frames.{Frame, first_frame}
use Rattle.captures.specs.Framing.{Framed}
use Rattle.captures.specs.Links.{IsChannelOf, channel_before}
use Rattle.captures.specs.Marks.{AreMarksOf, marks_before}
use Rattle.captures.specs.Reading.{EndsReading, HasOneReading, IsReading, IsGiven, IsRecordFault, count_after}
use Rattle.captures.specs.Record.{HasExtensions}
use Rattle.captures.specs.RecordContent.{IsContent, cell_place, octets_of_cell}
use Rattle.captures.specs.RecordReading.{IsRecordOf}
use Rattle.captures.specs.declared.block.SkippedKind.{SkippedKind}
use Rattle.captures.specs.declared.content.NoCell.{NoCell}
use Rattle.captures.specs.declared.content.NoCell.TheVariants.{OtherType, Errored, CutShort}
use Rattle.captures.specs.declared.fault.Fault.{Fault}
use Rattle.captures.specs.declared.fault.RecordFault.{RecordFault}
use Rattle.captures.specs.declared.format.Format.{Format}
use Rattle.captures.specs.declared.format.Format.TheVariants.{Erf, Pcap, PcapNg}
use Rattle.captures.specs.declared.link.Channel.{Channel}
use Rattle.captures.specs.declared.link.Link.{Link}
use Rattle.captures.specs.declared.marks.Marks.{Marks}
use Rattle.captures.specs.declared.reader.SkippedBlock.{SkippedBlock}
use Rattle.captures.specs.declared.reader.Record.{Record}

-- A record has one number of extension headers.
one_extensions : (octets : List ℕ) (n m : ℕ) → HasExtensions octets n → HasExtensions octets m → n ≡ m
one_extensions octets n m one other =
    elim (cases_lt n m) [
      | inl less ↦ absurd (omega (arith, other.more n less, one.last))
      | inr least ↦ elim (cases_lt m n) [
        | inl less ↦ absurd (omega (arith, one.more m less, other.last))
        | inr most ↦ omega arith
      ]
    ]

-- A record holds one thing.
one_content : (octets : List ℕ) (a b : Result (List ℕ) NoCell) → IsContent octets a → IsContent octets b → a ≡ b
one_content octets (Err (OtherType n)) (Err (OtherType m)) one other = ap (λ k. Err (OtherType k)) (one.1 ∙ sym other.1)
one_content octets (Err (OtherType n)) (Err Errored) one other = absurd (one.0 other.0)
one_content octets (Err (OtherType n)) (Err (CutShort m)) one other = absurd (one.0 other.0.0)
one_content octets (Err (OtherType n)) (Ok cell) one other = absurd (one.0 other.0.0)
one_content octets (Err Errored) (Err (OtherType m)) one other = absurd (other.0 one.0)
one_content octets (Err Errored) (Err Errored) one other = refl
one_content octets (Err Errored) (Err (CutShort m)) one other = absurd (other.0.1 one.1)
one_content octets (Err Errored) (Ok cell) one other = absurd (other.0.1 one.1)
one_content octets (Err (CutShort n)) (Err (OtherType m)) one other = absurd (other.0 one.0.0)
one_content octets (Err (CutShort n)) (Err Errored) one other = absurd (one.0.1 other.1)
one_content octets (Err (CutShort n)) (Err (CutShort m)) one other =
    let same : one.1.0 ≡ other.1.0 = one_extensions octets one.1.0 other.1.0 one.1.1 other.1.1 in
    ap (λ k. Err (CutShort k)) (one.1.2.1 ∙ ap (λ k. octets_of_cell octets (cell_place octets k)) same ∙ sym other.1.2.1)
one_content octets (Err (CutShort n)) (Ok cell) one other =
    let same : one.1.0 ≡ other.1.0 = one_extensions octets one.1.0 other.1.0 one.1.1 other.1.1 in
    let left : octets_of_cell octets (cell_place octets one.1.0) ≡ octets_of_cell octets (cell_place octets other.1.0) = ap (λ k. octets_of_cell octets (cell_place octets k)) same in
    absurd (omega (arith, left, one.1.2.0, other.1.2.0))
one_content octets (Ok cell) (Err (OtherType m)) one other = absurd (other.0 one.0.0)
one_content octets (Ok cell) (Err Errored) one other = absurd (one.0.1 other.1)
one_content octets (Ok cell) (Err (CutShort n)) one other =
    let same : one.1.0 ≡ other.1.0 = one_extensions octets one.1.0 other.1.0 one.1.1 other.1.1 in
    let left : octets_of_cell octets (cell_place octets one.1.0) ≡ octets_of_cell octets (cell_place octets other.1.0) = ap (λ k. octets_of_cell octets (cell_place octets k)) same in
    absurd (omega (arith, left, one.1.2.0, other.1.2.0))
one_content octets (Ok cell) (Ok second) one other =
    let same : one.1.0 ≡ other.1.0 = one_extensions octets one.1.0 other.1.0 one.1.1 other.1.1 in
    ap Ok (one.1.2.1 ∙ ap (λ k. take 52 (drop (cell_place octets k) octets)) same ∙ sym other.1.2.1)

-- A record has one channel.
one_channel : (octets : List ℕ) (content : Result (List ℕ) NoCell) (a b : Option Channel)
    → IsChannelOf octets content a → IsChannelOf octets content b → a ≡ b
one_channel octets (Err why) a b one other = one ∙ sym other
one_channel octets (Ok cell) a b one other =
    let same : one.0 ≡ other.0 = one_extensions octets one.0 other.0 one.1 other.1 in
    one.2 ∙ ap (λ k. channel_before octets (cell_place octets k)) same ∙ sym other.2

same_parts : (a b : Link) → a.packet_interface ≡ b.packet_interface → a.interface ≡ b.interface → a.channel ≡ b.channel → a ≡ b
same_parts a b packets interfaces channels =
    ap (λ n. record a { packet_interface = n }) packets
    ∙ ap (λ n. record a { packet_interface = b.packet_interface; interface = n }) interfaces
    ∙ ap (λ n. record b { channel = n }) channels

-- A record has one set of marks.
same_marks : (octets : List ℕ) (content : Result (List ℕ) NoCell) (a b : Marks) → AreMarksOf octets content a → AreMarksOf octets content b → a ≡ b
same_marks octets (Err why) a b one other = one ∙ sym other
same_marks octets (Ok cell) a b one other =
    let same : one.0 ≡ other.0 = one_extensions octets one.0 other.0 one.1 other.1 in
    one.2 ∙ ap (λ k. marks_before octets (cell_place octets k)) same ∙ sym other.2

same_record : (a b : Record) → a.number ≡ b.number → a.link ≡ b.link → a.marks ≡ b.marks → a.time ≡ b.time → a.content ≡ b.content → a ≡ b
same_record a b numbers links marks times contents =
    ap (λ n. record a { number = n }) numbers
    ∙ ap (λ n. record a { number = b.number; link = n }) links
    ∙ ap (λ n. record b { marks = n; time = a.time; content = a.content }) marks
    ∙ ap (λ n. record b { time = n; content = a.content }) times
    ∙ ap (λ n. record b { content = n }) contents

-- A record has one reading.
one_record_of : (number : ℕ) (framed : Framed) (a b : Record) → IsRecordOf number framed a → IsRecordOf number framed b → a ≡ b
one_record_of number framed a b one other =
    let contents : a.content ≡ b.content = one_content framed.octets a.content b.content one.content other.content in
    let moved : IsChannelOf framed.octets b.content a.link.channel =
    subst (λ (content : Result (List ℕ) NoCell). IsChannelOf framed.octets content a.link.channel) contents one.channel
    in
    let marked : AreMarksOf framed.octets b.content a.marks =
    subst (λ (content : Result (List ℕ) NoCell). AreMarksOf framed.octets content a.marks) contents one.marks
    in
    same_record
    a
    b
    (one.numbered ∙ sym other.numbered)
    (same_parts a.link b.link (one.packet_interface ∙ sym other.packet_interface) (one.interface ∙ sym other.interface)
    (one_channel framed.octets b.content a.link.channel b.link.channel moved other.channel))
    (same_marks framed.octets b.content a.marks b.marks marked other.marks)
    (one.time ∙ sym other.time)
    contents

-- Octets end a file for one reason.
one_fault : (format : Format) (at : ℕ) (octets : List ℕ) (a b : RecordFault)
    → IsRecordFault format at octets a → IsRecordFault format at octets b → a ≡ b
one_fault format at octets a b (inl one) (inl other) = one.2 ∙ sym other.2
one_fault format at octets a b (inl one) (inr other) = let bad : None ≡ Some (Err b) = sym one.1 ∙ other in cc
one_fault format at octets a b (inr one) (inl other) = let bad : None ≡ Some (Err a) = sym other.1 ∙ one in cc
one_fault format at octets a b (inr one) (inr other) = let same : Some (Err a) ≡ Some (Err b) = sym one ∙ other in cc

-- No octets begin with no frame.
nothing_first : (format : Format) (at : ℕ) → first_frame format at [] ≡ None
nothing_first Erf at = refl
nothing_first (Pcap order times) at = refl
nothing_first (PcapNg section) at = refl

-- A fault is of octets.
no_fault : (format : Format) (at : ℕ) (octets : List ℕ) (reason : RecordFault) → octets ≡ [] → IsRecordFault format at octets reason → ⊥
no_fault format at octets reason none (inl one) = omega (arith, ap length none, one.0)
no_fault format at octets reason none (inr one) =
    let bad : None ≡ Some (Err reason) = sym (ap (first_frame format at) none ∙ nothing_first format at) ∙ one in cc

-- A reading ends in one way.
one_ending : (format : Format) (at : ℕ) (octets : List ℕ) (a b : Option Fault)
    → EndsReading format at octets a → EndsReading format at octets b → a ≡ b
one_ending format at octets None None one other = refl
one_ending format at octets None (Some fault) one other = absurd (no_fault format at octets fault.reason one other.1)
one_ending format at octets (Some fault) None one other = absurd (no_fault format at octets fault.reason other one.1)
one_ending format at octets (Some fault) (Some second) one other =
    ap
    Some
    (ap (λ n. record fault { at = n }) (one.0 ∙ sym other.0)
    ∙ ap (λ n. record second { reason = n }) (one_fault format at octets fault.reason second.reason one.1 other.1))

-- Where a reading ends, no frame begins.
ends_apart : (format : Format) (at : ℕ) (octets : List ℕ) (ending : Option Fault) (frame : Frame)
    → first_frame format at octets ≡ Some (Ok frame) → EndsReading format at octets ending → ⊥
ends_apart format at octets None frame begins ends =
    let bad : None ≡ Some (Ok frame) = sym (ap (first_frame format at) ends ∙ nothing_first format at) ∙ begins in cc
ends_apart format at octets (Some fault) frame begins (same, inl ends) = let bad : None ≡ Some (Ok frame) = sym ends.1 ∙ begins in cc
ends_apart format at octets (Some fault) frame begins (same, inr ends) =
    let bad : Some (Err fault.reason) ≡ Some (Ok frame) = sym ends ∙ begins in cc

-- One thing is given of a frame.
one_given : (count at : ℕ) (held : Result Framed SkippedKind) (a b : Result Record SkippedBlock) → IsGiven count at held a → IsGiven count at held b → a ≡ b
one_given count at (Err unread) (Err block) (Err second) one other = ap Err (one ∙ sym other)
one_given count at (Err unread) (Err block) (Ok record_read) one other = absurd other
one_given count at (Err unread) (Ok record_read) b one other = absurd one
one_given count at (Ok framed) (Err block) b one other = absurd one
one_given count at (Ok framed) (Ok record_read) (Err block) one other = absurd other
one_given count at (Ok framed) (Ok record_read) (Ok second) one other = ap Ok (one_record_of (count + 1) framed record_read second one other)

-- Octets have one reading.
reading_only : (format : Format) (count at : ℕ) (octets : List ℕ) (frames others : List (Result Record SkippedBlock)) (ending other : Option Fault)
    → IsReading format count at octets frames ending → IsReading format count at octets others other
    → (frames ≡ others) × (ending ≡ other)
reading_only format count at octets [] [] ending other one second = (refl, one_ending format at octets ending other one second)
reading_only format count at octets [] (given ∷ others) ending other one second =
    absurd (ends_apart format at octets ending second.0 second.1 one)
reading_only format count at octets (given ∷ frames) [] ending other one second =
    absurd (ends_apart format at octets other one.0 one.1 second)
reading_only format count at octets (given ∷ frames) (rival ∷ others) ending other one second =
    let whole : Some (Ok second.0) ≡ Some (Ok one.0) = sym second.1 ∙ one.1 in
    let frame : second.0 ≡ one.0 = cc in
    let P : Frame → Type 0 = λ f. IsGiven count at f.held rival
    × IsReading f.after (count_after count rival) (at + f.size) (drop f.size octets) others other in
    let moved : P one.0 = subst P frame (second.2, second.3) in
    let same : rival ≡ given = one_given count at one.0.held rival given moved.0 one.2 in
    let Goes : Result Record SkippedBlock → Type 0 = λ g.
    IsReading one.0.after (count_after count g) (at + one.0.size) (drop one.0.size octets) others other in
    let later : (frames ≡ others) × (ending ≡ other) =
    reading_only one.0.after (count_after count given) (at + one.0.size) (drop one.0.size octets) frames others ending other one.3
    (subst Goes same moved.1)
    in
    (ap (λ g. g ∷ frames) (sym same) ∙ ap (λ rest. rival ∷ rest) later.0, later.1)

pub one_reading : HasOneReading
one_reading format count at octets frames others ending other one second = reading_only format count at octets frames others ending other one second
