-- A capture has one list of frames, and what is written of a cell is one text.
use Rattle.std.proofs.Common.{◌≡◌, ◌+◌, inl, inr, ℕ, List, [], ◌∷◌, length, map, drop, Option, Some, Result, Ok, arith, refl, ◌∙◌, sym, ap, subst}
use Rattle.std.proofs.lemmas.Bool.{cases_lt}
use Rattle.std.proofs.lemmas.Option.{same_Some}
use Rattle.captures.proofs.Public.{one_reading}
use Rattle.captures.specs.Frames.{Frame}
use Rattle.captures.specs.Reading.{IsReading, count_after}
use Rattle.captures.specs.Record.{HasExtensions}
use Rattle.captures.specs.RecordContent.{cell_place}
use Rattle.captures.specs.RecordOctets.{octets_held}
use Rattle.captures.specs.declared.fault.Fault.{Fault}
use Rattle.captures.specs.declared.fault.RecordFault.{RecordFault}
use Rattle.captures.specs.declared.format.Format.{Format}
use Rattle.captures.specs.declared.reader.SkippedBlock.{SkippedBlock}
use Rattle.captures.specs.declared.reader.Record.{Record}
use Rattle.cmd_forward.specs.FramesRead.{AreFrames, FrameRead}
use Rattle.cmd_forward.specs.RecordsWritten.{IsCellWritten, tagged_record}
use Rattle.cmd_forward.specs.declared.onward.Onward.{Onward}
use Rattle.cmd_forward.specs.declared.onward.Onward.TheVariants.{Stays, Unchanged, Tagged}

-- What is given of frames.
abbrev pub givens : List FrameRead → List (Result Record SkippedBlock)
givens frames = map (λ read. read.given) frames

pub as_many : (frames : List FrameRead) → length (givens frames) ≡ length frames
as_many [] = refl
as_many (read ∷ frames) = let rest = as_many frames in omega (arith, rest)

-- The frames are a reading.
pub are_read : (frames : List FrameRead) (format : Format) (count at : ℕ) (octets : List ℕ) (ending : Option Fault)
    → AreFrames format count at octets frames ending → IsReading format count at octets (givens frames) ending
are_read [] format count at octets ending are = are
are_read (read ∷ frames) format count at octets ending (frame, first, is, whole, later) =
    (frame, first, is, are_read frames frame.after (count_after count read.given) (at + frame.size) (drop frame.size octets) ending later)

-- The same is given of as many frames, so they are the same.
read_once : (frames others : List FrameRead) (format : Format) (count at : ℕ) (octets : List ℕ) (ending other : Option Fault) → givens frames ≡ givens others
    → AreFrames format count at octets frames ending → AreFrames format count at octets others other → frames ≡ others
read_once [] [] format count at octets ending other same p q = refl
read_once [] (read ∷ others) format count at octets ending other same p q = absurd (cc)
read_once (read ∷ frames) [] format count at octets ending other same p q = absurd (cc)
read_once (read ∷ frames) (one ∷ others) format count at octets ending other same (frame, first, is, whole, later) (frame', first', is', whole', later') =
    let own : Some (Ok frame') ≡ Some (Ok frame) = sym first' ∙ first in
    let results : ◌≡◌ {A = Result Frame RecordFault} (Ok frame') (Ok frame) = same_Some (Ok frame') (Ok frame) own in
    let frames_same : frame' ≡ frame = cc in
    let given : read.given ≡ one.given = cc in
    let rest : givens frames ≡ givens others = cc in
    let octets_same : read.octets ≡ one.octets = whole ∙ ap (λ (f : Frame). octets_held f.held) (sym frames_same) ∙ sym whole' in
    let later_here : AreFrames frame.after (count_after count read.given) (at + frame.size) (drop frame.size octets) others other =
    subst (λ (f : Frame). AreFrames f.after (count_after count read.given) (at + f.size) (drop f.size octets) others other) frames_same
    (subst (λ (g : Result Record SkippedBlock). AreFrames frame'.after (count_after count g) (at + frame'.size) (drop frame'.size octets) others other) (sym given) later') in
    let tails = read_once frames others frame.after (count_after count read.given) (at + frame.size) (drop frame.size octets) ending other rest later later_here in
    λ i. record { given = given i; octets = octets_same i } ∷ tails i

pub one_frames : (format : Format) (count at : ℕ) (octets : List ℕ) (frames others : List FrameRead) (ending other : Option Fault)
    → AreFrames format count at octets frames ending → AreFrames format count at octets others other → (frames ≡ others) × (ending ≡ other)
one_frames format count at octets frames others ending other p q =
    let read = one_reading format count at octets (givens frames) (givens others) ending other
    (are_read frames format count at octets ending p) (are_read others format count at octets other q) in
    (read_once frames others format count at octets ending other read.0 p q, read.1)

-- A record has one number of extension headers, so its cell has one place.
extensions_once : (octets : List ℕ) (n m : ℕ) → HasExtensions octets n → HasExtensions octets m → n ≡ m
extensions_once octets n m one other =
    elim (cases_lt n m) [
      | inl less ↦ absurd (omega (arith, other.more n less, one.last))
      | inr least ↦ elim (cases_lt m n) [
        | inl less ↦ absurd (omega (arith, one.more m less, other.last))
        | inr most ↦ omega arith
      ]
    ]

pub written_once : (onward : Onward) (octets one other : List ℕ) → IsCellWritten onward octets one → IsCellWritten onward octets other → one ≡ other
written_once Stays octets one other p q = p ∙ sym q
written_once Unchanged octets one other p q = p ∙ sym q
written_once Tagged octets one other (extensions, has, text) (extensions', has', text') =
    let same : extensions ≡ extensions' = extensions_once octets extensions extensions' has has' in
    text ∙ ap (λ n. tagged_record octets (cell_place octets n)) same ∙ sym text'
