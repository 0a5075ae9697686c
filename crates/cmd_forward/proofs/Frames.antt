-- The frames of octets: each frame leads from those of what follows to those of the whole.
use Rattle.std.proofs.Common.{◌≡◌, ◌≤◌, ◌+◌, ℕ, List, [], ◌∷◌, ◌++◌, length, drop, Option, Result, Ok, Err, arith, refl, ◌∙◌, sym, ap, subst}
use Rattle.std.proofs.lemmas.List.{drop-append-le}
use Rattle.captures.proofs.Public.{some_reading}
use Rattle.captures.proofs.Stays.{first_frame-append}
use Rattle.captures.specs.Frames.{first_frame}
use Rattle.captures.specs.Framing.{Framed}
use Rattle.captures.specs.Reading.{IsGiven, IsReading, TakesFrame, count_after}
use Rattle.captures.specs.RecordContent.{IsContent}
use Rattle.captures.specs.RecordOctets.{octets_held, octets_of_first}
use Rattle.captures.specs.declared.block.SkippedKind.{SkippedKind}
use Rattle.captures.specs.declared.fault.Fault.{Fault}
use Rattle.captures.specs.declared.format.Format.{Format}
use Rattle.captures.specs.declared.reader.SkippedBlock.{SkippedBlock}
use Rattle.captures.specs.declared.reader.Reader.{Reader}
use Rattle.captures.specs.declared.reader.Record.{Record}
use Rattle.cmd_forward.specs.FramesRead.{AreFrames, FrameRead}

-- The same octets, place, count and format have the same frames.
frames_at : (format format' : Format) (count count' at at' : ℕ) (octets octets' : List ℕ) (frames : List FrameRead) (ending : Option Fault)
    → format ≡ format' → count ≡ count' → at ≡ at' → octets ≡ octets'
    → AreFrames format count at octets frames ending → AreFrames format' count' at' octets' frames ending
frames_at format format' count count' at at' octets octets' frames ending formats counts places same are =
    subst (λ (f : Format). AreFrames f count' at' octets' frames ending) formats
    (subst (λ (n : ℕ). AreFrames format n at' octets' frames ending) counts
    (subst (λ (n : ℕ). AreFrames format count n octets' frames ending) places
    (subst (λ (xs : List ℕ). AreFrames format count at xs frames ending) same are)))

-- One frame more.
pub frame_before : (before after : Reader) (octets more whole : List ℕ) (given : Result Record SkippedBlock) (own : ℕ) (frames : List FrameRead) (ending : Option Fault)
    → TakesFrame before octets given own after → whole ≡ octets_of_first (first_frame before.format before.at octets)
    → AreFrames after.format after.count after.at (drop own octets ++ more) frames ending
    → AreFrames before.format before.count before.at (octets ++ more) (record { given = given; octets = whole } ∷ frames) ending
frame_before before after octets more whole given own frames ending takes is are =
    let within : takes.frame.size ≤ length octets = omega (arith, takes.size, takes.within) in (
      takes.frame,
      first_frame-append before.format before.at octets more (Ok takes.frame) takes.first,
      takes.given_of,
      is ∙ ap octets_of_first takes.first,
      frames_at after.format takes.frame.after after.count (count_after before.count given) after.at (before.at + takes.frame.size)
          (drop own octets ++ more) (drop takes.frame.size (octets ++ more)) frames ending
          takes.format takes.count (takes.at ∙ ap (λ n. before.at + n) takes.size)
          (ap (λ n. drop n octets ++ more) takes.size ∙ sym (drop-append-le takes.frame.size octets more within))
          are,
    )

-- Octets that have a reading have these frames.
frames_of : (format : Format) (count at : ℕ) (octets : List ℕ) (givens : List (Result Record SkippedBlock)) (ending : Option Fault)
    → IsReading format count at octets givens ending → (frames : List FrameRead) × AreFrames format count at octets frames ending
frames_of format count at octets [] ending reading = ([], reading)
frames_of format count at octets (given ∷ givens) ending (frame, first, is, later) =
    let rest = frames_of frame.after (count_after count given) (at + frame.size) (drop frame.size octets) givens ending later in
    (record { given = given; octets = octets_held frame.held } ∷ rest.0, (frame, first, is, refl, rest.1))

-- Any octets have frames.
pub some_frames : (format : Format) (count at : ℕ) (octets : List ℕ) → (frames : List FrameRead) × (ending : Option Fault) × AreFrames format count at octets frames ending
some_frames format count at octets =
    let read = some_reading format count at octets in
    let frames = frames_of format count at octets read.0 read.1 read.2 in
    (frames.0, read.1, frames.1)

-- What is held by a frame of which a record is given is the content of the record.
pub content_held : (count at : ℕ) (held : Result Framed SkippedKind) (record_read : Record) → IsGiven count at held (Ok record_read)
    → IsContent (octets_held held) record_read.content
content_held count at (Ok framed) record_read is = is.content
content_held count at (Err unread) record_read is = absurd is
