-- What comes next in a capture, and its reading.
use Rattle.std.proofs.Common.{◌≡◌, ◌≤◌, ◌+◌, inr, ℕ, List, ◌++◌, length, drop, Option, Result, Ok, Err, arith, ◌∙◌, sym, ap, subst}
use Rattle.std.proofs.lemmas.List.{drop-append-le}
use Rattle.captures.specs.Reading.{FaultsEndReadings, FramesAreReadInOrder, IsReading, count_after}
use Rattle.captures.specs.declared.fault.Fault.{Fault}
use Rattle.captures.specs.declared.format.Format.{Format}
use Rattle.captures.specs.declared.reader.SkippedBlock.{SkippedBlock}
use Rattle.captures.specs.declared.reader.Record.{Record}
use Rattle.captures.proofs.Stays.{first_frame-append}

-- The same octets, place, count and format have the same reading.
reading_at : (format format' : Format) (count count' at at' : ℕ) (octets octets' : List ℕ) (frames : List (Result Record SkippedBlock))
    (ending : Option Fault)
    → format ≡ format' → count ≡ count' → at ≡ at' → octets ≡ octets'
    → IsReading format count at octets frames ending → IsReading format' count' at' octets' frames ending
reading_at format format' count count' at at' octets octets' frames ending formats counts places same reading =
    subst (λ (f : Format). IsReading f count' at' octets' frames ending) formats
    (subst (λ (n : ℕ). IsReading format n at' octets' frames ending) counts
    (subst (λ (n : ℕ). IsReading format count n octets' frames ending) places
    (subst (λ (xs : List ℕ). IsReading format count at xs frames ending) same reading)))

pub frames_in_order : FramesAreReadInOrder
frames_in_order before after octets more given own frames ending next reading =
    let within : next.frame.size ≤ length octets = omega (arith, next.size, next.within) in (
      next.frame,
      first_frame-append before.format before.at octets more (Ok next.frame) next.first,
      next.given_of,
      reading_at after.format next.frame.after after.count (count_after before.count given) after.at (before.at + next.frame.size)
          (drop own octets ++ more) (drop next.frame.size (octets ++ more)) frames ending
          next.format next.count (next.at ∙ ap (λ n. before.at + n) next.size)
          (ap (λ n. drop n octets ++ more) next.size ∙ sym (drop-append-le next.frame.size octets more within))
          reading,
    )

pub faults_end : FaultsEndReadings
faults_end before after octets more fault next =
    (next.0, inr (first_frame-append before.format before.at octets more (Err fault.reason) next.1))
