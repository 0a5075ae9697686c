-- Tallies of seats.
use Rattle.std.proofs.Common.{◌≡◌, ℕ, zero, suc, ◌+◌, ◌<◌, List, replicate, Some, refl, sym, ap, ◌∙◌, arith}
use Rattle.std.specs.Prelude.{slice_get, slice_set}
use Rattle.leaky.specs.declared.verdict.Verdict.{Verdict}
use Rattle.leaky.specs.declared.verdict.Verdict.TheVariants.{Pass, Tag, Discard, Refuse}
use Rattle.line_record.specs.declared.tally.Tally.{Tally}
use Rattle.line_record.specs.Tally.{nothing, counted, count_of, plus, total, HasRoom, IsPartTally}
use Rattle.line_record.proofs.Public.{parts_are_within}
use Rattle.port_card.specs.Seats.{SeatView, tally_or_nothing, counted_on}

-- A sum of zeros is zero.
pub total-unused : (lines : ℕ) → total (replicate lines nothing) ≡ nothing
total-unused zero = refl
total-unused (suc lines) = ap (plus nothing) (total-unused lines)

-- A tally that is part of a tally with room has room.
pub room_in-part : (part whole : Tally) (verdict : Verdict) → IsPartTally part whole → HasRoom whole
    → count_of part verdict + 1 < 18446744073709551616
room_in-part part whole Pass within room = omega (arith, within.passed, room.passed)
room_in-part part whole Tag within room = omega (arith, within.tagged, room.tagged)
room_in-part part whole Discard within room = omega (arith, within.discarded, room.discarded)
room_in-part part whole Refuse within room = omega (arith, within.refused, room.refused)

IsPart-trans : (part whole larger : Tally) → IsPartTally part whole → IsPartTally whole larger → IsPartTally part larger
IsPart-trans part whole larger first second = record {
  passed = omega (arith, first.passed, second.passed);
  tagged = omega (arith, first.tagged, second.tagged);
  discarded = omega (arith, first.discarded, second.discarded);
  refused = omega (arith, first.refused, second.refused);
}

-- One of several tallies has room if their sum is part of a tally with room.
pub room_on-line : (tallies : List Tally) (line : ℕ) (tally whole : Tally) (verdict : Verdict)
    → slice_get tallies line ≡ Some tally → IsPartTally (total tallies) whole → HasRoom whole
    → count_of tally verdict + 1 < 18446744073709551616
room_on-line tallies line tally whole verdict at within room =
    room_in-part tally whole verdict
    (IsPart-trans tally (total tallies) whole (parts_are_within.total tallies line tally at) within) room

-- The seat after one of its tallies counts one cell.
pub counted-seat : (port from line : ℕ) (tallies : List Tally) (here next : Tally) (verdict : Verdict)
    → from ≡ line → slice_get tallies from ≡ Some here → next ≡ counted here verdict
    → (let after : SeatView = record { port = port; tallies = slice_set tallies from next } in after)
    ≡ counted_on (record { port = port; tallies = tallies }) line verdict
counted-seat port from line tallies here next verdict same at is =
    let Here : ℕ → Tally → SeatView = λ place tally. record { port = port; tallies = slice_set tallies place tally } in
    let there : here ≡ tally_or_nothing (slice_get tallies line) = sym (ap tally_or_nothing at) ∙ ap (λ (n : ℕ). tally_or_nothing (slice_get tallies n)) same in
    ap (Here from) (is ∙ ap (λ (t : Tally). counted t verdict) there)
    ∙ ap (λ (n : ℕ). Here n (counted (tally_or_nothing (slice_get tallies line)) verdict)) same
