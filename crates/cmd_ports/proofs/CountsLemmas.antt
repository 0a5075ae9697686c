-- The counts of cells: of one cell, of several, and of the seats that counted them.
use Rattle.std.proofs.Common.{◌≡◌, ℕ, ◌+◌, List, [], ◌∷◌, ◌++◌, All, get_or, length, map, take, ◌<◌, option_to_list, Option, Some, None, replicate, zero, suc, refl, ap, sym, ◌∙◌, arith}
use Rattle.std.proofs.lemmas.List.{append-nil, map-append, take_more}
use Rattle.std.proofs.lemmas.List.Elements.{All-from_get_or, All-rest}
use Rattle.std.proofs.lemmas.Option.{slice_get-get_or}
use Rattle.leaky.specs.declared.verdict.Verdict.{Verdict}
use Rattle.leaky.specs.declared.verdict.Verdict.TheVariants.{Pass, Tag, Discard, Refuse}
use Rattle.line_record.specs.declared.tally.Tally.{Tally}
use Rattle.line_record.specs.Tally.{nothing, counted, plus, total}
use Rattle.line_record.proofs.Public.{totals_join}
use Rattle.card_core.specs.Sections.{JudgedView, judged_in_answer}
use Rattle.card_core.specs.declared.answer.Answer.{Answer}
use Rattle.card_core.specs.declared.answer.Answer.TheVariants.{Judged, NoConnection, Released, Stale, MomentTooLate, MomentBack, JournalFull, NoMemory}
use Rattle.port_card.specs.Closing.{seats_total}
use Rattle.port_card.specs.Seats.{AreNewSeats, SeatView, counts_after, new_seat, tally_of_seat}
use Rattle.cmd_ports.specs.LineAnswers.{counts_of}
use Rattle.cmd_ports.specs.declared.answered.AnsweredCell.{AnsweredCell}
use Rattle.cmd_ports.specs.inner.Answered.{answered_cell, cell_counts, cells_counts, stored_counts}

right-zero : (n : ℕ) → n + 0 ≡ n
right-zero n = omega arith

left-zero : (n : ℕ) → 0 + n ≡ n
left-zero n = omega arith

regroup : (a b c : ℕ) → a + b + c ≡ a + (b + c)
regroup a b c = omega arith

pub plus-nothing : (tally : Tally) → plus tally nothing ≡ tally
plus-nothing tally = λ i. record {
  passed = right-zero tally.passed i;
  tagged = right-zero tally.tagged i;
  discarded = right-zero tally.discarded i;
  refused = right-zero tally.refused i;
}

pub nothing-plus : (tally : Tally) → plus nothing tally ≡ tally
nothing-plus tally = λ i. record {
  passed = left-zero tally.passed i;
  tagged = left-zero tally.tagged i;
  discarded = left-zero tally.discarded i;
  refused = left-zero tally.refused i;
}

pub plus-regroup : (a b c : Tally) → plus (plus a b) c ≡ plus a (plus b c)
plus-regroup a b c = λ i. record {
  passed = regroup a.passed b.passed c.passed i;
  tagged = regroup a.tagged b.tagged c.tagged i;
  discarded = regroup a.discarded b.discarded c.discarded i;
  refused = regroup a.refused b.refused c.refused i;
}

-- The first of three may be added before the others.
swap-left : (a b c : ℕ) → a + (b + c) ≡ b + (a + c)
swap-left a b c = omega arith

pub plus-swap-left : (a b c : Tally) → plus a (plus b c) ≡ plus b (plus a c)
plus-swap-left a b c = λ i. record {
  passed = swap-left a.passed b.passed c.passed i;
  tagged = swap-left a.tagged b.tagged c.tagged i;
  discarded = swap-left a.discarded b.discarded c.discarded i;
  refused = swap-left a.refused b.refused c.refused i;
}

-- One more cell is a sum with the counts of that cell.
counted-plus : (tally : Tally) (verdict : Verdict) → counted tally verdict ≡ plus tally (counted nothing verdict)
counted-plus tally Pass = λ i. record {
  passed = tally.passed + 1;
  tagged = sym (right-zero tally.tagged) i;
  discarded = sym (right-zero tally.discarded) i;
  refused = sym (right-zero tally.refused) i;
}
counted-plus tally Tag = λ i. record {
  passed = sym (right-zero tally.passed) i;
  tagged = tally.tagged + 1;
  discarded = sym (right-zero tally.discarded) i;
  refused = sym (right-zero tally.refused) i;
}
counted-plus tally Discard = λ i. record {
  passed = sym (right-zero tally.passed) i;
  tagged = sym (right-zero tally.tagged) i;
  discarded = tally.discarded + 1;
  refused = sym (right-zero tally.refused) i;
}
counted-plus tally Refuse = λ i. record {
  passed = sym (right-zero tally.passed) i;
  tagged = sym (right-zero tally.tagged) i;
  discarded = sym (right-zero tally.discarded) i;
  refused = tally.refused + 1;
}

after-plus : (tally : Tally) (judged : Option JudgedView) → counts_after tally judged ≡ plus tally (counts_after nothing judged)
after-plus tally None = sym (plus-nothing tally)
after-plus tally (Some judged) = counted-plus tally judged.verdict

-- The stored part of an answer has the answer's counts.
pub same-counts : (cell : List ℕ) (answer : Answer) → cell_counts (answered_cell cell answer) ≡ counts_of answer
same-counts cell (Judged line number when value program verdict leaving) = refl
same-counts cell NoConnection = refl
same-counts cell Released = refl
same-counts cell Stale = refl
same-counts cell MomentTooLate = refl
same-counts cell (MomentBack last) = refl
same-counts cell JournalFull = refl
same-counts cell NoMemory = refl

-- The counts of a seat after one more answer.
pub seat-counted : (old new : Tally) (cell : List ℕ) (answer : Answer) (stored : AnsweredCell) → stored ≡ answered_cell cell answer
    → new ≡ counts_after old (judged_in_answer answer) → new ≡ plus old (cell_counts stored)
seat-counted old new cell answer stored kept is =
    is ∙ after-plus old (judged_in_answer answer) ∙ ap (plus old) (sym (same-counts cell answer)) ∙ ap (λ (c : AnsweredCell). plus old (cell_counts c)) (sym kept)

-- One more cell, or none.
pub cells-more : (cells : List AnsweredCell) (one : Option AnsweredCell) → cells_counts (cells ++ option_to_list one) ≡ plus (cells_counts cells) (stored_counts one)
cells-more cells None = ap cells_counts (append-nil cells) ∙ sym (plus-nothing (cells_counts cells))
cells-more cells (Some one) =
    ap total (map-append cell_counts cells (one ∷ [])) ∙ totals_join (map cell_counts cells) (cell_counts one ∷ [])
    ∙ ap (plus (cells_counts cells)) (plus-nothing (cell_counts one))

-- The counts of a port after one more line.
pub port-counted : (old new : Tally) (cells cells' : List AnsweredCell) (one : Option AnsweredCell) → cells' ≡ cells ++ option_to_list one
    → old ≡ cells_counts cells → new ≡ plus old (stored_counts one) → new ≡ cells_counts cells'
port-counted old new cells cells' one pushed was is =
    is ∙ ap (λ (t : Tally). plus t (stored_counts one)) was ∙ sym (cells-more cells one) ∙ ap cells_counts (sym pushed)

-- Seats that counted exactly their cells have the counts of all these cells.
pub seats-counted : {X : Type 0} (seat : X → SeatView) (cells : X → List AnsweredCell) → ((x : X) → tally_of_seat (seat x) ≡ cells_counts (cells x)) → (ports : List X)
    → total (map cells_counts (map cells ports)) ≡ seats_total (map seat ports)
seats-counted seat cells each [] = refl
seats-counted seat cells each (port ∷ ports) =
    ap (λ (t : Tally). plus t (total (map cells_counts (map cells ports)))) (sym (each port))
    ∙ ap (plus (tally_of_seat (seat port))) (seats-counted seat cells each ports)

-- New seats have counted no cell.
no-counts : (lines : ℕ) → total (replicate lines nothing) ≡ nothing
no-counts zero = refl
no-counts (suc lines) = ap (plus nothing) (no-counts lines)

pub new-unused : (seats : List SeatView) (ports lines : ℕ) → AreNewSeats seats ports lines → All (λ seat. tally_of_seat seat ≡ nothing) seats
new-unused seats ports lines new =
    let other = new_seat 0 lines in
    All-from_get_or (λ (seat : SeatView). tally_of_seat seat ≡ nothing) seats other
    (λ i within. ap tally_of_seat (new.new i (get_or seats i other) (slice_get-get_or seats i other within)) ∙ no-counts lines)

-- The seats after the first.
pub unused_rest : (seats others : List SeatView) (seat : SeatView) → All (λ one. tally_of_seat one ≡ nothing) seats → seats ≡ seat ∷ others
    → All (λ one. tally_of_seat one ≡ nothing) others
unused_rest seats others seat unused are = All-rest (λ (one : SeatView). tally_of_seat one ≡ nothing) seat others seats are unused

-- One more port has its lines.
pub jobs-more : {J O : Type 0} (v : J → List (List ℕ)) (w : O → List (List ℕ)) (jobs jobs' : List J) (job : J) (owns : List O) (k : ℕ) (own : O)
    → jobs' ≡ jobs ++ job ∷ [] → v job ≡ w own → own ≡ get_or owns k own → k < length owns → map v jobs ≡ map w (take k owns)
    → map v jobs' ≡ map w (take (k + 1) owns)
jobs-more v w jobs jobs' job owns k own pushed same at within was =
    ap (map v) pushed ∙ map-append v jobs (job ∷ []) ∙ ap (λ (xs : List (List (List ℕ))). xs ++ v job ∷ []) was
    ∙ ap (λ (x : List (List ℕ)). map w (take k owns) ++ x ∷ []) same
    ∙ sym (map-append w (take k owns) (own ∷ [])) ∙ ap (λ o. map w (take k owns ++ o ∷ [])) at
    ∙ sym (ap (map w) (take_more owns k own within))
