-- A long journal is dropped before a cell of its connection arrives.
use Rattle.std.proofs.Common.{◌≡◌, ◌≢◌, ℕ, ◌^◌, ◌≤◌, ◌<◌, Bool, true, false, cond, inl, inr, zero, suc, Option, Some, None, List, [], ◌∷◌, set, length, Ok, refl, sym, ap, subst, ◌∙◌, arith}
use Rattle.std.specs.Prelude.{option_map, nat_lt, nat_le, slice_get, MatchOption}
use Rattle.bpf_code.specs.declared.instr.Instr.{Instr}
use Rattle.gen_arena.specs.Slot.{Slot}
use Rattle.line_record.specs.declared.directory.Seating.{Seating}
use Rattle.line_record.specs.declared.fault.LineFault.{LineFault}
use Rattle.line_record.specs.declared.state.State.{State}
use Rattle.line_record.specs.declared.fault.LineFault.TheVariants.{TooLate, Back, Full}
use Rattle.line_record.specs.Directory.{DirectoryView, seating_at}
use Rattle.line_record.specs.Line.{LineView, line_refusal}
use Rattle.line_record.specs.Piece.{PieceView}
use Rattle.line_record.specs.Tally.{cells_in}
use Rattle.upc_cell.specs.declared.vc.Vc.{Vc}
use Rattle.card_core.specs.declared.answer.Answer.{Answer}
use Rattle.card_core.specs.declared.answer.Answer.TheVariants.{Judged, NoConnection, Released, Stale, MomentBack, MomentTooLate, JournalFull, NoMemory}
use Rattle.card_core.specs.declared.port.Found.{Found}
use Rattle.card_core.specs.declared.port.Port.{Port}
use Rattle.card_core.specs.declared.shape.Shape.{Shape}
use Rattle.card_core.specs.Agreement.{CoreView}
use Rattle.card_core.specs.Arrival.{AnswersAfterCut, AnswersArrival, AnswersDropping, CutsIfLong, HasLongJournal, IsWorn}
use Rattle.card_core.specs.Kept.{ReservesNothing}
use Rattle.card_core.specs.Sections.{answer_for, holder, is_owned_by, judging_refusal, JudgesAt}
use Rattle.card_core.specs.inner.Parts.{ChangesLine, CutsOrRefuses, DropsIfLong, HasRoomFor, IsLongFor, IsMissed, JudgesOrRefuses}
use Rattle.card_core.proofs.DeskSteps.{cut-goes}
use Rattle.card_core.proofs.LineLemmas.{get-set_same, set-again}
use Rattle.card_core.proofs.LookUps.{same_some}
use Rattle.card_core.proofs.OwnerLemmas.{owned as owner_of_line}
use Rattle.card_core.proofs.PortLemmas.{core_of}
use Rattle.card_core.proofs.Reserving.{judge-ready, line-changed}

-- What is done to the line.
abbrev pub Shortens : ℕ → Vc → Seating → LineView → LineView → Type 0
Shortens most vc seating line next = DropsIfLong most vc seating line next × HasRoomFor vc seating line next

-- Writing a line twice writes the second.
pub written-twice : (lines : List LineView) (k : ℕ) (one two : LineView) → set (set lines k one) k two ≡ set lines k two
written-twice [] k one two = refl
written-twice (first ∷ later) zero one two = refl
written-twice (first ∷ later) (suc k) one two = ap (λ (list : List LineView). first ∷ list) (written-twice later k one two)

module _ (shape : Shape) (store : List (Slot (List Instr))) (directory : DirectoryView) (lines : List LineView) (ports : List Port)
    (most : ℕ) (vc : Vc) (seating : Seating) (sits : seating_at directory vc ≡ Some seating) where
  abbrev Old : CoreView
  Old = core_of shape store directory lines ports

  -- The line of the connection is this one.
  long-here : (line : LineView) → slice_get lines seating.line ≡ Some line → HasLongJournal most Old vc → IsLongFor most vc seating line
  long-here line there (other, has, long) =
      let same : has.seating ≡ seating = same_some has.seating seating (sym has.seated ∙ sits) in
      let at : slice_get lines seating.line ≡ Some other = subst (λ (s : Seating). slice_get lines s.line ≡ Some other) same has.there in
      let is : other ≡ line = same_some other line (sym at ∙ there) in
      subst (λ (l : LineView). IsLongFor most vc seating l) is (subst (λ (s : Seating). other.owner ≡ Some (holder vc s)) same has.owner, long)

  shortened : (after : List LineView) (line next : LineView) → slice_get lines seating.line ≡ Some line → after ≡ set lines seating.line next
      → DropsIfLong most vc seating line next → CutsIfLong most Old vc (core_of shape store directory after ports)
  shortened after line next there is (inl (long, dropped)) =
      let piece : PieceView = record {
        owner = holder vc seating;
        contracts = line.contracts;
        start = line.start;
        entries = line.entries;
        end = line.state;
      } in
      let cuts : ChangesLine lines seating.line (CutsOrRefuses vc seating (Ok piece)) after = record {
        line = line;
        there = there;
        next = next;
        did = (record { owner = long.0; contracts = refl; start = refl; entries = refl; end = refl }, dropped);
        after = is;
      } in
      inl (
        (line, record { seating = seating; seated = sits; there = there; owner = long.0 }, long.1),
        (piece, cut-goes shape store directory lines ports vc seating (Ok piece) after sits cuts piece refl),
      )
  shortened after line next there is (inr (short, same)) =
      let kept : after ≡ lines = is ∙ ap (set lines seating.line) same ∙ set-again lines seating.line line there in
      inr (λ has. short (long-here line there has), ap (λ (l : List LineView). core_of shape store directory l ports) kept)

  pub cuts-if-long : (after : List LineView) → ChangesLine lines seating.line (Shortens most vc seating) after
      → CutsIfLong most Old vc (core_of shape store directory after ports)
  cuts-if-long after change = shortened after change.line change.next change.there change.after change.did.0

-- A cell that no pick answers arrives after the cut.
pub answers-keeping : (most : ℕ) (old new : CoreView) (port : ℕ) (cell : List ℕ) (moment : ℕ) (answer : Answer) → answer ≢ NoConnection → answer ≢ Stale
    → AnswersAfterCut most old port cell moment answer new → AnswersDropping most old port cell moment answer new
answers-keeping most old new port cell moment NoConnection found live way = absurd (found refl)
answers-keeping most old new port cell moment Stale found live way = absurd (live refl)
answers-keeping most old new port cell moment (Judged line number at value program verdict leaving) found live way = way
answers-keeping most old new port cell moment Released found live way = way
answers-keeping most old new port cell moment (MomentBack last) found live way = way
answers-keeping most old new port cell moment MomentTooLate found live way = way
answers-keeping most old new port cell moment JournalFull found live way = way
answers-keeping most old new port cell moment NoMemory found live way = way

-- A cell that the pick answers.
pub missed-keeping : (most : ℕ) (store : List (Slot (List Instr))) (directory : DirectoryView) (vc : Vc) (old new : CoreView) (port : ℕ) (cell : List ℕ)
    (moment : ℕ) (answer : Answer) → IsMissed store directory vc answer → AnswersArrival old port cell moment answer new
    → AnswersDropping most old port cell moment answer new
missed-keeping most store directory vc old new port cell moment NoConnection missed way = way
missed-keeping most store directory vc old new port cell moment Stale missed way = way
missed-keeping most store directory vc old new port cell moment (Judged line number at value program verdict leaving) missed way = absurd missed
missed-keeping most store directory vc old new port cell moment Released missed way = absurd missed
missed-keeping most store directory vc old new port cell moment (MomentBack last) missed way = absurd missed
missed-keeping most store directory vc old new port cell moment MomentTooLate missed way = absurd missed
missed-keeping most store directory vc old new port cell moment JournalFull missed way = absurd missed
missed-keeping most store directory vc old new port cell moment NoMemory missed way = absurd missed

-- No cell that the pick answers has the answer of a full journal.
pub missed-is-no-full : (store : List (Slot (List Instr))) (directory : DirectoryView) (vc : Vc) (answer : Answer) → IsMissed store directory vc answer
    → answer ≢ JournalFull
missed-is-no-full store directory vc JournalFull missed is = absurd missed
missed-is-no-full store directory vc NoConnection missed is = cc
missed-is-no-full store directory vc Stale missed is = cc
missed-is-no-full store directory vc (Judged line number at value program verdict leaving) missed is = absurd missed
missed-is-no-full store directory vc Released missed is = absurd missed
missed-is-no-full store directory vc (MomentBack last) missed is = absurd missed
missed-is-no-full store directory vc MomentTooLate missed is = absurd missed
missed-is-no-full store directory vc NoMemory missed is = absurd missed

-- A line with room that refuses a cell as full is worn.
worn_by : (late back full worn : Bool) (last : ℕ)
    → cond late (Some TooLate) (cond back (Some (Back last)) (cond full (Some Full) (cond worn (Some Full) None))) ≡ Some Full
    → full ≡ false → worn ≡ true
worn_by true back full worn last is room = absurd (cc)
worn_by false true full worn last is room = absurd (cc)
worn_by false false true worn last is room = absurd (cc)
worn_by false false false true last is room = refl
worn_by false false false false last is room = absurd (cc)

worn-line : (line : LineView) (moment : ℕ) → line_refusal line moment ≡ Some Full → length line.entries < line.journal
    → 2 ^ 62 ≤ cells_in line.state.counts
worn-line line moment is room =
    let full : nat_le line.journal (length line.entries) ≡ false = grind arith in
    let worn : nat_le (2 ^ 62) (cells_in line.state.counts) ≡ true =
    worn_by (nat_lt (2 ^ 62) moment) (nat_lt moment line.state.last) (nat_le line.journal (length line.entries)) (nat_le (2 ^ 62) (cells_in line.state.counts))
    line.state.last is full in
    grind arith

-- The answer of a full journal is that of a line that refused the cell as full.
full_of : (refused : Option LineFault) → option_map answer_for refused ≡ Some JournalFull → refused ≡ Some Full
full_of None is = absurd (cc)
full_of (Some Full) is = refl
full_of (Some (Back last)) is = absurd (cc)
full_of (Some fault) is = absurd (cc)

refused_full : (refusal : Option Answer) (line next : LineView) (found : Found)
    → MatchOption refusal (JudgesAt line found.seating found.named found.moment JournalFull next) (λ refused. (JournalFull ≡ refused) × (next ≡ line))
    → refusal ≡ Some JournalFull
refused_full None line next found judges = let no = judges.answered in absurd (cc)
refused_full (Some refused) line next found did = ap Some (sym did.0)

owned_full : (owned : Bool) (refused : Option LineFault) → cond owned (option_map answer_for refused) (Some Released) ≡ Some JournalFull
    → (owned ≡ true) × (refused ≡ Some Full)
owned_full true refused is = (refl, full_of refused is)
owned_full false refused is = absurd (cc)

-- A line that is ready after its journal was dropped was ready before.
shortened-ready : (most : ℕ) (vc : Vc) (seating : Seating) (line next : LineView) → DropsIfLong most vc seating line next → next.ready ≡ true
    → line.ready ≡ true
shortened-ready most vc seating line next (inl (long, dropped)) is = sym (ap (λ (l : LineView). l.ready) dropped) ∙ is
shortened-ready most vc seating line next (inr (short, same)) is = sym (ap (λ (l : LineView). l.ready) same) ∙ is

module _ (shape : Shape) (store : List (Slot (List Instr))) (directory : DirectoryView) (lines : List LineView) (ports : List Port)
    (most : ℕ) (found : Found) (sits : seating_at directory found.vc ≡ Some found.seating) (after : List LineView)
    (change : ChangesLine lines found.seating.line (Shortens most found.vc found.seating) after) where
  -- The line after it was shortened is the one on which the cell is judged.
  shortened-there : slice_get after found.seating.line ≡ Some change.next
  shortened-there =
      subst (λ (l : List LineView). slice_get l found.seating.line ≡ Some change.next) (sym change.after)
      (get-set_same lines found.seating.line change.next change.line change.there)

  -- A cell that the line refuses as full arrived at a worn line.
  pub full-is-worn : (answer : Answer) (last : List LineView) → ChangesLine after found.seating.line (JudgesOrRefuses found answer) last
      → answer ≡ JournalFull → IsWorn (core_of shape store directory lines ports) found.vc
  full-is-worn answer last judged full =
      let here : judged.line ≡ change.next = same_some judged.line change.next (sym judged.there ∙ shortened-there) in
      let did : JudgesOrRefuses found JournalFull change.next judged.next =
      subst (λ (l : LineView). JudgesOrRefuses found JournalFull l judged.next) here
      (subst (λ (a : Answer). JudgesOrRefuses found a judged.line judged.next) full judged.did) in
      let refusal = refused_full (judging_refusal change.next found.vc found.seating found.moment) change.next judged.next found did in
      let owned = owned_full (is_owned_by change.next.owner (holder found.vc found.seating)) (line_refusal change.next found.moment) refusal in
      let owner = owner_of_line change.next.owner (holder found.vc found.seating) owned.0 in
      let room = change.did.1 in
      let worn = worn-line change.next found.moment owned.1 (room.0 owner) in (
        change.line,
        record { seating = found.seating; seated = sits; there = change.there; owner = sym room.1.0 ∙ owner },
        subst (λ (state : State). 2 ^ 62 ≤ cells_in state.counts) room.1.1 worn,
      )

  -- Only this line changed, and it isn't ready unless it was.
  pub shortening-reserves : (answer : Answer) (last : List LineView) → ChangesLine after found.seating.line (JudgesOrRefuses found answer) last
      → ReservesNothing (core_of shape store directory lines ports) (core_of shape store directory last ports)
  shortening-reserves answer last judged =
      let here : judged.line ≡ change.next = same_some judged.line change.next (sym judged.there ∙ shortened-there) in
      line-changed (core_of shape store directory lines ports) (core_of shape store directory last ports) found.seating.line
      change.line judged.next change.there
      (judged.after ∙ ap (λ (l : List LineView). set l found.seating.line judged.next) change.after
      ∙ written-twice lines found.seating.line change.next judged.next)
      (λ ready. shortened-ready most found.vc found.seating change.line change.next change.did.0
      (subst (λ (l : LineView). l.ready ≡ true) here
      (judge-ready judged.line judged.next found answer judged.did ready)))
