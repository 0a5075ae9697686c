-- The invariant of a line after it opens and after it judges a cell.
use Rattle.std.proofs.Common.{◌≡◌, ℕ, ◌+◌, ◌^◌, ◌<◌, ◌≤◌, List, [], ◌∷◌, ◌++◌, length, Option, None, IsSome, sym, ap, subst, ◌∙◌, arith}
use Rattle.std.proofs.lemmas.Bool.Decides.{nat_tests}
use Rattle.std.proofs.lemmas.List.{length_push}
use Rattle.leaky.specs.declared.contract.Contract.{Contract}
use Rattle.leaky.specs.declared.levels.Levels.{Levels}
use Rattle.leaky.specs.declared.verdict.Verdict.{Verdict}
use Rattle.leaky.specs.declared.verdict.Verdict.TheVariants.{Pass, Tag, Discard, Refuse}
use Rattle.leaky.specs.Contract.{opening_buckets}
use Rattle.leaky.specs.KeptState.{Agrees, IsChargedBy}
use Rattle.line_record.specs.declared.entry.Entry.{Entry}
use Rattle.line_record.specs.declared.owner.Owner.{Owner}
use Rattle.line_record.specs.declared.state.State.{State}
use Rattle.line_record.specs.declared.tally.Tally.{Tally}
use Rattle.line_record.specs.Tally.{counted, cells_in}
use Rattle.line_record.specs.History.{numbered, buckets_after_cells, empty_buckets}
use Rattle.line_record.specs.JournalRun.{IsJournalRun}
use Rattle.line_record.specs.StateAfter.{IsStateAfter}
use Rattle.line_record.specs.Line.{LineView, line_refusal, IsOpening}
use Rattle.line_record.specs.inner.LineFields.{view_of, KeepsRoom}
use Rattle.line_record.proofs.NumberLemmas.{numbered-All}
use Rattle.line_record.proofs.HistoryLemmas.{buckets_under-nil}
use Rattle.line_record.proofs.RunLemmas.{IsRun-append}

pub cells_in-counted : (tally : Tally) (verdict : Verdict) → cells_in (counted tally verdict) ≡ cells_in tally + 1
cells_in-counted tally Pass = omega arith
cells_in-counted tally Tag = omega arith
cells_in-counted tally Discard = omega arith
cells_in-counted tally Refuse = omega arith

-- A cell that the line has no error for.
pub record IsAdmitted (line : LineView) (moment : ℕ) : Type 0 where
  pub in_time : moment ≤ 2 ^ 62
  pub later : line.state.last ≤ moment
  pub short : length line.entries < line.journal
  pub cells : cells_in line.state.counts < 2 ^ 62

pub IsAdmitted-refusal : (line : LineView) (moment : ℕ) → line_refusal line moment ≡ None → IsAdmitted line moment
IsAdmitted-refusal line moment none = record {
  in_time = grind (arith, nat_tests);
  later = grind (arith, nat_tests);
  short = grind (arith, nat_tests);
  cells = grind (arith, nat_tests);
}

-- The invariant after one more cell.
pub KeepsRoom-gains : (owner : Option Owner) (contracts : List Contract) (journal : ℕ) (start : State) (entries : List Entry) (state : State) (capacity : ℕ)
    → (entry : Entry) (next : State)
    → KeepsRoom (view_of owner contracts journal start entries state capacity) capacity
    → IsSome owner
    → line_refusal (view_of owner contracts journal start entries state capacity) entry.moment ≡ None
    → IsJournalRun contracts state (entry ∷ []) next
    → KeepsRoom (view_of owner contracts journal start (entries ++ entry ∷ []) next capacity) capacity
KeepsRoom-gains owner contracts journal start entries state capacity entry next sound held none run =
    let admitted = IsAdmitted-refusal (view_of owner contracts journal start entries state capacity) entry.moment none in
    let counts : cells_in next.counts ≡ cells_in state.counts + 1 =
    ap cells_in run.counts ∙ cells_in-counted state.counts entry.verdict in
    record {
      kept = record {
        run = IsRun-append contracts start state next entries (entry ∷ []) sound.kept.run run;
        few = sound.kept.few;
        some = sound.kept.some;
        journal = sound.kept.journal;
        short = omega (arith, length_push entries entry, admitted.short);
        cells = omega (arith, counts, admitted.cells);
        last = omega (arith, run.last, admitted.in_time);
        held = sound.kept.held;
        free = λ e. let none : IsSome {T = Owner} None = subst IsSome e held in cc;
      };
      room = sound.room;
    }

-- An opening state agrees with the empty history.
pub IsStateAfter-opening : (contracts : List Contract) (before : Tally) (state : State)
    → IsOpening contracts before state → IsStateAfter contracts [] state
IsStateAfter-opening contracts before state opening =
    let empty : (number : ℕ) → buckets_after_cells contracts empty_buckets [] number ≡ opening_buckets =
    λ number. buckets_under-nil (numbered contracts number) opening_buckets in
    record {
      one_each = opening.one_each;
      holds = record {
        agrees = λ number levels at.
            let zero = numbered-All (λ (l : Levels). (l.first ≡ 0) × (l.second ≡ 0)) state.levels.items number levels opening.levels at in
            let agrees : Agrees levels opening_buckets = record { first = zero.0; second = zero.1 } in
            subst (λ b. Agrees levels b) (sym (empty number)) agrees;
        charged = λ number levels at.
            let charged : IsChargedBy opening_buckets state.last = record { first = omega arith; second = omega arith } in
            subst (λ b. IsChargedBy b state.last) (sym (empty number)) charged;
      };
      last = opening.last;
    }
