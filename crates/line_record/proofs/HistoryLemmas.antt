-- Histories in two parts.
use Rattle.std.proofs.Common.{◌≡◌, ℕ, suc, Bool, true, false, List, [], ◌∷◌, ◌++◌, length, map, filter, Option, Some, None, refl, sym, ap, subst, ◌∙◌, append_assoc}
use Rattle.std.specs.Prelude.{◌==◌}
use Rattle.std.proofs.lemmas.List.{map-append, append-nil}
use Rattle.std.proofs.lemmas.List.Elements.{filter-append}
use Rattle.leaky.specs.declared.contract.Contract.{Contract}
use Rattle.leaky.specs.Moments.{GoesOn}
use Rattle.leaky.specs.Contract.{Buckets, buckets_after as after_cell}
use Rattle.leaky.specs.Arrivals.{Arrival, buckets_left}
use Rattle.leaky.specs.KeptState.{Agrees, IsChargedBy}
use Rattle.line_record.specs.declared.entry.Entry.{Entry}
use Rattle.line_record.specs.declared.state.State.{State}
use Rattle.line_record.specs.declared.tally.Tally.{Tally}
use Rattle.line_record.specs.Tally.{counted}
use Rattle.line_record.specs.History.{NamedCell, numbered, moments_of, last_moment, arrival_of, arrivals_at, buckets_under, buckets_after_cells, named_verdict, verdict_after, entry_of, named_cell_of, named_cells_of, judged}
use Rattle.line_record.specs.JournalRun.{tallied, KeepsBuckets}
use Rattle.line_record.specs.Laws.{EachCellIsJudged}

-- Buckets.

pub buckets_left-append : (contract : Contract) (buckets : Buckets) (xs ys : List Arrival)
    → buckets_left contract buckets (xs ++ ys) ≡ buckets_left contract (buckets_left contract buckets xs) ys
buckets_left-append contract buckets [] ys = refl
buckets_left-append contract buckets (x ∷ xs) ys =
    buckets_left-append contract (after_cell contract buckets x.clp x.moment) xs ys

buckets_under-append : (named : Option Contract) (buckets : Buckets) (xs ys : List Arrival)
    → buckets_under named buckets (xs ++ ys) ≡ buckets_under named (buckets_under named buckets xs) ys
buckets_under-append None buckets xs ys = refl
buckets_under-append (Some contract) buckets xs ys = buckets_left-append contract buckets xs ys

pub buckets_under-nil : (named : Option Contract) (buckets : Buckets) → buckets_under named buckets [] ≡ buckets
buckets_under-nil None buckets = refl
buckets_under-nil (Some contract) buckets = refl

pub arrivals_at-append : (number : ℕ) (xs ys : List NamedCell)
    → arrivals_at number (xs ++ ys) ≡ arrivals_at number xs ++ arrivals_at number ys
arrivals_at-append number xs ys =
    let named : NamedCell → Bool = λ cell. cell.value == number in
    ap (map arrival_of) (filter-append named xs ys)
    ∙ map-append arrival_of (filter named xs) (filter named ys)

-- A cell that names the contract, and one that doesn't.
pub arrivals_at-named : (number : ℕ) (cell : NamedCell) (later : List NamedCell) → (cell.value == number) ≡ true
    → arrivals_at number (cell ∷ later) ≡ arrival_of cell ∷ arrivals_at number later
arrivals_at-named number cell later same = rw same refl

pub arrivals_at-skips : (number : ℕ) (cell : NamedCell) (later : List NamedCell) → (cell.value == number) ≡ false
    → arrivals_at number (cell ∷ later) ≡ arrivals_at number later
arrivals_at-skips number cell later differs = rw differs refl

-- The buckets after two histories, one after the other.
pub buckets_after-append : (contracts : List Contract) (opening : ℕ → Buckets) (xs ys : List NamedCell) (number : ℕ)
    → buckets_after_cells contracts opening (xs ++ ys) number
    ≡ buckets_after_cells contracts (buckets_after_cells contracts opening xs) ys number
buckets_after-append contracts opening xs ys number =
    ap (buckets_under (numbered contracts number) (opening number)) (arrivals_at-append number xs ys)
    ∙ buckets_under-append (numbered contracts number) (opening number) (arrivals_at number xs) (arrivals_at number ys)

-- Verdicts.

pub verdict_after-append : (contracts : List Contract) (opening : ℕ → Buckets) (xs ys : List NamedCell) (cell : NamedCell)
    → verdict_after contracts (buckets_after_cells contracts opening xs) ys cell
    ≡ verdict_after contracts opening (xs ++ ys) cell
verdict_after-append contracts opening xs ys cell =
    ap (λ buckets. named_verdict (numbered contracts cell.value) buckets cell)
    (sym (buckets_after-append contracts opening xs ys cell.value))

-- Cells judged from the buckets after a history are judged after that history.
pub judged-after : (contracts : List Contract) (opening : ℕ → Buckets) (before history cells : List NamedCell)
    → judged contracts (buckets_after_cells contracts opening before) history cells
    ≡ judged contracts opening (before ++ history) cells
judged-after contracts opening before history [] = refl
judged-after contracts opening before history (cell ∷ later) =
    let rest = judged-after contracts opening before (history ++ cell ∷ []) later in
    let joined = append_assoc before history (cell ∷ []) in
    let one = verdict_after-append contracts opening before history cell in
    ap (λ verdict. entry_of cell verdict ∷ judged contracts (buckets_after_cells contracts opening before) (history ++ cell ∷ []) later) one
    ∙ ap (λ entries. entry_of cell (verdict_after contracts opening (before ++ history) cell) ∷ entries)
    (rest ∙ ap (λ whole. judged contracts opening whole later) (sym joined))

pub judged-append : (contracts : List Contract) (opening : ℕ → Buckets) (history xs ys : List NamedCell)
    → judged contracts opening history (xs ++ ys)
    ≡ judged contracts opening history xs ++ judged contracts opening (history ++ xs) ys
judged-append contracts opening history [] ys =
    ap (λ whole. judged contracts opening whole ys) (sym (append-nil history))
judged-append contracts opening history (cell ∷ xs) ys =
    let rest = judged-append contracts opening (history ++ cell ∷ []) xs ys in
    let joined = append_assoc history (cell ∷ []) xs in
    ap (λ entries. entry_of cell (verdict_after contracts opening history cell) ∷ entries)
    (rest ∙ ap (λ whole. judged contracts opening (history ++ cell ∷ []) xs ++ judged contracts opening whole ys) joined)

-- Each cell has one entry, which is the cell and a verdict.
pub length-judged : (contracts : List Contract) (opening : ℕ → Buckets) (history cells : List NamedCell)
    → length (judged contracts opening history cells) ≡ length cells
length-judged contracts opening history [] = refl
length-judged contracts opening history (cell ∷ later) =
    ap suc (length-judged contracts opening (history ++ cell ∷ []) later)

pub cells_of-judged : (contracts : List Contract) (opening : ℕ → Buckets) (history cells : List NamedCell)
    → named_cells_of (judged contracts opening history cells) ≡ cells
cells_of-judged contracts opening history [] = refl
cells_of-judged contracts opening history (cell ∷ later) =
    ap (λ cells. cell ∷ cells) (cells_of-judged contracts opening (history ++ cell ∷ []) later)

pub each-judged : EachCellIsJudged
each-judged contracts opening history cells =
    (length-judged contracts opening history cells, cells_of-judged contracts opening history cells)

-- Moments and counts.

pub last_moment-append : (earlier : ℕ) (xs ys : List NamedCell)
    → last_moment earlier (xs ++ ys) ≡ last_moment (last_moment earlier xs) ys
last_moment-append earlier [] ys = refl
last_moment-append earlier (x ∷ xs) ys = last_moment-append x.moment xs ys

pub GoesOn-append : (earlier : ℕ) (xs ys : List NamedCell) → GoesOn earlier (moments_of xs)
    → GoesOn (last_moment earlier xs) (moments_of ys) → GoesOn earlier (moments_of (xs ++ ys))
GoesOn-append earlier [] ys first second = second
GoesOn-append earlier (x ∷ xs) ys first second = (first.0, GoesOn-append x.moment xs ys first.1 second)

pub tallied-append : (counts : Tally) (xs ys : List Entry)
    → tallied counts (xs ++ ys) ≡ tallied (tallied counts xs) ys
tallied-append counts [] ys = refl
tallied-append counts (x ∷ xs) ys = tallied-append (counted counts x.verdict) xs ys

pub cells_of-append : (xs ys : List Entry) → named_cells_of (xs ++ ys) ≡ named_cells_of xs ++ named_cells_of ys
cells_of-append xs ys = map-append named_cell_of xs ys

-- A state that represents buckets represents equal ones.
pub StandsFor-same : (state : State) (one other : ℕ → Buckets)
    → ((number : ℕ) → one number ≡ other number) → KeepsBuckets state one → KeepsBuckets state other
StandsFor-same state one other same holds = record {
  agrees = λ number levels at. subst (λ b. Agrees levels b) (same number) (holds.agrees number levels at);
  charged = λ number levels at. subst (λ b. IsChargedBy b state.last) (same number) (holds.charged number levels at);
}
