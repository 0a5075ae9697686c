-- Buckets, verdicts and moments of a history don't depend on the ids of programs.
use Rattle.std.proofs.Common.{◌≡◌, ℕ, zero, suc, ◌==◌, Bool, true, false, cond, List, [], ◌∷◌, ◌++◌, length, map, take, drop, Option, Some, None, refl, sym, ap, ◌∙◌}
use Rattle.std.specs.List.{filter}
use Rattle.leaky.specs.Contract.{Buckets}
use Rattle.leaky.specs.declared.contract.Contract.{Contract}
use Rattle.leaky.specs.declared.verdict.Verdict.{Verdict}
use Rattle.line_record.specs.History.{NamedCell, arrival_of, arrivals_at, buckets_after_cells, buckets_under, judged, last_moment, numbered, verdict_after, named_verdict}
use Rattle.line_record.specs.declared.entry.Entry.{Entry}
use Rattle.cmd_run.proofs.one_script.Seen.{nameless}

pub arrivals-nameless : (number : ℕ) (cells : List NamedCell) → arrivals_at number (map nameless cells) ≡ arrivals_at number cells
arrivals-nameless number [] = refl
arrivals-nameless number (cell ∷ later) =
    let rest = arrivals-nameless number later in
    let choice : (b : Bool) → map arrival_of (cond b (nameless cell ∷ filter (λ one. one.value == number) (map nameless later)) (filter (λ one. one.value == number) (map nameless later)))
    ≡ map arrival_of (cond b (cell ∷ filter (λ one. one.value == number) later) (filter (λ one. one.value == number) later)) = elim [
      | true ↦ ap (λ others. arrival_of cell ∷ others) rest
      | false ↦ rest
    ] in
    choice (cell.value == number)

under-nameless : (contract : Option Contract) (buckets : Buckets) (cell : NamedCell)
    → named_verdict contract buckets (nameless cell) ≡ named_verdict contract buckets cell
under-nameless None buckets cell = refl
under-nameless (Some contract) buckets cell = refl

-- The verdict on a cell after a history.
pub verdict-nameless : (contracts : List Contract) (opening : ℕ → Buckets) (history : List NamedCell) (cell : NamedCell)
    → verdict_after contracts opening (map nameless history) (nameless cell) ≡ verdict_after contracts opening history cell
verdict-nameless contracts opening history cell =
    let contract = numbered contracts cell.value in
    ap (λ arrivals. named_verdict contract (buckets_under contract (opening cell.value) arrivals) (nameless cell)) (arrivals-nameless cell.value history)
    ∙ under-nameless contract (buckets_after_cells contracts opening history cell.value) cell

pub map-push : (history : List NamedCell) (cell : NamedCell) → map nameless (history ++ cell ∷ []) ≡ map nameless history ++ nameless cell ∷ []
map-push [] cell = refl
map-push (first ∷ later) cell = ap (λ others. nameless first ∷ others) (map-push later cell)

abbrev pub verdict_in : Entry → Verdict
verdict_in entry = entry.verdict

-- The verdicts on cells one after another.
pub judged-nameless : (contracts : List Contract) (opening : ℕ → Buckets) (history cells : List NamedCell)
    → map verdict_in (judged contracts opening (map nameless history) (map nameless cells)) ≡ map verdict_in (judged contracts opening history cells)
judged-nameless contracts opening history [] = refl
judged-nameless contracts opening history (cell ∷ later) =
    let here = verdict-nameless contracts opening history cell in
    let rest : map verdict_in (judged contracts opening (map nameless history ++ nameless cell ∷ []) (map nameless later))
    ≡ map verdict_in (judged contracts opening (history ++ cell ∷ []) later) =
    ap (λ before. map verdict_in (judged contracts opening before (map nameless later))) (sym (map-push history cell))
    ∙ judged-nameless contracts opening (history ++ cell ∷ []) later in
    λ i. here i ∷ rest i

pub last-nameless : (earlier : ℕ) (history : List NamedCell) → last_moment earlier (map nameless history) ≡ last_moment earlier history
last-nameless earlier [] = refl
last-nameless earlier (cell ∷ later) = last-nameless cell.moment later

pub take-nameless : (many : ℕ) (history : List NamedCell) → take many (map nameless history) ≡ map nameless (take many history)
take-nameless zero history = refl
take-nameless (suc many) [] = refl
take-nameless (suc many) (cell ∷ later) = ap (λ others. nameless cell ∷ others) (take-nameless many later)

pub drop-nameless : (many : ℕ) (history : List NamedCell) → drop many (map nameless history) ≡ map nameless (drop many history)
drop-nameless zero history = refl
drop-nameless (suc many) [] = refl
drop-nameless (suc many) (cell ∷ later) = drop-nameless many later

pub length-nameless : (history : List NamedCell) → length (map nameless history) ≡ length history
length-nameless [] = refl
length-nameless (cell ∷ later) = ap suc (length-nameless later)

pub length-verdicts : (entries : List Entry) → length (map verdict_in entries) ≡ length entries
length-verdicts [] = refl
length-verdicts (entry ∷ later) = ap suc (length-verdicts later)
