-- Cells without the ids of their programs have the same verdicts.
use Rattle.std.proofs.Common.{◌≡◌, ℕ, ◌==◌, Bool, true, false, cond, List, [], ◌∷◌, ◌++◌, map, filter, Option, Some, None, refl, sym, ap, ◌∙◌}
use Rattle.std.proofs.lemmas.List.{map-append}
use Rattle.leaky.specs.declared.contract.Contract.{Contract}
use Rattle.leaky.specs.Contract.{Buckets}
use Rattle.leaky.specs.Arrivals.{Arrival}
use Rattle.line_record.specs.History.{NamedCell, numbered, arrival_of, arrivals_at, empty_buckets, buckets_under, buckets_after_cells, named_verdict, verdict_after, last_moment, entry_of, judged}
use Rattle.card_isolation.specs.Outcome.{SeenEntry, seen}

abbrev pub forgotten : NamedCell → NamedCell
forgotten cell = record {
  moment = cell.moment;
  clp = cell.clp;
  value = cell.value;
  program = record { slot = 0; generation = 0 };
}

arrivals-forgotten : (number : ℕ) (cells : List NamedCell) → arrivals_at number (map forgotten cells) ≡ arrivals_at number cells
arrivals-forgotten number [] = refl
arrivals-forgotten number (cell ∷ later) =
    let names : NamedCell → Bool = λ c. c.value == number in
    let rest : map arrival_of (filter names (map forgotten later)) ≡ map arrival_of (filter names later) = arrivals-forgotten number later in
    let choice : (b : Bool) → map arrival_of (cond b (forgotten cell ∷ filter names (map forgotten later)) (filter names (map forgotten later)))
    ≡ map arrival_of (cond b (cell ∷ filter names later) (filter names later)) = elim [
      | true ↦ ap (λ (l : List Arrival). arrival_of cell ∷ l) rest
      | false ↦ rest
    ] in
    choice (cell.value == number)

under-forgotten : (contract : Option Contract) (buckets : Buckets) (cell : NamedCell)
    → named_verdict contract buckets (forgotten cell) ≡ named_verdict contract buckets cell
under-forgotten None buckets cell = refl
under-forgotten (Some contract) buckets cell = refl

pub verdict-forgotten : (contracts : List Contract) (history : List NamedCell) (cell : NamedCell)
    → verdict_after contracts empty_buckets (map forgotten history) (forgotten cell) ≡ verdict_after contracts empty_buckets history cell
verdict-forgotten contracts history cell =
    under-forgotten (numbered contracts cell.value) (buckets_after_cells contracts empty_buckets (map forgotten history) cell.value) cell
    ∙ ap (λ (arrivals : List Arrival). named_verdict (numbered contracts cell.value) (buckets_under (numbered contracts cell.value) (empty_buckets cell.value) arrivals) cell)
    (arrivals-forgotten cell.value history)

pub last-forgotten : (earlier : ℕ) (cells : List NamedCell) → last_moment earlier (map forgotten cells) ≡ last_moment earlier cells
last-forgotten earlier [] = refl
last-forgotten earlier (cell ∷ later) = last-forgotten cell.moment later

-- The entries of these cells after a history, without ids.
abbrev pub seen_entries : List Contract → List NamedCell → List NamedCell → List SeenEntry
seen_entries contracts history cells = map seen (judged contracts empty_buckets history cells)

pub entries-forgotten : (contracts : List Contract) (history cells : List NamedCell)
    → seen_entries contracts (map forgotten history) (map forgotten cells) ≡ seen_entries contracts history cells
entries-forgotten contracts history [] = refl
entries-forgotten contracts history (cell ∷ later) =
    ap (λ verdict. seen (entry_of cell verdict) ∷ seen_entries contracts (map forgotten history ++ forgotten cell ∷ []) (map forgotten later))
    (verdict-forgotten contracts history cell)
    ∙ ap (λ (cells : List NamedCell). seen (entry_of cell (verdict_after contracts empty_buckets history cell)) ∷ seen_entries contracts cells (map forgotten later))
    (sym (map-append forgotten history (cell ∷ [])))
    ∙ ap (λ (l : List SeenEntry). seen (entry_of cell (verdict_after contracts empty_buckets history cell)) ∷ l)
    (entries-forgotten contracts (history ++ cell ∷ []) later)
