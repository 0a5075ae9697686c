-- The charges of a history are those of the cells that name the contract.
use Rattle.std.proofs.Common.{◌≡◌, ℕ, ◌&&◌, Bool, true, false, cond, List, [], ◌∷◌, ◌++◌, map, filter, Some, refl, sym, ap, subst, ◌∙◌}
use Rattle.std.specs.Prelude.{◌==◌, IfSome}
use Rattle.std.proofs.lemmas.Bool.Decides.{Decides-eqb}
use Rattle.leaky.specs.declared.contract.Contract.{Contract}
use Rattle.leaky.specs.declared.verdict.Verdict.{Verdict}
use Rattle.leaky.specs.Moments.{GoesOn}
use Rattle.leaky.specs.Contract.{Buckets, verdict_of, peak_of, second_of, buckets_after as after_cell}
use Rattle.leaky.specs.Arrivals.{Arrival, buckets_left, charges_first, charges_second, first_charges, second_charges}
use Rattle.leaky.specs.Laws.{IsBounded}
use Rattle.leaky.proofs.Public.{contracts_bound_bursts, goes_on_from_earlier}
use Rattle.line_record.specs.declared.entry.Entry.{Entry}
use Rattle.line_record.specs.History.{NamedCell, moments_of, numbered, arrivals_at, buckets_under, named_verdict, verdict_after, entry_of, judged}
use Rattle.line_record.specs.Laws.{HistoriesBoundBursts}
use Rattle.line_record.proofs.HistoryLemmas.{arrivals_at-append, arrivals_at-named, arrivals_at-skips, buckets_left-append}

-- The moments of the cells for which a test of verdict and priority is true.
abbrev charges_by : (Verdict → Bool → Bool) → Contract → Buckets → List Arrival → List ℕ
charges_by test contract buckets [] = []
charges_by test contract buckets (arrival ∷ later) =
    let verdict = verdict_of contract buckets arrival.clp arrival.moment in
    let rest = charges_by test contract (after_cell contract buckets arrival.clp arrival.moment) later in
    cond (test verdict arrival.clp) (arrival.moment ∷ rest) rest

first-by : (contract : Contract) (buckets : Buckets) (arrivals : List Arrival)
    → first_charges contract buckets arrivals ≡ charges_by (λ verdict clp. charges_first verdict) contract buckets arrivals
first-by contract buckets [] = refl
first-by contract buckets (arrival ∷ later) =
    let verdict = verdict_of contract buckets arrival.clp arrival.moment in
    ap (λ rest. cond (charges_first verdict) (arrival.moment ∷ rest) rest)
    (first-by contract (after_cell contract buckets arrival.clp arrival.moment) later)

second-by : (contract : Contract) (buckets : Buckets) (arrivals : List Arrival)
    → second_charges contract buckets arrivals ≡ charges_by (λ verdict clp. charges_second verdict contract clp) contract buckets arrivals
second-by contract buckets [] = refl
second-by contract buckets (arrival ∷ later) =
    let verdict = verdict_of contract buckets arrival.clp arrival.moment in
    ap (λ rest. cond (charges_second verdict contract arrival.clp) (arrival.moment ∷ rest) rest)
    (second-by contract (after_cell contract buckets arrival.clp arrival.moment) later)

-- The same for entries.
abbrev charges_in : (Verdict → Bool → Bool) → ℕ → List Entry → List ℕ
charges_in test number entries =
    map (λ entry. entry.moment) (filter (λ entry. (entry.value == number) && test entry.verdict entry.clp) entries)

map_cond : (b : Bool) (entry : Entry) (later : List Entry)
    → map (λ (e : Entry). e.moment) (cond b (entry ∷ later) later)
    ≡ cond b (entry.moment ∷ map (λ (e : Entry). e.moment) later) (map (λ (e : Entry). e.moment) later)
map_cond true entry later = refl
map_cond false entry later = refl

-- An entry that names the contract, and one that doesn't.
charges_in-named : (test : Verdict → Bool → Bool) (number : ℕ) (cell : NamedCell) (verdict : Verdict) (entries : List Entry)
    → (cell.value == number) ≡ true
    → charges_in test number (entry_of cell verdict ∷ entries)
    ≡ cond (test verdict cell.clp) (cell.moment ∷ charges_in test number entries) (charges_in test number entries)
charges_in-named test number cell verdict entries same =
    let kept = filter (λ (entry : Entry). (entry.value == number) && test entry.verdict entry.clp) entries in
    map_cond ((cell.value == number) && test verdict cell.clp) (entry_of cell verdict) kept
    ∙ ap (λ b. cond (b && test verdict cell.clp) (cell.moment ∷ charges_in test number entries) (charges_in test number entries)) same

charges_in-other : (test : Verdict → Bool → Bool) (number : ℕ) (cell : NamedCell) (verdict : Verdict) (entries : List Entry)
    → (cell.value == number) ≡ false
    → charges_in test number (entry_of cell verdict ∷ entries) ≡ charges_in test number entries
charges_in-other test number cell verdict entries differs =
    let kept = filter (λ (entry : Entry). (entry.value == number) && test entry.verdict entry.clp) entries in
    map_cond ((cell.value == number) && test verdict cell.clp) (entry_of cell verdict) kept
    ∙ ap (λ b. cond (b && test verdict cell.clp) (cell.moment ∷ charges_in test number entries) (charges_in test number entries)) differs

module _ (test : Verdict → Bool → Bool) (contracts : List Contract) (opening : ℕ → Buckets)
    (number : ℕ) (contract : Contract) (named : numbered contracts number ≡ Some contract) where
  -- The contract's buckets after the cells so far.
  abbrev here : List NamedCell → Buckets
  here history = buckets_left contract (opening number) (arrivals_at number history)

  verdict_here : (history : List NamedCell) (cell : NamedCell) → cell.value ≡ number
      → verdict_after contracts opening history cell ≡ verdict_of contract (here history) cell.clp cell.moment
  verdict_here history cell is =
      let Under : ℕ → Verdict = λ n.
      named_verdict (numbered contracts n) (buckets_under (numbered contracts n) (opening n) (arrivals_at n history)) cell in
      ap Under is
      ∙ ap (λ o. named_verdict o (buckets_under o (opening number) (arrivals_at number history)) cell) named

  here_more : (history : List NamedCell) (cell : NamedCell)
      → here (history ++ cell ∷ []) ≡ buckets_left contract (here history) (arrivals_at number (cell ∷ []))
  here_more history cell =
      ap (buckets_left contract (opening number)) (arrivals_at-append number history (cell ∷ []))
      ∙ buckets_left-append contract (opening number) (arrivals_at number history) (arrivals_at number (cell ∷ []))

  pub charges-same : (history cells : List NamedCell)
      → charges_in test number (judged contracts opening history cells)
      ≡ charges_by test contract (here history) (arrivals_at number cells)
  charges-same history [] = refl
  charges-same history (cell ∷ later) =
      let rest = charges-same (history ++ cell ∷ []) later in
      let verdict = verdict_after contracts opening history cell in
      let entries = judged contracts opening (history ++ cell ∷ []) later in
      let more = here_more history cell in
      let choice : (b : Bool) → (cell.value == number) ≡ b
      → charges_in test number (judged contracts opening history (cell ∷ later))
      ≡ charges_by test contract (here history) (arrivals_at number (cell ∷ later)) = elim [
        | true ↦ λ same.
            let is : cell.value ≡ number = (Decides-eqb cell.value number).0 same in
            let own = verdict_of contract (here history) cell.clp cell.moment in
            let after = more ∙ ap (buckets_left contract (here history)) (arrivals_at-named number cell [] same) in
            charges_in-named test number cell verdict entries same
            ∙ ap (λ v. cond (test v cell.clp) (cell.moment ∷ charges_in test number entries) (charges_in test number entries)) (verdict_here history cell is)
            ∙ ap (λ moments. cond (test own cell.clp) (cell.moment ∷ moments) moments)
            (rest ∙ ap (λ b. charges_by test contract b (arrivals_at number later)) after)
            ∙ ap (charges_by test contract (here history)) (sym (arrivals_at-named number cell later same))
        | false ↦ λ differs.
            let after = more ∙ ap (buckets_left contract (here history)) (arrivals_at-skips number cell [] differs) in
            charges_in-other test number cell verdict entries differs
            ∙ rest ∙ ap (λ b. charges_by test contract b (arrivals_at number later)) after
            ∙ ap (charges_by test contract (here history)) (sym (arrivals_at-skips number cell later differs))
      ] in
      choice (cell.value == number) refl

-- If the moments of all cells never go back, nor do those of the cells that name a contract.
GoesOn-arrivals : (number : ℕ) (earliest : ℕ) (history : List NamedCell) → GoesOn earliest (moments_of history)
    → GoesOn earliest (map (λ (a : Arrival). a.moment) (arrivals_at number history))
GoesOn-arrivals number earliest [] goes = tt
GoesOn-arrivals number earliest (cell ∷ later) goes =
    let rest = GoesOn-arrivals number cell.moment later goes.1 in
    let choice : (b : Bool) → (cell.value == number) ≡ b
    → GoesOn earliest (map (λ (a : Arrival). a.moment) (arrivals_at number (cell ∷ later))) = elim [
      | true ↦ λ same. rw (arrivals_at-named number cell later same) (goes.0, rest)
      | false ↦ λ differs.
          rw (arrivals_at-skips number cell later differs)
          (goes_on_from_earlier earliest cell.moment (map (λ (a : Arrival). a.moment) (arrivals_at number later)) goes.0 rest)
    ] in
    choice (cell.value == number) refl

pub histories-bound : HistoriesBoundBursts
histories-bound contracts opening earliest history goes number contract named first span =
    let buckets = opening number in
    let arrivals = arrivals_at number history in
    let bound = contracts_bound_bursts contract buckets earliest arrivals (GoesOn-arrivals number earliest history goes) first span in
    let peak = charges-same (λ verdict clp. charges_first verdict) contracts opening number contract named [] history in
    let sustained = charges-same (λ verdict clp. charges_second verdict contract clp) contracts opening number contract named [] history in (
      subst (λ (moments : List ℕ). IsBounded first span moments (peak_of contract))
          (first-by contract buckets arrivals ∙ sym peak) bound.0,
      subst (λ (moments : List ℕ). IfSome (second_of contract) (IsBounded first span moments))
          (second-by contract buckets arrivals ∙ sym sustained) bound.1,
    )
