-- The excess of a cell is the same before it and after it.
use Rattle.std.proofs.Common.{◌≡◌, ◌≢◌, ◌≤◌, ◌==◌, ℕ, Bool, true, false, if◌then◌else◌, List, [], ◌∷◌, ◌++◌, map, filter, Option, Some, None, nat_lt, refl, sym, ap, ◌∙◌, subst, arith}
use Rattle.std.proofs.lemmas.Bool.Decides.{nat_tests}
use Rattle.std.specs.Prelude.{option_and_then}
use Rattle.card_core.specs.World.{Connection}
use Rattle.leaky.proofs.Public.{passed_cells_have_no_excess}
use Rattle.leaky.specs.Arrivals.{Arrival, buckets_left}
use Rattle.leaky.specs.Bucket.{conforms, opening}
use Rattle.leaky.specs.Contract.{Buckets, buckets_after, charged_under, conforms_if_met, verdict_over_second, peak_of, sustained_of, verdict_of, verdict_under}
use Rattle.leaky.specs.Excess.{excess_at, excess_under, over_limit, over_limit_if_met}
use Rattle.leaky.specs.declared.contract.Contract.{Contract}
use Rattle.leaky.specs.declared.excess.Excess.{Excess}
use Rattle.leaky.specs.declared.excess.WhichBucket.TheVariants.{Peak, Sustained}
use Rattle.leaky.specs.declared.gcra.Gcra.{Gcra}
use Rattle.leaky.specs.declared.verdict.Verdict.{Verdict}
use Rattle.leaky.specs.declared.verdict.Verdict.TheVariants.{Pass, Tag, Discard, Refuse}
use Rattle.line_record.specs.History.{NamedCell, arrival_of, arrivals_at, buckets_after_cells, buckets_under, empty_buckets, last_moment, named_verdict, numbered}
use Rattle.upc_cell.specs.declared.vc.Vc.{Vc}
use Rattle.cmd_police.specs.PoliceLines.{next_excess}
use Rattle.cmd_setups.specs.inner.ExcessLeft.{JudgesNext, excess_left, buckets_to_explain}

-- Buckets after one more cell.

left_then : (contract : Contract) (buckets : Buckets) (xs ys : List Arrival)
    → buckets_left contract buckets (xs ++ ys) ≡ buckets_left contract (buckets_left contract buckets xs) ys
left_then contract buckets [] ys = refl
left_then contract buckets (x ∷ xs) ys = left_then contract (buckets_after contract buckets x.clp x.moment) xs ys

arrivals_then : (number : ℕ) (xs : List NamedCell) (cell : NamedCell) → (cell.value == number) ≡ true
    → arrivals_at number (xs ++ cell ∷ []) ≡ arrivals_at number xs ++ arrival_of cell ∷ []
arrivals_then number [] cell same = rw same refl
arrivals_then number (x ∷ xs) cell same = by (x.value == number) (arrivals_then number xs cell same)
  where
    by : (b : Bool) → arrivals_at number (xs ++ cell ∷ []) ≡ arrivals_at number xs ++ arrival_of cell ∷ []
        → map arrival_of (if b then x ∷ filter (λ c. c.value == number) (xs ++ cell ∷ []) else filter (λ c. c.value == number) (xs ++ cell ∷ []))
        ≡ map arrival_of (if b then x ∷ filter (λ c. c.value == number) xs else filter (λ c. c.value == number) xs) ++ arrival_of cell ∷ []
    by true rest = ap (λ later. arrival_of x ∷ later) rest
    by false rest = rest

-- The buckets of the contract that the cell names.
named_then : (contract : Contract) (buckets : Buckets) (number : ℕ) (history : List NamedCell) (cell : NamedCell) → (cell.value == number) ≡ true
    → buckets_left contract buckets (arrivals_at number (history ++ cell ∷ []))
    ≡ buckets_after contract (buckets_left contract buckets (arrivals_at number history)) cell.clp cell.moment
named_then contract buckets number history cell same =
    ap (buckets_left contract buckets) (arrivals_then number history cell same)
    ∙ left_then contract buckets (arrivals_at number history) (arrival_of cell ∷ [])

-- Excesses.

-- An empty bucket conforms.
opening_conforms : (gcra : Gcra) (moment : ℕ) → conforms gcra opening moment ≡ true
opening_conforms gcra moment = grind (arith, nat_tests)

tag_kept : (peak : Gcra) (sustained : Option Gcra) (excess : Verdict) (buckets : Buckets) (moment : ℕ) → verdict_under peak sustained excess buckets moment ≡ Tag
    → excess_under peak sustained buckets moment ≡ excess_under peak sustained (record { first = opening; second = buckets.second }) moment
tag_kept peak sustained excess buckets moment is = by (conforms peak buckets.first moment) is ∙ sym empty
  where
    Second : Option Excess
    Second = if conforms_if_met sustained buckets.second moment then None
        else Some (record { bucket = Sustained; ticks = over_limit_if_met sustained buckets.second moment })

    by : (b : Bool) → (if b then (if conforms_if_met sustained buckets.second moment then Pass else excess) else Discard) ≡ Tag
        → (if b then Second else Some (record { bucket = Peak; ticks = over_limit peak buckets.first moment })) ≡ Second
    by true is = refl
    by false is = let no : Discard ≡ Tag = is in cc

    empty : excess_under peak sustained (record { first = opening; second = buckets.second }) moment ≡ Second
    empty = rw (opening_conforms peak moment) refl

-- The excess of a cell that did not pass, from the buckets after it.
kept : (contract : Contract) (buckets : Buckets) (clp : Bool) (moment : ℕ) (verdict : Verdict) → verdict_of contract buckets clp moment ≡ verdict → verdict ≢ Pass
    → excess_at contract buckets clp moment ≡ excess_at contract (buckets_to_explain verdict (buckets_after contract buckets clp moment)) clp moment
kept contract buckets clp moment Pass is other = absurd (other refl)
kept contract buckets clp moment Tag is other =
    tag_kept (peak_of contract) (sustained_of contract clp) (verdict_over_second contract) buckets moment is
    ∙ ap (λ (v : Verdict). excess_at contract (record { first = opening; second = (charged_under v (peak_of contract) (sustained_of contract clp) buckets moment).second }) clp moment) (sym is)
kept contract buckets clp moment Discard is other =
    ap (λ (v : Verdict). excess_at contract (charged_under v (peak_of contract) (sustained_of contract clp) buckets moment) clp moment) (sym is)
kept contract buckets clp moment Refuse is other =
    ap (λ (v : Verdict). excess_at contract (charged_under v (peak_of contract) (sustained_of contract clp) buckets moment) clp moment) (sym is)

-- The contract that the cell names, if there is one.
by_named : (contracts : List Contract) (history : List NamedCell) (cell : NamedCell) (verdict : Verdict) (found : Option Contract) → numbered contracts cell.value ≡ found
    → verdict ≡ named_verdict found (buckets_after_cells contracts empty_buckets history cell.value) cell → verdict ≢ Pass
    → option_and_then (λ contract. excess_at contract (buckets_after_cells contracts empty_buckets history cell.value) cell.clp cell.moment) found
    ≡ option_and_then (λ contract. excess_at contract (buckets_to_explain verdict (buckets_after_cells contracts empty_buckets (history ++ cell ∷ []) cell.value)) cell.clp cell.moment) found
by_named contracts history cell verdict None named is other = refl
by_named contracts history cell verdict (Some contract) named is other =
    let number = cell.value in
    let itself : (number == number) ≡ true = grind (arith, nat_tests) in
    let buckets = buckets_left contract (empty_buckets number) (arrivals_at number history) in
    let before : buckets_after_cells contracts empty_buckets history number ≡ buckets =
    ap (λ (o : Option Contract). buckets_under o (empty_buckets number) (arrivals_at number history)) named in
    let after : buckets_after_cells contracts empty_buckets (history ++ cell ∷ []) number ≡ buckets_after contract buckets cell.clp cell.moment =
    ap (λ (o : Option Contract). buckets_under o (empty_buckets number) (arrivals_at number (history ++ cell ∷ []))) named
    ∙ named_then contract (empty_buckets number) number history cell itself in
    let given : verdict_of contract buckets cell.clp cell.moment ≡ verdict =
    sym (is ∙ ap (λ (b : Buckets). verdict_of contract b cell.clp cell.moment) before) in
    ap (λ (b : Buckets). excess_at contract b cell.clp cell.moment) before
    ∙ kept contract buckets cell.clp cell.moment verdict given other
    ∙ sym (ap (λ (b : Buckets). excess_at contract (buckets_to_explain verdict b) cell.clp cell.moment) after)

passes_named : (contracts : List Contract) (history : List NamedCell) (cell : NamedCell) (found : Option Contract)
    → Pass ≡ named_verdict found (buckets_after_cells contracts empty_buckets history cell.value) cell
    → None ≡ option_and_then (λ contract. excess_at contract (buckets_after_cells contracts empty_buckets history cell.value) cell.clp cell.moment) found
passes_named contracts history cell None is = refl
passes_named contracts history cell (Some contract) is =
    sym ((passed_cells_have_no_excess contract (buckets_after_cells contracts empty_buckets history cell.value) cell.clp cell.moment).1 (sym is))

-- The excess of a cell whose moment doesn't go back is that of the contract.
forward_excess : (connection : Connection) (value : ℕ) (clp : Bool) (moment : ℕ) → last_moment 0 connection.history ≤ moment
    → next_excess connection value clp moment
    ≡ option_and_then (λ contract. excess_at contract (buckets_after_cells connection.contracts empty_buckets connection.history value) clp moment) (numbered connection.contracts value)
forward_excess connection value clp moment forward =
    let late : nat_lt moment (last_moment 0 connection.history) ≡ false = grind (arith, nat_tests, forward) in
    ap (λ b. if b then None else option_and_then (λ contract. excess_at contract (buckets_after_cells connection.contracts empty_buckets connection.history value) clp moment) (numbered connection.contracts value)) late

-- A cell that was judged on a connection.
module _ (before after : List (Vc × Connection)) (vc : Vc) (clp : Bool) (moment value : ℕ) (verdict : Verdict) (judges : JudgesNext before after vc clp moment value verdict) where
  abbrev Excess_at : ℕ → Bool → ℕ → Option Excess
  Excess_at value clp moment = next_excess judges.connection value clp moment

  -- The excess by the cell's own value, priority and moment.
  by_cell : Excess_at judges.cell.value judges.cell.clp judges.cell.moment ≡ next_excess judges.connection value clp moment
  by_cell =
      ap (λ n. Excess_at n judges.cell.clp judges.cell.moment) judges.valued ∙ ap (λ b. Excess_at value b judges.cell.moment) judges.priority
      ∙ ap (λ n. Excess_at value clp n) judges.at

  forward' : last_moment 0 judges.connection.history ≤ judges.cell.moment
  forward' = subst (λ n. last_moment 0 judges.connection.history ≤ n) (sym judges.at) judges.forward

  pub passed_next : verdict ≡ Pass → None ≡ next_excess judges.connection value clp moment
  passed_next is =
      passes_named judges.connection.contracts judges.connection.history judges.cell (numbered judges.connection.contracts judges.cell.value) (sym is ∙ judges.judged)
      ∙ sym (forward_excess judges.connection judges.cell.value judges.cell.clp judges.cell.moment forward') ∙ by_cell

  pub refused_next : verdict ≢ Pass → excess_left judges.next value verdict clp moment ≡ next_excess judges.connection value clp moment
  refused_next other =
      let Left : List Contract → List NamedCell → ℕ → Bool → ℕ → Option Excess = λ contracts history value clp moment.
      option_and_then (λ contract. excess_at contract (buckets_to_explain verdict (buckets_after_cells contracts empty_buckets history value)) clp moment) (numbered contracts value) in
      let history = judges.connection.history ++ judges.cell ∷ [] in
      ap (λ (contracts : List Contract). Left contracts judges.next.history value clp moment) judges.contracts
      ∙ ap (λ (cells : List NamedCell). Left judges.connection.contracts cells value clp moment) judges.history
      ∙ sym (ap (λ n. Left judges.connection.contracts history n judges.cell.clp judges.cell.moment) judges.valued
      ∙ ap (λ b. Left judges.connection.contracts history value b judges.cell.moment) judges.priority
      ∙ ap (λ n. Left judges.connection.contracts history value clp n) judges.at)
      ∙ sym (by_named judges.connection.contracts judges.connection.history judges.cell verdict (numbered judges.connection.contracts judges.cell.value) refl judges.judged other)
      ∙ sym (forward_excess judges.connection judges.cell.value judges.cell.clp judges.cell.moment forward') ∙ by_cell
