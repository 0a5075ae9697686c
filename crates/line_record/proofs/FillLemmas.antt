-- The cells of a history that are counted for a bucket are those that filled it.
use Rattle.std.proofs.Common.{◌≡◌, ℕ, ◌&&◌, Bool, true, false, Option, Some, None, List, [], ◌∷◌, ◌++◌, refl, sym, ap, subst, ◌∙◌}
use Rattle.std.specs.Prelude.{◌==◌, IfSome}
use Rattle.std.proofs.lemmas.Bool.Decides.{Decides-eqb}
use Rattle.leaky.specs.declared.gcra.Gcra.{Gcra}
use Rattle.leaky.specs.declared.contract.Contract.{Contract}
use Rattle.leaky.specs.declared.verdict.Verdict.{Verdict}
use Rattle.leaky.specs.Bucket.{Bucket}
use Rattle.leaky.specs.Bursts.{Fills}
use Rattle.leaky.specs.Contract.{Buckets, peak_of, second_of, verdict_of, buckets_after as after_cell}
use Rattle.leaky.specs.Arrivals.{buckets_left, charges_first, charges_second}
use Rattle.leaky.proofs.Public.{charges_are_fillings}
use Rattle.line_record.specs.History.{NamedCell, numbered, arrivals_at, buckets_under, buckets_after_cells, named_verdict, verdict_after}
use Rattle.line_record.specs.Laws.{CountedCellsFill}
use Rattle.line_record.proofs.HistoryLemmas.{arrivals_at-named, arrivals_at-skips, buckets_after-append}

-- Each bucket is filled exactly if the cell is counted for it.
record ChargesOnce (contract : Contract) (before after : Buckets) (moment : ℕ) (charged charged_too : Bool) : Type 0 where
  first : Fills (peak_of contract) before.first after.first moment charged
  second : IfSome (second_of contract) (λ sustained. Fills sustained before.second after.second moment charged_too)

-- A cell that isn't counted leaves the bucket unchanged.
leaves : (gcra : Gcra) (bucket : Bucket) (moment : ℕ) → Fills gcra bucket bucket moment false
leaves gcra bucket moment = record { fills = λ e. cc; leaves = λ e. refl }

leaves-if : (rate : Option Gcra) (bucket : Bucket) (moment : ℕ)
    → IfSome rate (λ gcra. Fills gcra bucket bucket moment false)
leaves-if None bucket moment = tt
leaves-if (Some gcra) bucket moment = leaves gcra bucket moment

module _ (contracts : List Contract) (opening : ℕ → Buckets) (history : List NamedCell) (cell : NamedCell)
    (number : ℕ) (contract : Contract) (at : numbered contracts number ≡ Some contract) where
  abbrev before : Buckets
  before = buckets_after_cells contracts opening history number

  abbrev after : Buckets
  after = buckets_after_cells contracts opening (history ++ cell ∷ []) number

  abbrev verdict : Verdict
  verdict = verdict_after contracts opening history cell

  -- The buckets after one cell are those after the arrivals of this cell for the contract.
  after-is : after ≡ buckets_left contract before (arrivals_at number (cell ∷ []))
  after-is =
      buckets_after-append contracts opening history (cell ∷ []) number
      ∙ ap (λ (named : Option Contract). buckets_under named before (arrivals_at number (cell ∷ []))) at

  named-charges : (cell.value == number) ≡ true
      → ChargesOnce contract before after cell.moment (charges_first verdict) (charges_second verdict contract cell.clp)
  named-charges same =
      let numbers : cell.value ≡ number = (Decides-eqb cell.value number).0 same in
      let becomes : after ≡ after_cell contract before cell.clp cell.moment =
      after-is ∙ ap (buckets_left contract before) (arrivals_at-named number cell [] same) in
      let decided : verdict ≡ verdict_of contract before cell.clp cell.moment =
      ap (λ n. named_verdict (numbered contracts n) (buckets_after_cells contracts opening history n) cell) numbers
      ∙ ap (λ (named : Option Contract). named_verdict named before cell) at in
      let charges = charges_are_fillings contract before cell.clp cell.moment in
      let Of : Buckets → Verdict → Type 0 = λ b v.
      ChargesOnce contract before b cell.moment (charges_first v) (charges_second v contract cell.clp) in
      subst (λ b. Of b verdict) (sym becomes)
      (subst (Of (after_cell contract before cell.clp cell.moment)) (sym decided) (record {
        first = charges.first;
        second = charges.second;
      }))

  other-charges : (cell.value == number) ≡ false → ChargesOnce contract before after cell.moment false false
  other-charges differs =
      let stays : after ≡ before =
      after-is ∙ ap (buckets_left contract before) (arrivals_at-skips number cell [] differs) in
      subst (λ b. ChargesOnce contract before b cell.moment false false) (sym stays) (record {
        first = leaves (peak_of contract) before.first cell.moment;
        second = leaves-if (second_of contract) before.second cell.moment;
      })

  all-charges : ChargesOnce contract before after cell.moment
      ((cell.value == number) && charges_first verdict)
      ((cell.value == number) && charges_second verdict contract cell.clp)
  all-charges =
      let Of : Bool → Type 0 = λ b.
      ChargesOnce contract before after cell.moment (b && charges_first verdict) (b && charges_second verdict contract cell.clp) in
      let choice : (b : Bool) → (cell.value == number) ≡ b → Of b = elim [
        | true ↦ named-charges
        | false ↦ other-charges
      ] in
      choice (cell.value == number) refl

pub counted-fill : CountedCellsFill
counted-fill contracts opening history cell number contract at =
    let charges = all-charges contracts opening history cell number contract at in
    record { first = charges.first; second = charges.second }
