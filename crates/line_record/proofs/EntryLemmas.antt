-- One entry is a run.
use Rattle.std.proofs.Common.{◌≡◌, ◌≢◌, ℕ, ◌≤◌, false, List, [], ◌∷◌, length, Option, Some, None, refl, sym, ap, subst, ◌∙◌, inl, inr, arith}
use Rattle.std.specs.Prelude.{◌==◌}
use Rattle.std.proofs.lemmas.Bool.{cases_eq}
use Rattle.std.proofs.lemmas.Bool.Decides.{Decides-eqb, nat_tests}
use Rattle.leaky.specs.declared.contract.Contract.{Contract}
use Rattle.leaky.specs.declared.levels.Levels.{Levels}
use Rattle.leaky.specs.declared.verdict.Verdict.{Verdict}
use Rattle.leaky.specs.declared.verdict.Verdict.TheVariants.{Refuse}
use Rattle.leaky.specs.Contract.{Buckets, verdict_of, buckets_after as after_cell}
use Rattle.leaky.specs.KeptState.{Agrees, IsChargedBy}
use Rattle.leaky.proofs.Public.{charges_keep_up}
use Rattle.line_record.specs.declared.state.State.{State}
use Rattle.line_record.specs.History.{NamedCell, numbered, arrivals_at, arrival_of, buckets_under, buckets_after_cells, named_verdict, verdict_after}
use Rattle.line_record.specs.JournalRun.{KeepsBuckets}
use Rattle.line_record.proofs.NumberLemmas.{numbered-both}
use Rattle.line_record.proofs.HistoryLemmas.{buckets_under-nil}

-- A bucket that wasn't charged after a moment wasn't charged after a later one.
pub charged_later : (buckets : Buckets) (earlier later : ℕ) → earlier ≤ later → IsChargedBy buckets earlier → IsChargedBy buckets later
charged_later buckets earlier later h charged = record { first = omega (arith, charged.first); second = omega (arith, charged.second) }

-- A cell names its own contract.
arrivals_at-own : (cell : NamedCell) → arrivals_at cell.value (cell ∷ []) ≡ arrival_of cell ∷ []
arrivals_at-own cell = rw ((Decides-eqb cell.value cell.value).1 refl) refl

arrivals_at-other : (cell : NamedCell) (number : ℕ) → number ≢ cell.value → arrivals_at number (cell ∷ []) ≡ []
arrivals_at-other cell number apart =
    let differs : (cell.value == number) ≡ false = grind (arith, nat_tests) in rw differs refl

-- What a judged cell leaves of the state: its levels and the last moment, and its verdict.
pub record Judges (contracts : List Contract) (before after : State) (cell : NamedCell) (given : Verdict) : Type 0 where
  pub one_each : length before.levels.items ≡ length contracts
  pub sized : length after.levels.items ≡ length before.levels.items
  pub later : before.last ≤ cell.moment
  pub last : after.last ≡ cell.moment
  pub verdict : (contract : Contract) (levels : Levels) (buckets : Buckets)
      → numbered contracts cell.value ≡ Some contract → numbered before.levels.items cell.value ≡ Some levels
      → Agrees levels buckets → IsChargedBy buckets cell.moment
      → given ≡ verdict_of contract buckets cell.clp cell.moment
  pub levels : (contract : Contract) (old new : Levels) (buckets : Buckets)
      → numbered contracts cell.value ≡ Some contract → numbered before.levels.items cell.value ≡ Some old
      → numbered after.levels.items cell.value ≡ Some new
      → Agrees old buckets → IsChargedBy buckets cell.moment
      → Agrees new (after_cell contract buckets cell.clp cell.moment)
  pub others : (other : ℕ) → other ≢ cell.value
      → numbered after.levels.items other ≡ numbered before.levels.items other
  pub none : numbered contracts cell.value ≡ None → given ≡ Refuse

module _ (contracts : List Contract) (before after : State) (cell : NamedCell) (given : Verdict)
    (judges : Judges contracts before after cell given) (opening : ℕ → Buckets) (holds : KeepsBuckets before opening) where
  verdict_is : (named : Option Contract) → numbered contracts cell.value ≡ named
      → given ≡ named_verdict named (buckets_under named (opening cell.value) []) cell
  verdict_is None is = judges.none is
  verdict_is (Some contract) is =
      let old = numbered-both contracts before.levels.items cell.value contract judges.one_each is in
      let charged = charged_later (opening cell.value) before.last cell.moment judges.later (holds.charged cell.value old.0 old.1) in
      judges.verdict contract old.0 (opening cell.value) is old.1 (holds.agrees cell.value old.0 old.1) charged

  -- The verdict is that of the history.
  pub Judges-verdict : given ≡ verdict_after contracts opening [] cell
  Judges-verdict = verdict_is (numbered contracts cell.value) refl

  own_agrees : (new : Levels) (named : Option Contract) → numbered contracts cell.value ≡ named
      → numbered after.levels.items cell.value ≡ Some new
      → Agrees new (buckets_under named (opening cell.value) (arrival_of cell ∷ []))
      × IsChargedBy (buckets_under named (opening cell.value) (arrival_of cell ∷ [])) cell.moment
  own_agrees new None is at =
      let kept : length contracts ≡ length after.levels.items = sym (judges.sized ∙ judges.one_each) in
      let contract = numbered-both after.levels.items contracts cell.value new kept at in
      cc
  own_agrees new (Some contract) is at =
      let old = numbered-both contracts before.levels.items cell.value contract judges.one_each is in
      let charged = charged_later (opening cell.value) before.last cell.moment judges.later (holds.charged cell.value old.0 old.1) in
      let agrees = holds.agrees cell.value old.0 old.1 in (
        judges.levels contract old.0 new (opening cell.value) is old.1 at agrees charged,
        charges_keep_up contract (opening cell.value) cell.clp cell.moment charged,
      )

  agrees_at : (number : ℕ) (new : Levels) → numbered after.levels.items number ≡ Some new
      → Agrees new (buckets_after_cells contracts opening (cell ∷ []) number)
      × IsChargedBy (buckets_after_cells contracts opening (cell ∷ []) number) after.last
  agrees_at number new at = elim (cases_eq number cell.value) [
    | inl same ↦
        let Own : ℕ → Type 0 = λ n. (numbered after.levels.items n ≡ Some new)
        → Agrees new (buckets_after_cells contracts opening (cell ∷ []) n)
        × IsChargedBy (buckets_after_cells contracts opening (cell ∷ []) n) after.last in
        let own : Own cell.value = λ here.
        let left = own_agrees new (numbered contracts cell.value) refl here in
        rw (arrivals_at-own cell, judges.last) left in
        subst Own (sym same) own at
    | inr apart ↦
        let was : numbered before.levels.items number ≡ Some new = sym (judges.others number apart) ∙ at in
        let bounded = charged_later (opening number) before.last cell.moment judges.later (holds.charged number new was) in
        let kept : buckets_after_cells contracts opening (cell ∷ []) number ≡ opening number =
        ap (buckets_under (numbered contracts number) (opening number)) (arrivals_at-other cell number apart)
        ∙ buckets_under-nil (numbered contracts number) (opening number) in
        rw (kept, judges.last) (holds.agrees number new was, bounded)
  ]

  -- The levels after the cell represent the buckets after it.
  pub Judges-levels : KeepsBuckets after (buckets_after_cells contracts opening (cell ∷ []))
  Judges-levels = record {
    agrees = λ number new at. (agrees_at number new at).0;
    charged = λ number new at. (agrees_at number new at).1;
  }
