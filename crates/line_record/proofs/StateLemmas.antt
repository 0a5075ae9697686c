-- States for histories, and buckets for states.
use Rattle.std.proofs.Common.{◌≡◌, ℕ, zero, suc, ◌+◌, ◌-◌, ◌^◌, ◌≤◌, Bool, true, false, List, [], ◌∷◌, length, Option, Some, None, All, refl, sym, ap, subst, ◌∙◌, arith}
use Rattle.std.specs.Prelude.{slice_get, ◌==◌}
use Rattle.std.proofs.lemmas.List.Elements.{All-nil, All-cons, All-head, All-tail}
use Rattle.std.proofs.lemmas.Option.{same_Some}
use Rattle.leaky.specs.declared.contract.Contract.{Contract}
use Rattle.leaky.specs.declared.levels.Levels.{Levels}
use Rattle.leaky.specs.Moments.{GoesOn}
use Rattle.leaky.specs.Contract.{Buckets, opening_buckets, buckets_after as after_cell}
use Rattle.leaky.specs.Arrivals.{Arrival, buckets_left}
use Rattle.leaky.specs.KeptState.{Agrees, IsChargedBy}
use Rattle.leaky.proofs.Public.{levels_stand_for_buckets, levels_follow_buckets, charges_keep_up}
use Rattle.line_record.specs.declared.state.State.{State}
use Rattle.line_record.specs.History.{NamedCell, moments_of, last_moment, numbered, arrival_of, arrivals_at, empty_buckets, buckets_under, buckets_after_cells}
use Rattle.line_record.proofs.NumberLemmas.{numbered-above, numbered-within, numbered-both}
use Rattle.line_record.proofs.HistoryLemmas.{arrivals_at-named, arrivals_at-skips}
use Rattle.line_record.proofs.EntryLemmas.{charged_later}
use Rattle.line_record.specs.Laws.{StatesStandForBuckets, HistoriesHaveStates}

-- Some buckets that the levels represent.
some_buckets : Option Levels → Buckets
some_buckets None = opening_buckets
some_buckets (Some levels) = (levels_stand_for_buckets levels).0

holds-at : (found : Option Levels) (levels : Levels) (last : ℕ) → found ≡ Some levels
    → Agrees levels (some_buckets found) × IsChargedBy (some_buckets found) last
unfolding some_buckets
holds-at None levels last at = cc
holds-at (Some found) levels last at =
    let holds = levels_stand_for_buckets found in
    let agrees = subst (λ (l : Levels). Agrees l holds.0) (same_Some found levels at) holds.1 in
    (agrees, record { first = omega (arith, holds.2.first); second = omega (arith, holds.2.second) })

pub states-stand : StatesStandForBuckets
states-stand state = (
  λ number. some_buckets (numbered state.levels.items number),
  record {
    agrees = λ number levels at. (holds-at (numbered state.levels.items number) levels state.last at).0;
    charged = λ number levels at. (holds-at (numbered state.levels.items number) levels state.last at).1;
  },
)

-- A history charges no bucket after its last moment.
charged-after : (contract : Contract) (number : ℕ) (buckets : Buckets) (earlier : ℕ) (history : List NamedCell)
    → GoesOn earlier (moments_of history) → IsChargedBy buckets earlier
    → IsChargedBy (buckets_left contract buckets (arrivals_at number history)) (last_moment earlier history)
charged-after contract number buckets earlier [] goes charged = charged
charged-after contract number buckets earlier (cell ∷ later) goes charged =
    let by_now = charged_later buckets earlier cell.moment goes.0 charged in
    let last = last_moment cell.moment later in
    let choice : (b : Bool) → (cell.value == number) ≡ b
    → IsChargedBy (buckets_left contract buckets (arrivals_at number (cell ∷ later))) last = elim [
      | true ↦ λ same.
          let after = after_cell contract buckets cell.clp cell.moment in
          let rest = charged-after contract number after cell.moment later goes.1
          (charges_keep_up contract buckets cell.clp cell.moment by_now) in
          rw (arrivals_at-named number cell later same) rest
      | false ↦ λ differs.
          rw (arrivals_at-skips number cell later differs)
          (charged-after contract number buckets cell.moment later goes.1 by_now)
    ] in
    choice (cell.value == number) refl

-- If all cells have moments up to 2^62, so have those that name a contract.
All-arrivals : (number : ℕ) (history : List NamedCell) → All (λ (c : NamedCell). c.moment ≤ 2 ^ 62) history
    → All (λ (a : Arrival). a.moment ≤ 2 ^ 62) (arrivals_at number history)
All-arrivals number [] all = All-nil (λ (a : Arrival). a.moment ≤ 2 ^ 62)
All-arrivals number (cell ∷ later) all =
    let InTime : Arrival → Type 0 = λ a. a.moment ≤ 2 ^ 62 in
    let own : cell.moment ≤ 2 ^ 62 = All-head (λ (c : NamedCell). c.moment ≤ 2 ^ 62) cell later all in
    let rest = All-arrivals number later (All-tail (λ (c : NamedCell). c.moment ≤ 2 ^ 62) cell later all) in
    let choice : (b : Bool) → (cell.value == number) ≡ b → All InTime (arrivals_at number (cell ∷ later)) = elim [
      | true ↦ λ same.
          subst (All InTime) (sym (arrivals_at-named number cell later same))
          (All-cons InTime (arrival_of cell) (arrivals_at number later) own rest)
      | false ↦ λ differs. subst (All InTime) (sym (arrivals_at-skips number cell later differs)) rest
    ] in
    choice (cell.value == number) refl

-- Levels for the contracts, from this number on.
levels-built : (history : List NamedCell) → All (λ (c : NamedCell). c.moment ≤ 2 ^ 62) history
    → (contracts : List Contract) (from : ℕ)
    → (levels : List Levels) × (length levels ≡ length contracts)
    × ((place : ℕ) (l : Levels) (contract : Contract) → slice_get levels place ≡ Some l → slice_get contracts place ≡ Some contract
    → Agrees l (buckets_left contract opening_buckets (arrivals_at (suc (from + place)) history)))
levels-built history in_time [] from = ([], refl, λ place l contract at named. cc)
levels-built history in_time (contract ∷ later) from =
    let zero_levels : Levels = record { first = 0; second = 0; first_bounded = omega arith; second_bounded = omega arith } in
    let agrees : Agrees zero_levels opening_buckets = record { first = refl; second = refl } in
    let own = levels_follow_buckets contract zero_levels opening_buckets (arrivals_at (suc from) history) agrees (All-arrivals (suc from) history in_time) in
    let rest = levels-built history in_time later (suc from) in
    let At : ℕ → Type 0 = λ place. (l : Levels) (k : Contract)
    → slice_get (own.0 ∷ rest.0) place ≡ Some l → slice_get (contract ∷ later) place ≡ Some k
    → Agrees l (buckets_left k opening_buckets (arrivals_at (suc (from + place)) history)) in
    let first : At 0 = λ l k at named.
    let e : from ≡ from + 0 = omega arith in
    let here : Agrees own.0 (buckets_left contract opening_buckets (arrivals_at (suc (from + 0)) history)) =
    subst (λ n. Agrees own.0 (buckets_left contract opening_buckets (arrivals_at (suc n) history))) e own.1 in
    subst (λ (x : Levels). Agrees x (buckets_left k opening_buckets (arrivals_at (suc (from + 0)) history))) (same_Some own.0 l at)
    (subst (λ (x : Contract). Agrees own.0 (buckets_left x opening_buckets (arrivals_at (suc (from + 0)) history))) (same_Some contract k named) here) in
    let next : (place : ℕ) → At (suc place) = λ place l k at named.
    let e : suc from + place ≡ from + suc place = omega arith in
    subst (λ n. Agrees l (buckets_left k opening_buckets (arrivals_at (suc n) history))) e (rest.2 place l k at named) in
    let every : (place : ℕ) → At place = elim [ zero ↦ first | suc place ↦ next place ] in
    (own.0 ∷ rest.0, ap suc rest.1, every)

pub histories-have_states : HistoriesHaveStates
histories-have_states contracts history counts goes in_time =
    let built = levels-built history in_time contracts 0 in
    let last = last_moment 0 history in
    let state : State = record { levels = record { items = built.0 }; last = last; counts = counts } in
    let opened : IsChargedBy opening_buckets 0 = record { first = omega arith; second = omega arith } in
    let both : (number : ℕ) (levels : Levels) → numbered built.0 number ≡ Some levels
    → Agrees levels (buckets_after_cells contracts empty_buckets history number)
    × IsChargedBy (buckets_after_cells contracts empty_buckets history number) last = λ number levels at.
    let within = numbered-within built.0 number levels at in
    let named = numbered-both built.0 contracts number levels (sym built.1) at in
    let here : slice_get built.0 (number - 1) ≡ Some levels = sym (numbered-above built.0 number within.0) ∙ at in
    let there : slice_get contracts (number - 1) ≡ Some named.0 = sym (numbered-above contracts number within.0) ∙ named.1 in
    let e : suc (0 + (number - 1)) ≡ number = omega (arith, within.0) in
    let left = buckets_left named.0 opening_buckets (arrivals_at number history) in
    let agrees : Agrees levels left =
    subst (λ n. Agrees levels (buckets_left named.0 opening_buckets (arrivals_at n history))) e
    (built.2 (number - 1) levels named.0 here there) in
    let charged : IsChargedBy left last = charged-after named.0 number opening_buckets 0 history goes opened in
    subst (λ (o : Option Contract). Agrees levels (buckets_under o opening_buckets (arrivals_at number history))
    × IsChargedBy (buckets_under o opening_buckets (arrivals_at number history)) last) (sym named.1) (agrees, charged) in (
      state,
      refl,
      record {
        one_each = built.1;
        holds = record {
          agrees = λ number levels at. (both number levels at).0;
          charged = λ number levels at. (both number levels at).1;
        };
        last = refl;
      },
    )
