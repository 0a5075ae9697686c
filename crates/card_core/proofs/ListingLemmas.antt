-- The next connection among the lines, and in each world that the core agrees with.
use Rattle.std.proofs.Common.{◌≡◌, ◌⊎◌, ℕ, ◌+◌, ◌<◌, nat_lt, Bool, true, false, cond, List, length, Option, Some, None, IsSome, MatchOption, inl, inr, refl, sym, ap, subst, ◌∙◌, arith}
use Rattle.std.specs.Prelude.{slice_get}
use Rattle.std.proofs.lemmas.Bool.Decides.{nat_tests}
use Rattle.std.proofs.lemmas.Option.{slice_get_within}
use Rattle.upc_cell.specs.declared.vc.Vc.{Vc}
use Rattle.line_record.specs.declared.owner.Owner.{Owner}
use Rattle.line_record.specs.Line.{LineView}
use Rattle.card_core.specs.Agreement.{CoreView, CoreAgrees, owner_of}
use Rattle.card_core.specs.ConnectionState.{is_before, is_after, IsNextVc, IsLastVc}
use Rattle.card_core.specs.World.{World, connection_in}
use Rattle.card_core.specs.inner.Listing.{first_of_both, nearer, ServesAt, HasReached, IsNearest}
use Rattle.card_core.proofs.LookUps.{same_some, there_is, IsSome-of}

-- A connection doesn't come before itself.
before-itself : (vc : Vc) → is_before vc vc ≡ false
before-itself vc = grind (arith, nat_tests)

-- What isn't before one connection isn't before another that is.
before-neither : (vc best other : Vc) → is_before vc best ≡ true → is_before other best ≡ false → is_before other vc ≡ false
before-neither vc best other before not_before = grind (arith, nat_tests)

-- The first of both is reached by each that the best was reached by.
reached-still : (best : Option Vc) (vc other : Vc) → HasReached best other → HasReached (Some (first_of_both best vc)) other
reached-still None vc other reached = absurd reached
reached-still (Some best) vc other reached =
    let choice : (b : Bool) → is_before vc best ≡ b → is_before other (cond b vc best) ≡ false = elim [
      | true ↦ λ e. before-neither vc best other e reached
      | false ↦ λ e. reached
    ] in
    choice (is_before vc best) refl

-- And by the other one itself.
reached-itself : (best : Option Vc) (vc : Vc) → HasReached (Some (first_of_both best vc)) vc
reached-itself None vc = before-itself vc
reached-itself (Some best) vc =
    let choice : (b : Bool) → is_before vc best ≡ b → is_before vc (cond b vc best) ≡ false = elim [
      | true ↦ λ e. before-itself vc
      | false ↦ λ e. e
    ] in
    choice (is_before vc best) refl

reached-nearer : (best earlier : Option Vc) (vc other : Vc) → HasReached best other → HasReached (nearer best earlier vc) other
reached-nearer best earlier vc other reached =
    let choice : (b : Bool) → is_after earlier vc ≡ b → HasReached (cond b (Some (first_of_both best vc)) best) other = elim [
      | true ↦ λ e. reached-still best vc other reached
      | false ↦ λ e. reached
    ] in
    choice (is_after earlier vc) refl

reached-now : (best earlier : Option Vc) (vc : Vc) → is_after earlier vc ≡ true → HasReached (nearer best earlier vc) vc
reached-now best earlier vc after =
    subst (λ (b : Bool). HasReached (cond b (Some (first_of_both best vc)) best) vc) (sym after) (reached-itself best vc)

-- What is found is this one, or what was found before.
found-of-both : (best : Option Vc) (vc next : Vc) → first_of_both best vc ≡ next → (next ≡ vc) ⊎ (best ≡ Some next)
found-of-both None vc next e = inl (sym e)
found-of-both (Some best) vc next e =
    let choice : (b : Bool) → cond b vc best ≡ next → (next ≡ vc) ⊎ (Some best ≡ Some next) = elim [
      | true ↦ λ is. inl (sym is)
      | false ↦ λ is. inr (ap Some is)
    ] in
    choice (is_before vc best) e

found-nearer : (best earlier : Option Vc) (vc next : Vc) → nearer best earlier vc ≡ Some next
    → ((next ≡ vc) × (is_after earlier vc ≡ true)) ⊎ (best ≡ Some next)
found-nearer best earlier vc next e =
    let choice : (b : Bool) → is_after earlier vc ≡ b → cond b (Some (first_of_both best vc)) best ≡ Some next
    → ((next ≡ vc) × (is_after earlier vc ≡ true)) ⊎ (best ≡ Some next) = elim [
      | true ↦ λ after is.
          let both = found-of-both best vc next (same_some (first_of_both best vc) next is) in
          let on : (next ≡ vc) ⊎ (best ≡ Some next) → ((next ≡ vc) × (is_after earlier vc ≡ true)) ⊎ (best ≡ Some next) = elim [
            | inl same ↦ inl (same, after)
            | inr was ↦ inr was
          ] in
          on both
      | false ↦ λ after is. inr is
    ] in
    choice (is_after earlier vc) refl e

-- One of the lines below the next number is that of this number or below it.
below-or-here : (number below : ℕ) → number < below + 1 → (number < below) ⊎ (number ≡ below)
below-or-here number below h =
    let choice : (b : Bool) → nat_lt number below ≡ b → (number < below) ⊎ (number ≡ below) = elim [
      | true ↦ λ e. inl (grind (arith, nat_tests))
      | false ↦ λ e. inr (grind (arith, nat_tests))
    ] in
    choice (nat_lt number below) refl

-- Among no lines nothing is found.
pub nearest-none : (lines : List LineView) (earlier : Option Vc) → IsNearest lines 0 earlier None
nearest-none lines earlier = record {
  there = λ next e. absurd (cc);
  least = λ number vc below serves after. absurd (omega arith);
}

module _ (lines : List LineView) (below : ℕ) (line : LineView) (here : slice_get lines below ≡ Some line) (earlier best : Option Vc) where
  -- A line without an owner.
  pub nearest-free : line.owner ≡ None → IsNearest lines below earlier best → IsNearest lines (below + 1) earlier best
  nearest-free free nearest = record {
    there = nearest.there;
    least = λ number vc under serves after.
        let place : (number < below) ⊎ (number ≡ below) → HasReached best vc = elim [
          | inl lower ↦ nearest.least number vc lower serves after
          | inr same ↦
              let is : line ≡ serves.line = same_some line serves.line (sym here ∙ ap (slice_get lines) (sym same) ∙ serves.there) in
              let owned : None ≡ Some serves.owner = sym free ∙ ap (λ (l : LineView). l.owner) is ∙ serves.owned in
              absurd (cc)
        ] in
        place (below-or-here number below under);
  }

  -- A line with an owner.
  pub nearest-owned : (owner : Owner) → line.owner ≡ Some owner → IsNearest lines below earlier best
      → IsNearest lines (below + 1) earlier (nearer best earlier owner.vc)
  nearest-owned owner owned nearest = record {
    there = λ next e.
        let found : ((next ≡ owner.vc) × (is_after earlier owner.vc ≡ true)) ⊎ (best ≡ Some next)
        → ((number : ℕ) × ServesAt lines number next) × (is_after earlier next ≡ true) = elim [
          | inl now ↦ (
            (below, record { line = line; there = here; owner = owner; owned = owned; same = sym now.0 }),
            subst (λ (vc : Vc). is_after earlier vc ≡ true) (sym now.0) now.1,
          )
          | inr was ↦ nearest.there next was
        ] in
        found (found-nearer best earlier owner.vc next e);
    least = λ number vc under serves after.
        let place : (number < below) ⊎ (number ≡ below) → HasReached (nearer best earlier owner.vc) vc = elim [
          | inl lower ↦ reached-nearer best earlier owner.vc vc (nearest.least number vc lower serves after)
          | inr same ↦
              let is : line ≡ serves.line = same_some line serves.line (sym here ∙ ap (slice_get lines) (sym same) ∙ serves.there) in
              let owners : owner ≡ serves.owner = same_some owner serves.owner (sym owned ∙ ap (λ (l : LineView). l.owner) is ∙ serves.owned) in
              let vcs : owner.vc ≡ vc = ap (λ (o : Owner). o.vc) owners ∙ serves.same in
              subst (λ (v : Vc). HasReached (nearer best earlier owner.vc) v) vcs
              (reached-now best earlier owner.vc (subst (λ (v : Vc). is_after earlier v ≡ true) (sym vcs) after))
        ] in
        place (below-or-here number below under);
  }

-- In a world that the core agrees with.
module _ (core : CoreView) (world : World) (agrees : CoreAgrees core world) where
  -- A line serves each connection.
  serves-each : (vc : Vc) → IsSome (connection_in world.connections vc) → (number : ℕ) × (number < length core.lines) × ServesAt core.lines number vc
  serves-each vc some =
      let it = there_is (connection_in world.connections vc) some in
      let serving = agrees.lines.serving vc it.0 it.1 in (
        it.0.line,
        slice_get_within core.lines it.0.line serving.0 serving.1,
        record { line = serving.0; there = serving.1; owner = owner_of vc it.0; owned = serving.2.owner; same = refl },
      )

  -- And serves no other one.
  served-is : (number : ℕ) (vc : Vc) → ServesAt core.lines number vc → IsSome (connection_in world.connections vc)
  served-is number vc serves =
      let owned = agrees.lines.owned number serves.line serves.owner serves.there serves.owned in
      subst (λ (v : Vc). IsSome (connection_in world.connections v)) serves.same
      (IsSome-of (connection_in world.connections serves.owner.vc) owned.connection owned.found)

  pub nearest-is-next : (earlier : Option Vc) (next : Vc) → IsNearest core.lines (length core.lines) earlier (Some next) → IsNextVc world earlier next
  nearest-is-next earlier next nearest =
      let found = nearest.there next refl in record {
        there = served-is found.0.0 next found.0.1;
        after = found.1;
        least = λ other some after.
            let it = serves-each other some in
            nearest.least it.0 other it.1 it.2 after;
      }

  pub none-is-last : (earlier : Option Vc) → IsNearest core.lines (length core.lines) earlier None → IsLastVc world earlier
  none-is-last earlier nearest = λ other some.
      let it = serves-each other some in
      let choice : (b : Bool) → is_after earlier other ≡ b → is_after earlier other ≡ false = elim [
        | true ↦ λ after. absurd (nearest.least it.0 other it.1 it.2 after)
        | false ↦ λ after. after
      ] in
      choice (is_after earlier other) refl

  pub nearest-next : (earlier found : Option Vc) → IsNearest core.lines (length core.lines) earlier found
      → MatchOption found (IsLastVc world earlier) (IsNextVc world earlier)
  nearest-next earlier None nearest = none-is-last earlier nearest
  nearest-next earlier (Some next) nearest = nearest-is-next earlier next nearest
