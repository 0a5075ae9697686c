-- The seats of a directory, and its look-ups by them.
use Rattle.std.proofs.Common.{◌≡◌, ◌≢◌, ℕ, zero, suc, ◌<◌, Bool, true, false, cond, Option, Some, None, [], ◌∷◌, length, replicate, set, slice_get, refl, sym, ap, subst, ◌∙◌, inl, inr, arith}
use Rattle.std.specs.List.{list_any}
use Rattle.std.specs.Prelude.{option_map}
use Rattle.std.proofs.lemmas.Bool.{cases_eq}
use Rattle.std.proofs.lemmas.Option.{same_Some, slice_get_within}
use Rattle.gen_arena.specs.declared.id.Id.{Id}
use Rattle.gen_arena.specs.SameId.{is_same_id}
use Rattle.gen_arena.proofs.Public.{slice_get-set_same, slice_get-set_other}
use Rattle.upc_cell.specs.declared.vc.Vc.{Vc}
use Rattle.upc_cell.specs.Connection.{is_same_vc}
use Rattle.upc_cell.proofs.Public.{vc_cases, vc_itself, vc_differs}
use Rattle.vc_table.specs.Lines.{ConnectionTable, line_of, HasSameLines, MovesTo}
use Rattle.line_record.specs.declared.directory.Seating.{Seating}
use Rattle.line_record.specs.Seatings.{seating_in}
use Rattle.line_record.specs.inner.SeatingChanges.{ChangesAt}
use Rattle.line_record.specs.inner.Seats.{LineSeats, seated, names_program, KeepsSeats}

-- A connection without a seat has no seating.
not_seated : (seats : LineSeats) (vc : Vc)
    → ((line : ℕ) (seating : Seating) → slice_get seats line ≢ Some (Some (vc, seating)))
    → seating_in (seated seats) vc ≡ None
not_seated [] vc none = refl
not_seated (None ∷ later) vc none = not_seated later vc (λ line seating at. none (suc line) seating at)
not_seated (Some seat ∷ later) vc none =
    let away : vc ≢ seat.0 = λ e. none 0 seat.1 (ap (λ (v : Vc). Some (Some (v, seat.1))) (sym e)) in
    rw (vc_differs vc seat.0 away) (not_seated later vc (λ line seating at. none (suc line) seating at))

-- A connection with one seat has the seating there.
is_seated : (seats : LineSeats) (vc : Vc) (line : ℕ) (seating : Seating)
    → slice_get seats line ≡ Some (Some (vc, seating))
    → ((other : ℕ) (another : Seating) → slice_get seats other ≡ Some (Some (vc, another)) → other ≡ line)
    → seating_in (seated seats) vc ≡ Some seating
is_seated [] vc line seating at once = cc
is_seated (None ∷ later) vc zero seating at once = cc
is_seated (None ∷ later) vc (suc line) seating at once =
    is_seated later vc line seating at (λ other another there. omega (arith, once (suc other) another there))
is_seated (Some seat ∷ later) vc zero seating at once =
    let same : seat ≡ (vc, seating) = cc in
    subst (λ (s : Vc × Seating). cond (is_same_vc vc s.0) (Some s.1) (seating_in (seated later) vc) ≡ Some seating) (sym same)
    (rw (vc_itself vc) refl)
is_seated (Some seat ∷ later) vc (suc line) seating at once =
    let away : vc ≢ seat.0 = λ e.
    let early : 0 ≡ suc line = once 0 seat.1 (ap (λ (v : Vc). Some (Some (v, seat.1))) (sym e)) in
    omega (arith, early) in
    rw (vc_differs vc seat.0 away)
    (is_seated later vc line seating at (λ other another there. omega (arith, once (suc other) another there)))

module _ (table : ConnectionTable) (seats : LineSeats) (is : KeepsSeats table seats) where
  pub seating-none : (vc : Vc) → line_of table vc ≡ None → seating_in (seated seats) vc ≡ None
  seating-none vc none = not_seated seats vc (λ line seating at.
      let found : Some line ≡ None = sym (is.kept line vc seating at) ∙ none in
      cc)

  pub seating-some : (line : ℕ) (vc : Vc) (seating : Seating) → slice_get seats line ≡ Some (Some (vc, seating))
      → seating_in (seated seats) vc ≡ Some seating
  seating-some line vc seating at = is_seated seats vc line seating at (λ other another there.
      same_Some other line (sym (is.kept other vc another there) ∙ is.kept line vc seating at))

  -- A connection with a seating has its line.
  pub line-seated : (vc : Vc) (seating : Seating) → seating_in (seated seats) vc ≡ Some seating
      → (line_of table vc ≡ Some seating.line) × (slice_get seats seating.line ≡ Some (Some (vc, seating)))
  line-seated vc seating at =
      let choice : (found : Option ℕ) → line_of table vc ≡ found
      → (line_of table vc ≡ Some seating.line) × (slice_get seats seating.line ≡ Some (Some (vc, seating))) = elim [
        | None ↦ λ e. absurd (let no : Some seating ≡ None = sym at ∙ seating-none vc e in cc)
        | Some line ↦ λ e.
            let seat = is.found vc line e in
            let same : seat.seating ≡ seating =
            same_Some seat.seating seating (sym (seating-some line vc seat.seating seat.there) ∙ at) in
            let there : slice_get seats line ≡ Some (Some (vc, seating)) =
            subst (λ (s : Seating). slice_get seats line ≡ Some (Some (vc, s))) same seat.there in
            let own : seating.line ≡ line = is.own line vc seating there in (
              e ∙ ap (λ (n : ℕ). Some n) (sym own),
              subst (λ (n : ℕ). slice_get seats n ≡ Some (Some (vc, seating))) (sym own) there,
            )
      ] in
      choice (line_of table vc) refl

-- No connection.

no_seat : (count line : ℕ) (vc : Vc) (seating : Seating) → slice_get {X = Option (Vc × Seating)} (replicate count None) line ≢ Some (Some (vc, seating))
no_seat zero line vc seating at = cc
no_seat (suc count) zero vc seating at = cc
no_seat (suc count) (suc line) vc seating at = no_seat count line vc seating at

pub seated-none : (count : ℕ) → seated (replicate count None) ≡ []
seated-none zero = refl
seated-none (suc count) = seated-none count

pub KeepsSeats-new : (table : ConnectionTable) (count : ℕ) → ((vc : Vc) → line_of table vc ≡ None)
    → KeepsSeats table (replicate count None)
KeepsSeats-new table count none = record {
  found = λ vc line at. absurd (let no : None ≡ Some line = sym (none vc) ∙ at in cc);
  kept = λ line vc seating at. absurd (no_seat count line vc seating at);
  own = λ line vc seating at. absurd (no_seat count line vc seating at);
}

pub KeepsSeats-same : (table new : ConnectionTable) (seats : LineSeats) → HasSameLines table new → KeepsSeats table seats
    → KeepsSeats new seats
KeepsSeats-same table new seats same is = record {
  found = λ vc line at. is.found vc line (sym (same vc) ∙ at);
  kept = λ line vc seating at. same vc ∙ is.kept line vc seating at;
  own = is.own;
}

-- A change of one seat.

has_line : (seat : Option Seating) (line found : ℕ) → option_map (λ seating. line) seat ≡ Some found
    → (seating : Seating) × (seat ≡ Some seating) × (found ≡ line)
has_line None line found at = cc
has_line (Some seating) line found at = (seating, refl, same_Some found line (sym at))

-- The seat of a connection with this seating, if there is one.
abbrev pub with_vc : Vc → Option Seating → Option (Vc × Seating)
with_vc vc None = None
with_vc vc (Some seating) = Some (vc, seating)

has_pair : (seat : Option Seating) (vc other : Vc) (seating : Seating)
    → with_vc vc seat ≡ Some (other, seating) → (seat ≡ Some seating) × (other ≡ vc)
has_pair None vc other seating at = cc
has_pair (Some given) vc other seating at =
    let same = same_Some (vc, given) (other, seating) at in
    (ap (λ (entry : Vc × Seating). Some entry.1) same, sym (ap (λ (entry : Vc × Seating). entry.0) same))

module _ (table new_table : ConnectionTable) (seats : LineSeats) (is : KeepsSeats table seats) (vc : Vc) (line : ℕ)
    (within : line < length seats)
    (others : (other : Vc) → other ≢ vc → line_of new_table other ≡ line_of table other)
    (before : (other : Vc) (seating : Seating) → slice_get seats line ≡ Some (Some (other, seating)) → other ≡ vc)
    (was : (old : ℕ) → line_of table vc ≡ Some old → old ≡ line)
    (seat : Option Seating) (here : line_of new_table vc ≡ option_map (λ seating. line) seat)
    (own : (seating : Seating) → seat ≡ Some seating → seating.line ≡ line) where
  abbrev New : LineSeats
  New = set seats line (with_vc vc seat)

  at-line : slice_get New line ≡ Some (with_vc vc seat)
  at-line = slice_get-set_same seats line (with_vc vc seat) within

  at-other : (other : ℕ) → other ≢ line → slice_get New other ≡ slice_get seats other
  at-other other away = slice_get-set_other seats line other (with_vc vc seat) away

  at-seat : (seating : Seating) → seat ≡ Some seating → slice_get New line ≡ Some (Some (vc, seating))
  at-seat seating e = at-line ∙ ap (λ (s : Option Seating). Some (with_vc vc s)) e

  -- The seat of another connection is still there.
  stays : (other : Vc) → other ≢ vc → (old : ℕ) (seating : Seating) → slice_get seats old ≡ Some (Some (other, seating))
      → slice_get New old ≡ Some (Some (other, seating))
  stays other away old seating at =
      at-other old (λ e. away (before other seating (subst (λ n. slice_get seats n ≡ Some (Some (other, seating))) e at))) ∙ at

  -- What a seat of the new list is.
  given-at : (place : ℕ) → place ≡ line → (other : Vc) (seating : Seating) → slice_get New place ≡ Some (Some (other, seating))
      → (seat ≡ Some seating) × (other ≡ vc)
  given-at place e other seating at =
      let there : Some (with_vc vc seat) ≡ Some (Some (other, seating)) =
      sym at-line ∙ subst (λ n. slice_get New n ≡ Some (Some (other, seating))) e at in
      has_pair seat vc other seating
      (same_Some (with_vc vc seat) (Some (other, seating)) there)

  pub KeepsSeats-changed : KeepsSeats new_table New
  KeepsSeats-changed = record {
    found = λ other place at. elim (vc_cases other vc) [
      | inl e ↦
          let at_vc : line_of new_table vc ≡ Some place = subst (λ v. line_of new_table v ≡ Some place) e at in
          let given = has_line seat line place (sym here ∙ at_vc) in
          let there : slice_get New place ≡ Some (Some (other, given.0)) =
          subst (λ v. slice_get New place ≡ Some (Some (v, given.0))) (sym e)
          (subst (λ n. slice_get New n ≡ Some (Some (vc, given.0))) (sym given.2) (at-seat given.0 given.1)) in
          record { seating = given.0; there = there }
      | inr away ↦
          let old = is.found other place (sym (others other away) ∙ at) in
          record { seating = old.seating; there = stays other away place old.seating old.there }
    ];
    kept = λ place other seating at. elim (cases_eq place line) [
      | inl e ↦
          let given = given-at place e other seating at in
          let found : line_of new_table vc ≡ Some line =
          here ∙ ap (option_map (λ seating. line)) given.0 in
          subst (λ v. line_of new_table v ≡ Some place) (sym given.1) (found ∙ ap (λ (n : ℕ). Some n) (sym e))
      | inr away ↦
          let old = is.kept place other seating (sym (at-other place away) ∙ at) in
          let apart : other ≢ vc = λ e. away (was place (subst (λ v. line_of table v ≡ Some place) e old)) in
          others other apart ∙ old
    ];
    own = λ place other seating at. elim (cases_eq place line) [
      | inl e ↦ own seating (given-at place e other seating at).0 ∙ sym e
      | inr away ↦ is.own place other seating (sym (at-other place away) ∙ at)
    ];
  }

  pub ChangesAt-changed : ChangesAt (seated seats) (seated New) vc seat
  ChangesAt-changed =
      let changed = KeepsSeats-changed in
      let now : (s : Option Seating) → seat ≡ s → seating_in (seated New) vc ≡ s = elim [
        | None ↦ λ e. seating-none new_table New changed vc (here ∙ ap (option_map (λ seating. line)) e)
        | Some seating ↦ λ e. seating-some new_table New changed line vc seating (at-seat seating e)
      ] in
      record {
        here = now seat refl;
        others = λ other away.
            let choice : (found : Option ℕ) → line_of table other ≡ found
            → seating_in (seated New) other ≡ seating_in (seated seats) other = elim [
              | None ↦ λ e. seating-none new_table New changed other (others other away ∙ e)
                  ∙ sym (seating-none table seats is other e)
              | Some place ↦ λ e.
                  let old = is.found other place e in
                  seating-some new_table New changed place other old.seating (stays other away place old.seating old.there)
                  ∙ sym (seating-some table seats is place other old.seating old.there)
            ] in
            choice (line_of table other) refl;
      }

-- Names of programs.

pub any_found : (program : Id) (seats : LineSeats) → list_any (names_program program) seats ≡ true
    → (line : ℕ) × (vc : Vc) × (seating : Seating) × (slice_get seats line ≡ Some (Some (vc, seating)))
    × (is_same_id seating.program program ≡ true)
any_found program [] e = cc
any_found program (None ∷ later) e =
    let rest = any_found program later (grind (arith, e)) in
    (suc rest.0, rest.1, rest.2, rest.3, rest.4)
any_found program (Some seat ∷ later) e =
    let choice : (b : Bool) → is_same_id seat.1.program program ≡ b
    → (line : ℕ) × (vc : Vc) × (seating : Seating)
    × (slice_get (Some seat ∷ later) line ≡ Some (Some (vc, seating))) × (is_same_id seating.program program ≡ true) = elim [
      | true ↦ λ names. (0, seat.0, seat.1, refl, names)
      | false ↦ λ fails.
          let rest = any_found program later (grind (arith, e, fails)) in
          (suc rest.0, rest.1, rest.2, rest.3, rest.4)
    ] in
    choice (is_same_id seat.1.program program) refl

pub any_passes : (program : Id) (seats : LineSeats) (line : ℕ) (vc : Vc) (seating : Seating)
    → slice_get seats line ≡ Some (Some (vc, seating)) → is_same_id seating.program program ≡ true
    → list_any (names_program program) seats ≡ true
any_passes program [] line vc seating at names = cc
any_passes program (None ∷ later) zero vc seating at names = cc
any_passes program (None ∷ later) (suc line) vc seating at names =
    let rest = any_passes program later line vc seating at names in
    grind (arith, rest)
any_passes program (Some seat ∷ later) zero vc seating at names =
    let same : seat ≡ (vc, seating) = cc in
    let here : names_program program (Some seat) ≡ true =
    ap (λ (s : Vc × Seating). is_same_id s.1.program program) same ∙ names in
    grind (arith, here)
any_passes program (Some seat ∷ later) (suc line) vc seating at names =
    let rest = any_passes program later line vc seating at names in
    grind (arith, rest)

-- What changes by a call.

module _ (table new_table : ConnectionTable) (seats : LineSeats) (is : KeepsSeats table seats) (vc : Vc) where
  -- A connection without a seating gets one.
  module _ (seating : Seating) (absent : seating_in (seated seats) vc ≡ None) (within : seating.line < length seats)
      (free : (other : Vc) (another : Seating) → seating_in (seated seats) other ≡ Some another → another.line ≢ seating.line)
      (moves : MovesTo table vc (Some seating.line) new_table) where
    none-there : (other : Vc) (another : Seating) → slice_get seats seating.line ≡ Some (Some (other, another)) → other ≡ vc
    none-there other another at = absurd (free other another (seating-some table seats is seating.line other another at)
        (is.own seating.line other another at))

    no-line : (old : ℕ) → line_of table vc ≡ Some old → old ≡ seating.line
    no-line old at =
        let seat = is.found vc old at in
        absurd (let no : None ≡ Some seat.seating = sym absent ∙ seating-some table seats is old vc seat.seating seat.there in cc)

    own-line : (given : Seating) → Some seating ≡ Some given → given.line ≡ seating.line
    own-line given e = ap (λ (s : Seating). s.line) (sym (same_Some seating given e))

    pub KeepsSeats-put : KeepsSeats new_table (set seats seating.line (Some (vc, seating)))
    KeepsSeats-put = KeepsSeats-changed table new_table seats is vc seating.line within moves.others none-there no-line
        (Some seating) moves.here own-line

    pub ChangesAt-put : ChangesAt (seated seats) (seated (set seats seating.line (Some (vc, seating)))) vc (Some seating)
    ChangesAt-put = ChangesAt-changed table new_table seats is vc seating.line within moves.others none-there no-line
        (Some seating) moves.here own-line

  -- The seating of a connection changes, or is gone.
  module _ (seating : Seating) (present : seating_in (seated seats) vc ≡ Some seating)
      (others : (other : Vc) → other ≢ vc → line_of new_table other ≡ line_of table other)
      (seat : Option Seating) (here : line_of new_table vc ≡ option_map (λ given. seating.line) seat)
      (own : (given : Seating) → seat ≡ Some given → given.line ≡ seating.line) where
    seat-there : (line_of table vc ≡ Some seating.line) × (slice_get seats seating.line ≡ Some (Some (vc, seating)))
    seat-there = line-seated table seats is vc seating present

    pub seat_within : seating.line < length seats
    seat_within = slice_get_within seats seating.line (Some (vc, seating)) seat-there.1

    alone-there : (other : Vc) (another : Seating) → slice_get seats seating.line ≡ Some (Some (other, another)) → other ≡ vc
    alone-there other another at =
        let same : Some (vc, seating) ≡ Some (other, another) =
        same_Some (Some (vc, seating)) (Some (other, another)) (sym seat-there.1 ∙ at) in
        sym (ap (λ (entry : Vc × Seating). entry.0) (same_Some (vc, seating) (other, another) same))

    its-line : (old : ℕ) → line_of table vc ≡ Some old → old ≡ seating.line
    its-line old at = same_Some old seating.line (sym at ∙ seat-there.0)

    pub KeepsSeats-replaced : KeepsSeats new_table (set seats seating.line (with_vc vc seat))
    KeepsSeats-replaced = KeepsSeats-changed table new_table seats is vc seating.line seat_within others alone-there its-line
        seat here own

    pub ChangesAt-replaced : ChangesAt (seated seats)
        (seated (set seats seating.line (with_vc vc seat))) vc seat
    ChangesAt-replaced = ChangesAt-changed table new_table seats is vc seating.line seat_within others alone-there its-line
        seat here own
