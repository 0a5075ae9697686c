-- The number of connections that name a program, after each change of a directory.
use Rattle.std.proofs.Common.{◌≡◌, ◌≢◌, ℕ, ◌+◌, ◌-◌, ◌^◌, ◌<◌, ◌≤◌, Bool, false, cond, Option, Some, None, List, [], length, replicate, set, refl, sym, ap, subst, ◌∙◌, inl, inr, arith, eq-eqb}
use Rattle.std.specs.Prelude.{slice_get, slice_index, option_map}
use Rattle.std.specs.List.{count_by}
use Rattle.std.proofs.lemmas.Bool.{cases_eq, ne_eqb}
use Rattle.std.proofs.lemmas.Nat.{mod_below}
use Rattle.std.proofs.lemmas.List.{length-set, length-replicate, get_or-replicate, get_or-set_same, get_or-set_other}
use Rattle.std.proofs.lemmas.List.Sums.{sum_by-set, count_by-le-length}
use Rattle.std.proofs.lemmas.List.Folds.{sum_by-replicate}
use Rattle.std.proofs.lemmas.Option.{same_Some, slice_get-get_or, slice_get_within, get_or_from_slice_get}
use Rattle.gen_arena.specs.declared.id.Id.{Id}
use Rattle.upc_cell.specs.declared.vc.Vc.{Vc}
use Rattle.upc_cell.proofs.Public.{vc_cases}
use Rattle.line_record.specs.declared.directory.Seating.{Seating}
use Rattle.line_record.specs.Seatings.{seating_in}
use Rattle.line_record.specs.inner.SeatingChanges.{ChangesAt}
use Rattle.line_record.specs.Directory.{DirectoryView, seating_at, IsOpenLine, IsTakenLine, IsNamed, IsDirectory}
use Rattle.line_record.specs.inner.SeatsView.{SeatsView}
use Rattle.line_record.specs.inner.DirectoryFields.{directory_of, KeepsDirectory}
use Rattle.line_record.specs.inner.ProgramUses.{use_place, uses_of, with_uses, is_counted_at, CountsPrograms, CountsUses}
use Rattle.gen_arena.proofs.Public.{slice_get-set_same, slice_get-set_other}
use Rattle.line_record.proofs.NumberLemmas.{slice_get-replicate}
use Rattle.line_record.proofs.HeldLemmas.{stays_taken, KnowsLines-new}

-- The count of a list, after one element is replaced.
count_by-replaced : {X : Type 0} (test : X → Bool) (xs : List X) (k : ℕ) (old new : X) → slice_get xs k ≡ Some old
    → count_by test (set xs k new) + cond (test old) 1 0 ≡ count_by test xs + cond (test new) 1 0
count_by-replaced test xs k old new at =
    let replaced = sum_by-set (λ x. cond (test x) 1 0) xs k new old (slice_get_within xs k old at) in
    subst (λ x. count_by test (set xs k new) + cond (test x) 1 0 ≡ count_by test xs + cond (test new) 1 0)
    (get_or_from_slice_get xs k old old at) replaced

-- The table for a list of programs.

abbrev zeros : ℕ → List ℕ
zeros places = replicate places 0

long : (places : ℕ) → length (zeros places) ≡ places
long places = length-replicate {A = ℕ} places 0

abbrev nothing : ℕ → List (Option Id)
nothing lines = replicate lines None

many : (lines : ℕ) → length (nothing lines) ≡ lines
many lines = length-replicate {A = Option Id} lines None

pub CountsPrograms-new : (places lines : ℕ) → 0 < places → CountsPrograms (zeros places) (nothing lines)
CountsPrograms-new places lines some = record {
  some = rw (long places) some;
  each = λ place within.
      let all = length (zeros places) in
      let below : place < places = rw (← long places) within in
      get_or-replicate places place 0 0 below
      ∙ sym (sum_by-replicate (λ x. cond (is_counted_at all place x) 1 0) lines None ∙ omega arith);
}

module _ (counts : List ℕ) (named : List (Option Id)) (counted : CountsPrograms counts named) where
  pub place_within : (program : Id) → use_place counts program < length counts
  place_within program = mod_below program.slot (length counts) counted.some

  weight : ℕ → Option Id → ℕ
  weight place program = cond (is_counted_at (length counts) place program) 1 0

  weight-none : (place : ℕ) → weight place None ≡ 0
  unfolding weight
  weight-none place = refl

  weight-here : (program : Id) → weight (use_place counts program) (Some program) ≡ 1
  unfolding weight
  weight-here program =
      let place = use_place counts program in
      ap (λ b. cond b 1 0) (eq-eqb place place refl)

  weight-elsewhere : (program : Id) (place : ℕ) → place ≢ use_place counts program → weight place (Some program) ≡ 0
  unfolding weight
  weight-elsewhere program place apart =
      ap (λ b. cond b 1 0) (ne_eqb (use_place counts program) place (λ e. apart (sym e)))

  weight-replaced : (place line : ℕ) (old new : Option Id) → slice_get named line ≡ Some old
      → count_by (is_counted_at (length counts) place) (set named line new) + weight place old
      ≡ count_by (is_counted_at (length counts) place) named + weight place new
  unfolding weight
  weight-replaced place line old new at = count_by-replaced (is_counted_at (length counts) place) named line old new at

  -- A change of one line's program changes the count at one place.
  CountsPrograms-changed : (line : ℕ) (old new : Option Id) (changed uses : ℕ) → slice_get named line ≡ Some old
      → changed < length counts
      → ((place : ℕ) → place ≢ changed → weight place old ≡ weight place new)
      → uses + weight changed old ≡ slice_index counts changed + weight changed new
      → CountsPrograms (set counts changed uses) (set named line new)
  CountsPrograms-changed line old new changed uses at within elsewhere here =
      let count : ℕ → List (Option Id) → ℕ = λ place. count_by (is_counted_at (length counts) place) in
      let At : ℕ → Type 0 = λ place. slice_index (set counts changed uses) place ≡ count place (set named line new) in
      let Each : ℕ → Type 0 = λ all. (place : ℕ) → place < all
      → slice_index (set counts changed uses) place ≡ count_by (is_counted_at all place) (set named line new) in
      let each : Each (length counts) = λ place below.
      elim (cases_eq place changed) [
        | inl e ↦
            let same : uses ≡ count changed (set named line new) =
            omega (arith, here, counted.each changed within, weight-replaced changed line old new at) in
            subst At (sym e) (get_or-set_same counts changed uses 0 within ∙ same)
        | inr apart ↦
            let same : count place named ≡ count place (set named line new) =
            omega (arith, elsewhere place apart, weight-replaced place line old new at) in
            get_or-set_other counts changed place uses 0 apart ∙ counted.each place below ∙ same
      ] in
      record {
        some = omega (arith, counted.some, length-set counts changed uses);
        each = subst Each (sym (length-set counts changed uses)) each;
      }

  -- A line's connection names a program from now on.
  pub CountsPrograms-added : (line : ℕ) (program : Id) → slice_get named line ≡ Some None
      → CountsPrograms (with_uses counts program (uses_of counts program + 1)) (set named line (Some program))
  CountsPrograms-added line program at =
      let place = use_place counts program in
      CountsPrograms-changed line None (Some program) place (uses_of counts program + 1) at (place_within program)
      (λ other apart. weight-none other ∙ sym (weight-elsewhere program other apart))
      (omega (arith, weight-none place, weight-here program))

  -- A program that a line's connection names has a count above 0.
  pub uses-some : (line : ℕ) (program : Id) → slice_get named line ≡ Some (Some program) → 0 < uses_of counts program
  uses-some line program at =
      let place = use_place counts program in
      omega (
        arith,
        counted.each place (place_within program),
        weight-replaced place line (Some program) None at,
        weight-none place,
        weight-here program,
      )

  -- A line's connection no longer names the program.
  pub CountsPrograms-removed : (line : ℕ) (program : Id) → slice_get named line ≡ Some (Some program)
      → CountsPrograms (with_uses counts program (uses_of counts program - 1)) (set named line None)
  CountsPrograms-removed line program at =
      let place = use_place counts program in
      CountsPrograms-changed line (Some program) None place (uses_of counts program - 1) at (place_within program)
      (λ other apart. weight-elsewhere program other apart ∙ sym (weight-none other))
      (omega (arith, weight-none place, weight-here program, uses-some line program at))

  -- If a line has no connection, the count is below the number of lines.
  pub uses-room : (line : ℕ) (program : Id) → slice_get named line ≡ Some None → uses_of counts program < length named
  uses-room line program at =
      let place = use_place counts program in
      let test = is_counted_at (length counts) place in
      omega (
        arith,
        counted.each place (place_within program),
        weight-replaced place line None (Some program) at,
        weight-none place,
        weight-here program,
        count_by-le-length test (set named line (Some program)),
        length-set named line (Some program),
      )

-- The table of a directory.

pub CountsUses-new : (lines used : ℕ) → 0 < lines → lines ≤ 65535
    → CountsUses (directory_of [] lines used) (zeros lines)
CountsUses-new lines used some few = record {
  named = nothing lines;
  sized = many lines;
  few = few;
  counted = CountsPrograms-new lines lines some;
  taken = λ line program at.
      let within : line < lines =
      omega (arith, slice_get_within (nothing lines) line (Some program) at, many lines) in
      let none : Some None ≡ Some (Some program) = sym (slice_get-replicate lines line None within) ∙ at in
      absurd (cc);
  names = λ vc seating sits. cc;
}

-- A directory without connections.
pub KeepsDirectory-new : (seats : SeatsView) (held : List Bool) (counts : List ℕ) (lines used : ℕ)
    → seats ≡ (record { seatings = []; lines = lines }) → held ≡ replicate lines false → counts ≡ replicate lines 0
    → 0 < lines → lines ≤ 65535 → used ≤ 2 ^ 62
    → KeepsDirectory (directory_of seats.seatings lines used) seats.lines held counts
KeepsDirectory-new seats held counts lines used empty free zero some few most = rw (empty, free, zero) (record {
  sized = refl;
  lines = KnowsLines-new lines used most;
  uses = CountsUses-new lines used some few;
})

-- A program that some connection names has a count above 0.
pub CountsUses-named : (directory : DirectoryView) (counts : List ℕ) → CountsUses directory counts
    → (program : Id) → IsNamed directory program → 0 < uses_of counts program
CountsUses-named directory counts sound program is =
    let there = sound.names is.vc is.seating is.sits in
    subst (λ (id : Id). 0 < uses_of counts id) is.names
    (uses-some counts sound.named sound.counted is.seating.line is.seating.program there)

-- A free line has no program.
pub CountsUses-free : (directory : DirectoryView) (counts : List ℕ) → (sound : CountsUses directory counts)
    → (line : ℕ) → line < directory.lines → IsOpenLine directory line → slice_get sound.named line ≡ Some None
CountsUses-free directory counts sound line within free =
    let choice : (found : Option (Option Id)) → slice_get sound.named line ≡ found → slice_get sound.named line ≡ Some None = elim [
      | None ↦ λ e.
          let there = slice_get-get_or sound.named line None (omega (arith, within, sound.sized)) in
          absurd (cc)
      | Some program ↦ elim program as (λ p. slice_get sound.named line ≡ Some p → slice_get sound.named line ≡ Some None) [
        | None ↦ λ e. e
        | Some id ↦ λ e.
            let taken = sound.taken line id e in
            absurd (free taken.vc taken.seating taken.sits taken.there)
      ]
    ] in
    choice (slice_get sound.named line) refl

-- The seating of one connection changes, and with it the program of one line.
module _ (old : DirectoryView) (before : List ℕ) (sound : CountsUses old before) (new : List (Vc × Seating)) (vc : Vc)
    (used : ℕ) (seating : Option Seating) (changes : ChangesAt old.seatings new vc seating) (line : ℕ) where
  CountsUses-changed : (after : List ℕ) (named : List (Option Id)) → CountsPrograms after named
      → length named ≡ length sound.named
      → ((other : ℕ) → other ≢ line → slice_get named other ≡ slice_get sound.named other)
      → slice_get named line ≡ Some (option_map (λ given. given.program) seating)
      → ((given : Seating) → seating ≡ Some given → given.line ≡ line)
      → ((given : Seating) → seating_at old vc ≡ Some given → given.line ≡ line)
      → ((other : Vc) (given : Seating) → other ≢ vc → seating_at old other ≡ Some given → given.line ≢ line)
      → CountsUses (directory_of new old.lines used) after
  CountsUses-changed after named counted long others here at was alone = record {
    named = named;
    sized = long ∙ sound.sized;
    few = sound.few;
    counted = counted;
    taken = λ other program named_there. elim (cases_eq other line) [
      | inl e ↦
          let program_is : Some (option_map (λ given. given.program) seating) ≡ Some (Some program) =
          sym here ∙ subst (λ k. slice_get named k ≡ Some (Some program)) e named_there in
          let choice : (given : Option Seating) → seating ≡ given → IsTakenLine (directory_of new old.lines used) other = elim [
            | None ↦ λ none.
                let nothing : Some None ≡ Some (Some program) =
                subst (λ g. Some (option_map (λ given. given.program) g) ≡ Some (Some program)) none program_is in
                absurd (cc)
            | Some given ↦ λ is. record {
              vc = vc;
              seating = given;
              sits = changes.here ∙ is;
              there = at given is ∙ sym e;
            }
          ] in
          choice seating refl
      | inr apart ↦ stays_taken old new vc used seating changes other
          (λ given there same. apart (sym same ∙ was given there))
          (sound.taken other program (sym (others other apart) ∙ named_there))
    ];
    names = λ other given sits. elim (vc_cases other vc) [
      | inl e ↦
          let is : seating ≡ Some given = sym changes.here ∙ subst (λ v. seating_in new v ≡ Some given) e sits in
          subst (λ k. slice_get named k ≡ Some (Some given.program)) (sym (at given is))
          (here ∙ ap (λ g. Some (option_map (λ s. s.program) g)) is)
      | inr apart ↦
          let there : seating_at old other ≡ Some given = sym (changes.others other apart) ∙ sits in
          others given.line (alone other given apart there) ∙ sound.names other given there
    ];
  }

-- A connection's program has a count above 0.
pub CountsUses-held : (directory : DirectoryView) (counts : List ℕ) → CountsUses directory counts
    → (vc : Vc) (seating : Seating) → seating_at directory vc ≡ Some seating → 0 < uses_of counts seating.program
CountsUses-held directory counts sound vc seating sits =
    uses-some counts sound.named sound.counted seating.line seating.program (sound.names vc seating sits)

-- If a line is free, a count plus one fits in 16 bits.
pub CountsUses-room : (directory : DirectoryView) (counts : List ℕ) → CountsUses directory counts
    → (line : ℕ) → line < directory.lines → IsOpenLine directory line → (program : Id) → uses_of counts program < 65535
CountsUses-room directory counts sound line within free program =
    let empty = CountsUses-free directory counts sound line within free in
    omega (arith, uses-room counts sound.named sound.counted line program empty, sound.sized, sound.few)

-- A connection gets a free line.
pub CountsUses-put : (old : DirectoryView) (counts : List ℕ) → CountsUses old counts
    → (new : List (Vc × Seating)) (vc : Vc) (used : ℕ) (seating : Seating) → seating_at old vc ≡ None
    → ChangesAt old.seatings new vc (Some seating) → seating.line < old.lines → IsOpenLine old seating.line
    → CountsUses (directory_of new old.lines used) (with_uses counts seating.program (uses_of counts seating.program + 1))
CountsUses-put old counts sound new vc used seating absent changes within free =
    let line = seating.line in
    let empty = CountsUses-free old counts sound line within free in
    let written : Option Id = Some seating.program in
    CountsUses-changed old counts sound new vc used (Some seating) changes line
    (with_uses counts seating.program (uses_of counts seating.program + 1)) (set sound.named line written)
    (CountsPrograms-added counts sound.named sound.counted line seating.program empty)
    (length-set sound.named line written)
    (λ other apart. slice_get-set_other sound.named line other written apart)
    (slice_get-set_same sound.named line written (slice_get_within sound.named line None empty))
    (λ given is. ap (λ (s : Seating). s.line) (sym (same_Some seating given is)))
    (λ given sits. let none : Some given ≡ None = sym sits ∙ absent in cc)
    (λ other given apart sits. free other given sits)

-- A connection is removed.
pub CountsUses-take : (old : DirectoryView) (counts : List ℕ) → CountsUses old counts → IsDirectory old
    → (new : List (Vc × Seating)) (vc : Vc) (used : ℕ) (seating : Seating) → seating_at old vc ≡ Some seating
    → ChangesAt old.seatings new vc None
    → CountsUses (directory_of new old.lines used) (with_uses counts seating.program (uses_of counts seating.program - 1))
CountsUses-take old counts sound is new vc used seating there changes =
    let line = seating.line in
    let named = sound.names vc seating there in
    let nothing_now : Option Id = None in
    CountsUses-changed old counts sound new vc used None changes line
    (with_uses counts seating.program (uses_of counts seating.program - 1)) (set sound.named line nothing_now)
    (CountsPrograms-removed counts sound.named sound.counted line seating.program named)
    (length-set sound.named line nothing_now)
    (λ other apart. slice_get-set_other sound.named line other nothing_now apart)
    (slice_get-set_same sound.named line nothing_now (slice_get_within sound.named line (Some seating.program) named))
    (λ given none. cc)
    (λ given sits. ap (λ (s : Seating). s.line) (same_Some given seating (sym sits ∙ there)))
    (λ other given apart sits same. apart (is.apart other vc given seating sits there same))

-- A connection gets another program: the count of the earlier one falls, and then that of the new one grows.
module _ (old : DirectoryView) (counts : List ℕ) (sound : CountsUses old counts) (vc : Vc) (seating : Seating)
    (there : seating_at old vc ≡ Some seating) (program : Id) where
  abbrev pub between : List ℕ
  between = with_uses counts seating.program (uses_of counts seating.program - 1)

  without : List (Option Id)
  without = set sound.named seating.line None

  within_named : seating.line < length sound.named
  within_named = slice_get_within sound.named seating.line (Some seating.program) (sound.names vc seating there)

  between-counted : CountsPrograms between without
  unfolding without
  between-counted = CountsPrograms-removed counts sound.named sound.counted seating.line seating.program (sound.names vc seating there)

  without-here : slice_get without seating.line ≡ Some None
  unfolding without
  without-here = slice_get-set_same sound.named seating.line None within_named

  without-long : length without ≡ length sound.named
  unfolding without
  without-long = length-set sound.named seating.line None

  pub CountsUses-moving : uses_of between program < 65535
  CountsUses-moving =
      omega (arith, uses-room between without between-counted seating.line program without-here, without-long, sound.sized, sound.few)

  pub CountsUses-moved : IsDirectory old → (new : List (Vc × Seating))
      → ChangesAt old.seatings new vc (Some (record seating { program = program }))
      → CountsUses (directory_of new old.lines old.used) (with_uses between program (uses_of between program + 1))
  unfolding without
  CountsUses-moved is new changes =
      let line = seating.line in
      let after : Seating = record seating { program = program } in
      let written : Option Id = Some program in
      CountsUses-changed old counts sound new vc old.used (Some after) changes line
      (with_uses between program (uses_of between program + 1)) (set without line written)
      (CountsPrograms-added between without between-counted line program without-here)
      (length-set without line written ∙ without-long)
      (λ other apart. slice_get-set_other without line other written apart
      ∙ slice_get-set_other sound.named line other None apart)
      (slice_get-set_same without line written (slice_get_within without line None without-here))
      (λ given same. ap (λ (s : Seating). s.line) (sym (same_Some after given same)))
      (λ given sits. ap (λ (s : Seating). s.line) (same_Some given seating (sym sits ∙ there)))
      (λ other given apart sits same. apart (is.apart other vc given seating sits there same))
