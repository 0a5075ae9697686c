-- The held lines of a directory, after each change.
use Rattle.std.proofs.Common.{◌≡◌, ◌≢◌, ℕ, ◌^◌, ◌<◌, ◌≤◌, Bool, true, false, Option, Some, None, List, [], length, replicate, set, sym, ap, subst, ◌∙◌, inl, inr, arith}
use Rattle.std.specs.Prelude.{slice_get}
use Rattle.std.proofs.lemmas.Bool.{cases_eq}
use Rattle.std.proofs.lemmas.List.{length-replicate, length-set}
use Rattle.std.proofs.lemmas.Option.{same_Some, slice_get_within}
use Rattle.gen_arena.specs.declared.id.Id.{Id}
use Rattle.upc_cell.specs.declared.vc.Vc.{Vc}
use Rattle.line_record.specs.declared.directory.Seating.{Seating}
use Rattle.line_record.specs.Seatings.{seating_in}
use Rattle.line_record.specs.inner.SeatingChanges.{ChangesAt}
use Rattle.line_record.specs.Directory.{DirectoryView, seating_at, IsOpenLine, IsTakenLine}
use Rattle.line_record.specs.inner.DirectoryFields.{directory_of}
use Rattle.line_record.specs.inner.HeldLines.{KnowsLines}
use Rattle.gen_arena.proofs.Public.{slice_get-set_same, slice_get-set_other}
use Rattle.line_record.proofs.NumberLemmas.{slice_get-replicate}
use Rattle.upc_cell.proofs.Public.{vc_cases}
use Rattle.line_record.proofs.SeatingLemmas.{Suits, IsDirectory-changed, IsDirectory-moved}

-- A directory without connections.
pub KnowsLines-new : (lines used : ℕ) → used ≤ 2 ^ 62
    → KnowsLines (directory_of [] lines used) (replicate lines false)
KnowsLines-new lines used most = record {
  kept = record {
    apart = λ one other seating another at1 at2 same. cc;
    within = λ vc seating at. cc;
    given = λ vc seating at. cc;
    most = most;
  };
  sized = length-replicate lines false;
  taken = λ line at.
      let within : line < lines = omega (arith, slice_get_within (replicate lines false) line true at, length-replicate lines false) in
      let free : Some false ≡ Some true = sym (slice_get-replicate lines line false within) ∙ at in
      absurd (cc);
  free = λ line at vc seating sits. cc;
}

-- A line that the change doesn't concern.
module _ (old : DirectoryView) (new : List (Vc × Seating)) (vc : Vc) (used : ℕ) (seating : Option Seating)
    (changes : ChangesAt old.seatings new vc seating) (line : ℕ) where
  pub stays_taken : ((before : Seating) → seating_at old vc ≡ Some before → before.line ≢ line)
      → IsTakenLine old line → IsTakenLine (directory_of new old.lines used) line
  stays_taken away taken = record {
    vc = taken.vc;
    seating = taken.seating;
    sits = changes.others taken.vc
        (λ e. away taken.seating (subst (λ v. seating_at old v ≡ Some taken.seating) e taken.sits) taken.there)
        ∙ taken.sits;
    there = taken.there;
  }

  stays_open : ((given : Seating) → seating ≡ Some given → given.line ≢ line)
      → IsOpenLine old line → IsOpenLine (directory_of new old.lines used) line
  stays_open away free other another at = elim (vc_cases other vc) [
    | inl e ↦ away another (sym changes.here ∙ subst (λ v. seating_in new v ≡ Some another) e at)
    | inr apart ↦ free other another (sym (changes.others other apart) ∙ at)
  ]

module _ (old : DirectoryView) (held : List Bool) (sound : KnowsLines old held)
    (new : List (Vc × Seating)) (vc : Vc) (used : ℕ) where
  abbrev After : DirectoryView
  After = directory_of new old.lines used

  pub KnowsLines-put : (seating : Seating) → seating_at old vc ≡ None → ChangesAt old.seatings new vc (Some seating)
      → Suits old vc seating used → old.used ≤ used → used ≤ 2 ^ 62
      → KnowsLines After (set held seating.line true)
  KnowsLines-put seating absent changes suits grows most =
      let within : seating.line < length held = omega (arith, sound.sized, suits.within) in
      record {
        kept = IsDirectory-changed old new vc (Some seating) used sound.kept changes
            (λ given same. subst (λ (s : Seating). Suits old vc s used) (same_Some seating given same) suits)
            grows most;
        sized = length-set held seating.line true ∙ sound.sized;
        taken = λ line at. elim (cases_eq line seating.line) [
          | inl e ↦ record { vc = vc; seating = seating; sits = changes.here; there = sym e }
          | inr apart ↦ stays_taken old new vc used (Some seating) changes line
              (λ before there. let none : Some before ≡ None = sym there ∙ absent in cc)
              (sound.taken line (sym (slice_get-set_other held seating.line line true apart) ∙ at))
        ];
        free = λ line at. elim (cases_eq line seating.line) [
          | inl e ↦
              let is : Some true ≡ Some false =
              sym (slice_get-set_same held seating.line true within)
              ∙ subst (λ k. slice_get (set held seating.line true) k ≡ Some false) e at in
              absurd (cc)
          | inr apart ↦ stays_open old new vc used (Some seating) changes line
              (λ given same there. apart (sym there ∙ ap (λ (s : Seating). s.line) (sym (same_Some seating given same))))
              (sound.free line (sym (slice_get-set_other held seating.line line true apart) ∙ at))
        ];
      }

  pub KnowsLines-take : (seating : Seating) → seating_at old vc ≡ Some seating → ChangesAt old.seatings new vc None
      → old.used ≡ used → KnowsLines After (set held seating.line false)
  KnowsLines-take seating there changes same_used =
      let within : seating.line < length held = omega (arith, sound.sized, sound.kept.within vc seating there) in
      record {
        kept = IsDirectory-changed old new vc None used sound.kept changes (λ given same. cc)
            (omega (arith, same_used)) (omega (arith, same_used, sound.kept.most));
        sized = length-set held seating.line false ∙ sound.sized;
        taken = λ line at. elim (cases_eq line seating.line) [
          | inl e ↦
              let is : Some false ≡ Some true =
              sym (slice_get-set_same held seating.line false within)
              ∙ subst (λ k. slice_get (set held seating.line false) k ≡ Some true) e at in
              absurd (cc)
          | inr apart ↦ stays_taken old new vc used None changes line
              (λ before was same. apart (sym same ∙ ap (λ (s : Seating). s.line) (same_Some before seating (sym was ∙ there))))
              (sound.taken line (sym (slice_get-set_other held seating.line line false apart) ∙ at))
        ];
        free = λ line at. elim (cases_eq line seating.line) [
          | inl e ↦ λ other another sits same. elim (vc_cases other vc) [
            | inl f ↦
                let gone : None ≡ Some another = sym changes.here ∙ subst (λ v. seating_in new v ≡ Some another) f sits in
                cc
            | inr apart ↦
                let was : seating_at old other ≡ Some another = sym (changes.others other apart) ∙ sits in
                apart (sound.kept.apart other vc another seating was there (same ∙ e))
          ]
          | inr apart ↦ stays_open old new vc used None changes line (λ given none there. cc)
              (sound.free line (sym (slice_get-set_other held seating.line line false apart) ∙ at))
        ];
      }

-- A change of a connection's program changes no line.
pub KnowsLines-moved : (old : DirectoryView) (held : List Bool) → KnowsLines old held
    → (new : List (Vc × Seating)) (vc : Vc) (seating : Seating) → seating_at old vc ≡ Some seating
    → (program : Id) → ChangesAt old.seatings new vc (Some (record seating { program = program }))
    → KnowsLines (directory_of new old.lines old.used) held
KnowsLines-moved old held sound new vc seating there program changes =
    let after : Seating = record seating { program = program } in
    record {
      kept = IsDirectory-moved old new vc program sound.kept seating there changes;
      sized = sound.sized;
      taken = λ line at.
          let taken = sound.taken line at in
          elim (vc_cases taken.vc vc) [
            | inl f ↦
                let was : seating_at old vc ≡ Some taken.seating = subst (λ v. seating_at old v ≡ Some taken.seating) f taken.sits in
                let same = same_Some seating taken.seating (sym there ∙ was) in
                record {
                  vc = vc;
                  seating = after;
                  sits = changes.here;
                  there = ap (λ (s : Seating). s.line) same ∙ taken.there;
                }
            | inr apart ↦ record {
              vc = taken.vc;
              seating = taken.seating;
              sits = changes.others taken.vc apart ∙ taken.sits;
              there = taken.there;
            }
          ];
      free = λ line at other another sits on_line. elim (vc_cases other vc) [
        | inl f ↦
            let is : after ≡ another = same_Some after another
            (sym changes.here ∙ subst (λ v. seating_in new v ≡ Some another) f sits) in
            sound.free line at vc seating there (ap (λ (s : Seating). s.line) is ∙ on_line)
        | inr apart ↦ sound.free line at other another (sym (changes.others other apart) ∙ sits) on_line
      ];
    }
