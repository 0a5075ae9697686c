-- Look-ups in a directory, before and after a change.
use Rattle.std.proofs.Common.{◌≡◌, ◌≢◌, ℕ, ◌+◌, ◌^◌, ◌<◌, ◌≤◌, Option, Some, None, List, refl, sym, subst, ◌∙◌, inl, inr, arith}
use Rattle.std.specs.Prelude.{option_map}
use Rattle.std.proofs.lemmas.Option.{same_Some}
use Rattle.gen_arena.specs.declared.id.Id.{Id}
use Rattle.upc_cell.specs.declared.vc.Vc.{Vc}
use Rattle.upc_cell.proofs.Public.{vc_cases}
use Rattle.line_record.specs.declared.directory.Seating.{Seating}
use Rattle.line_record.specs.Seatings.{seating_in}
use Rattle.line_record.specs.inner.SeatingChanges.{ChangesAt}
use Rattle.line_record.specs.Directory.{DirectoryView, seating_at, IsOpenLine, IsDirectory}

-- The connection may have this seating: its line and incarnation are in range, and no other connection has the line.
pub record Suits (old : DirectoryView) (vc : Vc) (seating : Seating) (used : ℕ) : Type 0 where
  pub within : seating.line < old.lines
  pub given : (1 ≤ seating.incarnation) × (seating.incarnation ≤ used)
  pub alone : (other : Vc) (another : Seating) → other ≢ vc → seating_at old other ≡ Some another → another.line ≢ seating.line

pub IsDirectory-changed : (old : DirectoryView) (new : List (Vc × Seating)) (vc : Vc) (seating : Option Seating) (used : ℕ)
    → IsDirectory old → ChangesAt old.seatings new vc seating
    → ((given : Seating) → seating ≡ Some given → Suits old vc given used)
    → old.used ≤ used → used ≤ 2 ^ 62
    → IsDirectory (record { seatings = new; lines = old.lines; used = used })
IsDirectory-changed old new vc seating used is changes suits grows most = record {
  apart = λ one other first second at1 at2 same.
      let same_one : Vc → Type 0 = λ v. seating_in new v ≡ Some first in
      let same_other : Vc → Type 0 = λ v. seating_in new v ≡ Some second in
      elim (vc_cases one vc) [
        | inl e ↦ elim (vc_cases other vc) [
          | inl f ↦ e ∙ sym f
          | inr g ↦
              let given : seating ≡ Some first = sym changes.here ∙ subst same_one e at1 in
              absurd ((suits first given).alone other second g (sym (changes.others other g) ∙ at2) (sym same))
        ]
        | inr g ↦ elim (vc_cases other vc) [
          | inl f ↦
              let given : seating ≡ Some second = sym changes.here ∙ subst same_other f at2 in
              absurd ((suits second given).alone one first g (sym (changes.others one g) ∙ at1) same)
          | inr h ↦ is.apart one other first second (sym (changes.others one g) ∙ at1) (sym (changes.others other h) ∙ at2) same
        ]
      ];
  within = λ one first at. elim (vc_cases one vc) [
    | inl e ↦ (suits first (sym changes.here ∙ subst (λ v. seating_in new v ≡ Some first) e at)).within
    | inr g ↦ is.within one first (sym (changes.others one g) ∙ at)
  ];
  given = λ one first at. elim (vc_cases one vc) [
    | inl e ↦ (suits first (sym changes.here ∙ subst (λ v. seating_in new v ≡ Some first) e at)).given
    | inr g ↦
        let old_given = is.given one first (sym (changes.others one g) ∙ at) in
        (old_given.0, omega arith)
  ];
  most = most;
}

pub Suits-new : (old : DirectoryView) (vc : Vc) (seating : Seating) → IsDirectory old
    → seating.line < old.lines → IsOpenLine old seating.line → seating.incarnation ≡ old.used + 1
    → Suits old vc seating (old.used + 1)
Suits-new old vc seating is within alone incarnation = record {
  within = within;
  given = (omega (arith, incarnation), omega (arith, incarnation));
  alone = λ other another apart at. alone other another at;
}

-- This still holds with another program.
pub Suits-moved : (old : DirectoryView) (vc : Vc) (before after : Seating) → IsDirectory old
    → seating_at old vc ≡ Some before → after.line ≡ before.line → after.incarnation ≡ before.incarnation
    → Suits old vc after old.used
Suits-moved old vc before after is at line incarnation =
    let given = is.given vc before at in
    let within = is.within vc before at in
    record {
      within = omega arith;
      given = (omega arith, omega arith);
      alone = λ other another apart there same. apart (is.apart other vc another before there at (same ∙ line));
    }

pub IsDirectory-moved : (old : DirectoryView) (new : List (Vc × Seating)) (vc : Vc) (program : Id)
    → IsDirectory old → (seating : Seating) → seating_at old vc ≡ Some seating
    → ChangesAt old.seatings new vc (Some (record seating { program = program }))
    → IsDirectory (record { seatings = new; lines = old.lines; used = old.used })
IsDirectory-moved old new vc program is seating there changes =
    let after : Seating = record seating { program = program } in
    IsDirectory-changed old new vc (Some after) old.used is changes
    (λ given same.
    subst (λ (s : Seating). Suits old vc s old.used) (same_Some after given same)
    (Suits-moved old vc seating after is there refl refl))
    (omega arith) is.most

-- If the connection has a program, it has a seating with that program.
pub program_found : (found : Option Seating) (program : Id) → Some program ≡ option_map (λ seating. seating.program) found
    → (seating : Seating) × (found ≡ Some seating) × (seating.program ≡ program)
program_found None program is = cc
program_found (Some seating) program is = (seating, refl, sym (same_Some program seating.program is))
