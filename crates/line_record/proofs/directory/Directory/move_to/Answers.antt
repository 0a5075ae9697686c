use Rattle.std.proofs.Common.{◌≡◌, ℕ, ◌+◌, ◌-◌, ◌<◌, Option, Some, List, ap, sym, subst, ◌∙◌}
use Rattle.std.specs.Prelude.{IfSome}
use Rattle.gen_arena.specs.declared.id.Id.{Id}
use Rattle.line_record.specs.declared.directory.Seating.{Seating}
use Rattle.line_record.specs.Seatings.{seating_in}
use Rattle.line_record.specs.Directory.{DirectoryView}
use Rattle.line_record.specs.inner.SeatingChanges.{ChangesAt}
use Rattle.line_record.specs.inner.ProgramUses.{CountsUses, uses_of, with_uses}
use Rattle.line_record.specs.inner.DirectoryFields.{directory_of}
use Rattle.line_record.proofs.SeatingLemmas.{program_found}
use Rattle.line_record.proofs.HeldLemmas.{KnowsLines-moved}
use Rattle.line_record.proofs.UsesLemmas.{CountsUses-held, CountsUses-moving, CountsUses-moved, between}
use Rattle.line_record.proofs.directory.Directory.move_to.Goals as goal

pub remove-requires : goal.remove-requires
remove-requires c =
    let l = c.self.inside in
    let vc = c.args.vc in
    let old : DirectoryView = directory_of l.seats.seatings l.lines l.used in
    let found = program_found (seating_in l.seats.seatings vc) c.in-Some.named c.in-Some.ensures.before in
    subst (λ (id : Id). 0 < uses_of l.uses id) found.2 (CountsUses-held old l.uses c.self.invariant.uses vc found.0 found.1)

pub add-requires : goal.add-requires
add-requires c =
    let l = c.self.inside in
    let vc = c.args.vc in
    let program = c.args.program in
    let sound = c.self.invariant.uses in
    let old : DirectoryView = directory_of l.seats.seatings l.lines l.used in
    let found = program_found (seating_in l.seats.seatings vc) c.in-Some.named c.in-Some.ensures.before in
    let fewer : Id → List ℕ = λ (id : Id). with_uses l.uses id (uses_of l.uses id - 1) in
    let after : between old l.uses sound vc found.0 found.1 program ≡ c.remove.new.self =
    ap fewer found.2 ∙ sym c.remove.ensures in
    subst (λ (counts : List ℕ). uses_of counts program < 65535) after
    (CountsUses-moving old l.uses sound vc found.0 found.1 program)

pub invariant_of-self : goal.invariant_of-self
invariant_of-self c =
    let l = c.self.inside in
    let vc = c.args.vc in
    let program = c.args.program in
    let sound = c.self.invariant in
    let old : DirectoryView = directory_of l.seats.seatings l.lines l.used in
    let found = program_found (seating_in l.seats.seatings vc) c.in-Some.named c.in-Some.ensures.before in
    let new = c.reprogram-before.new.self.seatings in
    let Moved : Option Seating → Type 0 = λ was.
    IfSome was (λ seating. ChangesAt l.seats.seatings new vc (Some (record seating { program = program }))) in
    let changes : ChangesAt l.seats.seatings new vc (Some (record found.0 { program = program })) =
    subst Moved found.1 c.reprogram-before.ensures.moved in
    let fewer : Id → List ℕ = λ (id : Id). with_uses l.uses id (uses_of l.uses id - 1) in
    let more : List ℕ → List ℕ = λ (counts : List ℕ). with_uses counts program (uses_of counts program + 1) in
    let after : more (between old l.uses sound.uses vc found.0 found.1 program) ≡ c.add.new.self =
    ap more (ap fewer found.2 ∙ sym c.remove.ensures) ∙ sym c.add.ensures in
    record {
      sized = c.reprogram-before.ensures.lines ∙ sound.sized;
      lines = KnowsLines-moved old l.held sound.lines new vc found.0 found.1 program changes;
      uses = subst (CountsUses (directory_of new l.lines l.used)) after
          (CountsUses-moved old l.uses sound.uses vc found.0 found.1 program sound.lines.kept new changes);
    }
