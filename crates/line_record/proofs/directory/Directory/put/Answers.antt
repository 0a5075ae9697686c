use Rattle.std.proofs.Common.{◌≡◌, ◌+◌, ◌^◌, ◌<◌, None, Some, refl, sym, subst, ◌∙◌, arith}
use Rattle.line_record.specs.declared.directory.Seating.{Seating}
use Rattle.line_record.specs.Directory.{DirectoryView, IsOpenLine, Sits, seating_at}
use Rattle.line_record.specs.inner.HeldLines.{KnowsLines}
use Rattle.line_record.specs.inner.ProgramUses.{CountsUses}
use Rattle.line_record.specs.inner.DirectoryFields.{directory_of}
use Rattle.line_record.proofs.SeatingLemmas.{Suits-new}
use Rattle.line_record.proofs.HeldLemmas.{KnowsLines-put}
use Rattle.line_record.proofs.UsesLemmas.{CountsUses-put, CountsUses-room}
use Rattle.line_record.proofs.directory.Directory.put.Goals as goal

pub invariant_of-self : goal.invariant_of-self
invariant_of-self c =
    let l = c.self.inside in
    let vc = c.args.vc in
    let old : DirectoryView = directory_of l.seats.seatings l.lines l.used in
    let seating : Seating = record { line = c.args.line; incarnation = l.used + 1; program = c.args.program } in
    let changes = c.in-Ok.ensures.changes in
    let view_is = sym c.self.view_is in
    let absent = subst (λ (view : DirectoryView). seating_at view vc ≡ None) view_is c.requires.absent in
    let within = subst (λ (view : DirectoryView). c.args.line < view.lines) view_is c.requires.line in
    let free = subst (λ (view : DirectoryView). IsOpenLine view c.args.line) view_is c.requires.free in
    let unworn = subst (λ (view : DirectoryView). view.used < 2 ^ 62) view_is c.requires.unworn in
    let suits = Suits-new old vc seating c.self.invariant.lines.kept within free refl in
    let new = c.insert.new.self.seatings in
    let after : DirectoryView = directory_of new l.lines (l.used + 1) in
    record {
      sized = c.in-Ok.ensures.lines ∙ c.self.invariant.sized;
      lines = subst (KnowsLines after) (sym c.hold.ensures)
          (KnowsLines-put old l.held c.self.invariant.lines new vc (l.used + 1) seating absent changes suits
          (omega arith) (omega (arith, unworn)));
      uses = subst (CountsUses after) (sym c.add.ensures)
          (CountsUses-put old l.uses c.self.invariant.uses new vc (l.used + 1) seating absent changes within free);
    }

pub returns-in-Ok-clause-seating : goal.returns-in-Ok-clause-seating
returns-in-Ok-clause-seating c =
    let l = c.self.inside in
    let vc = c.args.vc in
    let seating : Seating = record { line = c.args.line; incarnation = l.used + 1; program = c.args.program } in
    let changes = c.in-Ok.ensures.changes in
    let after : DirectoryView = directory_of c.insert.new.self.seatings l.lines (l.used + 1) in
    subst (λ (view : DirectoryView). Sits view vc (Some seating) after) c.self.view_is
    (record { here = changes.here; others = changes.others; same_lines = refl })

pub add-requires : goal.add-requires
add-requires c =
    let l = c.self.inside in
    let old : DirectoryView = directory_of l.seats.seatings l.lines l.used in
    let view_is = sym c.self.view_is in
    let within = subst (λ (view : DirectoryView). c.args.line < view.lines) view_is c.requires.line in
    let free = subst (λ (view : DirectoryView). IsOpenLine view c.args.line) view_is c.requires.free in
    CountsUses-room old l.uses c.self.invariant.uses c.args.line within free c.args.program
