use Rattle.std.proofs.Common.{◌≡◌, Some, None, refl, ap, sym, subst, ◌∙◌, arith}
use Rattle.line_record.specs.Seatings.{seating_in}
use Rattle.line_record.specs.Directory.{DirectoryView, seating_at, Sits}
use Rattle.line_record.specs.inner.HeldLines.{KnowsLines}
use Rattle.line_record.specs.inner.ProgramUses.{CountsUses}
use Rattle.line_record.specs.inner.DirectoryFields.{directory_of}
use Rattle.line_record.proofs.HeldLemmas.{KnowsLines-take}
use Rattle.line_record.proofs.UsesLemmas.{CountsUses-take, CountsUses-held}
use Rattle.line_record.proofs.directory.Directory.take.Goals as goal

pub returns-in_err-seating-clause-before : goal.returns-in_err-seating-clause-before
returns-in_err-seating-clause-before c =
    c.from_residual.ensures ∙ c.in_err-seating.ensures.before
    ∙ ap (λ (view : DirectoryView). seating_at view c.args.vc) c.self.view_is

pub returns-in_err-seating-clause-gone : goal.returns-in_err-seating-clause-gone
returns-in_err-seating-clause-gone c =
    let l = c.self.inside in
    let changes = c.remove.ensures.changes in
    let after : DirectoryView = directory_of c.remove.new.self.seatings l.lines l.used in
    subst (λ (view : DirectoryView). Sits view c.args.vc None after) c.self.view_is
    (record { here = changes.here; others = changes.others; same_lines = refl })

pub free-requires : goal.free-requires
free-requires c =
    let l = c.self.inside in
    let there : seating_in l.seats.seatings c.args.vc ≡ Some c.in_ok-seating.seating =
    sym c.in_ok-seating.ensures.before in
    let within = c.self.invariant.lines.kept.within c.args.vc c.in_ok-seating.seating there in
    omega (arith, within, c.self.invariant.lines.sized)

pub remove-requires-2 : goal.remove-requires-2
remove-requires-2 c =
    let l = c.self.inside in
    let old : DirectoryView = directory_of l.seats.seatings l.lines l.used in
    let seating = c.in_ok-seating.seating in
    let there : seating_in l.seats.seatings c.args.vc ≡ Some seating =
    sym c.in_ok-seating.ensures.before in
    CountsUses-held old l.uses c.self.invariant.uses c.args.vc seating there

pub invariant_of-self-2 : goal.invariant_of-self-2
invariant_of-self-2 c =
    let l = c.self.inside in
    let old : DirectoryView = directory_of l.seats.seatings l.lines l.used in
    let seating = c.in_ok-seating.seating in
    let there : seating_in l.seats.seatings c.args.vc ≡ Some seating =
    sym c.in_ok-seating.ensures.before in
    let changes = c.remove.ensures.changes in
    let new = c.remove.new.self.seatings in
    let after : DirectoryView = directory_of new l.lines l.used in
    record {
      sized = c.remove.ensures.lines ∙ c.self.invariant.sized;
      lines = subst (KnowsLines after) (sym c.free.ensures)
          (KnowsLines-take old l.held c.self.invariant.lines new c.args.vc l.used seating there changes refl);
      uses = subst (CountsUses after) (sym c.remove-2.ensures)
          (CountsUses-take old l.uses c.self.invariant.uses c.self.invariant.lines.kept new c.args.vc l.used seating there changes);
    }

pub returns-clause-before : goal.returns-clause-before
returns-clause-before c =
    c.in_ok-seating.ensures.before
    ∙ ap (λ (view : DirectoryView). seating_at view c.args.vc) c.self.view_is

pub returns-clause-gone : goal.returns-clause-gone
returns-clause-gone c =
    let l = c.self.inside in
    let changes = c.remove.ensures.changes in
    let after : DirectoryView = directory_of c.remove.new.self.seatings l.lines l.used in
    subst (λ (view : DirectoryView). Sits view c.args.vc None after) c.self.view_is
    (record { here = changes.here; others = changes.others; same_lines = refl })
