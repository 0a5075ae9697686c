use Rattle.std.proofs.Common.{◌≡◌, sym, subst, arith}
use Rattle.std.proofs.lemmas.Bool.{both_ways, not-true}
use Rattle.line_record.specs.Directory.{DirectoryView, IsNamed}
use Rattle.line_record.specs.inner.DirectoryFields.{directory_of}
use Rattle.line_record.specs.inner.ProgramUses.{uses_of}
use Rattle.line_record.proofs.UsesLemmas.{CountsUses-named}
use Rattle.line_record.proofs.directory.Directory.names.Goals as goal

pub returns-then-not-is_unused : goal.returns-then-not-is_unused
returns-then-not-is_unused c =
    let l = c.self.inside in
    let program = c.args.program in
    let directory : DirectoryView = directory_of l.seats.seatings l.lines l.used in (
      λ e.
          let found = c.names.ensures.0 e in
          let named : IsNamed directory program = record {
            vc = found.vc;
            seating = found.seating;
            sits = found.sits;
            names = found.names;
          } in
          subst (λ (view : DirectoryView). IsNamed view program) c.self.view_is named,
      λ named.
          let inner : IsNamed directory program =
          subst (λ (view : DirectoryView). IsNamed view program) (sym c.self.view_is) named in
          c.names.ensures.1 (record { vc = inner.vc; seating = inner.seating; sits = inner.sits; names = inner.names }),
    )

pub returns-else-not-is_unused : goal.returns-else-not-is_unused
returns-else-not-is_unused c =
    let l = c.self.inside in
    let program = c.args.program in
    let directory : DirectoryView = directory_of l.seats.seatings l.lines l.used in
    let unused = c.if-not-is_unused.false in
    let zero : uses_of l.uses program ≡ 0 = c.is_unused.ensures.0 unused in (
      λ e. absurd (both_ways c.is_unused.result (not-true c.is_unused.result e) unused),
      λ named.
          let inner : IsNamed directory program =
          subst (λ (view : DirectoryView). IsNamed view program) (sym c.self.view_is) named in
          absurd (omega (arith, CountsUses-named directory l.uses c.self.invariant.uses program inner, zero)),
    )
