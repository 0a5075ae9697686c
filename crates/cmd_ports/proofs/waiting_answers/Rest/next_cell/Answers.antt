-- The other cells of the port are left.
use Rattle.std.proofs.Common.{◌≡◌, ◌<◌, List, arith, length, map, Some, ap, refl, sym, ◌∙◌}
use Rattle.std.proofs.lemmas.Bool.Decides.{nat_tests}
use Rattle.std.proofs.lemmas.Option.{slice_get_read}
use Rattle.std.specs.Prelude.{slice_get}
use Rattle.cmd_ports.specs.declared.answered.AnsweredCell.{AnsweredCell}
use Rattle.cmd_ports.specs.inner.InOrder.{Unprinted}
use Rattle.cmd_ports.proofs.RestLemmas.{cell-taken}
use Rattle.cmd_ports.proofs.waiting_answers.Rest.next_cell.Goals as goal

pub returns-in-Some-clause-rest : goal.returns-in-Some-clause-rest
returns-in-Some-clause-rest c =
    let items = c.args.self.now.cells.items in
    let cells = c.deref.result.now in
    let test = c.in_ok-own.ensures.lookup.0 in
    let within : c.args.number < length cells = grind (arith, nat_tests, test) in
    let there : slice_get items c.args.number ≡ Some c.in_ok-own.field-0.now =
    ap (λ xs. slice_get xs c.args.number) (sym c.deref.ensures.value)
    ∙ slice_get_read cells (length cells) c.args.number c.in_ok-own.field-0.now refl within c.in_ok-own.ensures.lookup.1 in
    let D : List (List AnsweredCell) → Unprinted =
    λ cells. record { cells = cells; texts = map (λ text. text.items) c.args.self.now.texts.now; lengths = c.args.self.now.lengths.now } in
    ap D (cell-taken (λ own. own.now) items c.args.number c.in_ok-own.field-0.now c.in-Some.later c.in-Some.first.now there c.in-Some.ensures)
