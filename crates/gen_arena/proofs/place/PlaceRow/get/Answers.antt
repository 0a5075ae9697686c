use Rattle.std.proofs.Common.{◌<◌, Some, ap, ◌∙◌, arith, length}
use Rattle.gen_arena.proofs.PlaceLemmas.{none_above, held_at, row_length, slice_get-place}
use Rattle.gen_arena.proofs.place.PlaceRow.get.Goals as goal

pub returns-then-slot-self-clause-none : goal.returns-then-slot-self-clause-none
returns-then-slot-self-clause-none g c =
    let row = c.self.inside in
    none_above row.used row.fresh row.boxes.held c.args.self.now c.args.slot c.self.view_is c.self.invariant.4.filled (omega (arith, c.if-slot-self.true))

pub returns-clause-found : goal.returns-clause-found
returns-clause-found g c =
    let row = c.self.inside in
    let boxes = row.boxes.held in
    let at = held_at row.used row.fresh boxes c.args.self.now c.from.result c.args.slot c.lend.result.now c.self.view_is c.from.ensures c.lend.ensures in
    let long = row_length row.used row.fresh boxes c.args.self.now c.self.view_is in
    let within = c.self.invariant.4.filled.within in
    let there : c.args.slot < length c.args.self.now.places = omega (arith, c.if-slot-self.false, within, long) in
    slice_get-place c.args.self.now.places c.args.slot there ∙ ap Some at
