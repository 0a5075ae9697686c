use Rattle.std.proofs.Common.{◌≡◌, ◌<◌, ◌≤◌, sym, ap, ◌∙◌, Some, set, length-set, arith}
use Rattle.gen_arena.proofs.PlaceLemmas.{IsRow-set, written, held_at, length-places_in}
use Rattle.gen_arena.proofs.place.PlaceRow.fill.Goals as goal

pub fill-requires-clause-empty : goal.fill-requires-clause-empty
fill-requires-clause-empty g c =
    let row = c.self.inside in
    let at = held_at row.used row.fresh row.boxes.held c.args.self.now c.from.result c.args.slot c.lend_mut-place.result.now c.self.view_is c.from.ensures c.lend_mut-place.ensures.value in
    ap (λ place. place.value) (sym at) ∙ c.requires.empty

pub fill-requires-clause-unworn : goal.fill-requires-clause-unworn
fill-requires-clause-unworn g c =
    let row = c.self.inside in
    let at = held_at row.used row.fresh row.boxes.held c.args.self.now c.from.result c.args.slot c.lend_mut-place.result.now c.self.view_is c.from.ensures c.lend_mut-place.ensures.value in
    let same = ap (λ place. place.generation) at in
    omega (arith, same, c.requires.unworn)

pub invariant_of-self : goal.invariant_of-self
invariant_of-self g c =
    let is = c.self.invariant in
    let row = c.self.inside in
    let first : row.fresh ≡ c.args.self.now.fresh = ap (λ r. r.fresh) c.self.view_is in
    let most = c.requires.reached c.requires.there in
    let there : c.from.result < row.fresh = omega (arith, most, first, c.from.ensures, c.if-slot-self.false) in
    let next = ap (λ place. place.next) c.fill.ensures.after in
    let linked = is.4.linked c.from.result c.lend_mut-place.result.now c.lend_mut-place.ensures.value in
    let reached : c.fill.new.self.next < row.count → c.fill.new.self.next ≤ row.fresh = λ within.
    let below = linked (omega (arith, within, next)) in
    omega (arith, below, next) in
    (is.0, is.1, is.2, is.3, IsRow-set row.boxes.held row.count row.fresh c.from.result _ there reached is.4)

pub returns-clause-generation : goal.returns-clause-generation
returns-clause-generation g c =
    let row = c.self.inside in
    let at = held_at row.used row.fresh row.boxes.held c.args.self.now c.from.result c.args.slot c.lend_mut-place.result.now c.self.view_is c.from.ensures c.lend_mut-place.ensures.value in
    let same = ap (λ place. place.generation) at in
    omega (arith, same, c.fill.ensures.generation)

pub returns-clause-next : goal.returns-clause-next
returns-clause-next g c =
    let row = c.self.inside in
    let at = held_at row.used row.fresh row.boxes.held c.args.self.now c.from.result c.args.slot c.lend_mut-place.result.now c.self.view_is c.from.ensures c.lend_mut-place.ensures.value in
    sym (ap (λ place. place.next) at)

pub returns-clause-after : goal.returns-clause-after
returns-clause-after g c =
    let row = c.self.inside in
    written row.used row.fresh row.boxes.held c.args.self.now c.from.result c.args.slot _ _ c.self.view_is c.from.ensures c.fill.ensures.after

pub returns-clause-reached : goal.returns-clause-reached
returns-clause-reached g c within =
    let row = c.self.inside in
    let linked = c.self.invariant.4.linked c.from.result c.lend_mut-place.result.now c.lend_mut-place.ensures.value in
    let long = length-places_in row.used 0 (set row.boxes.held c.from.result (Some c.fill.new.self)) in
    let same = length-set row.boxes.held c.from.result (Some c.fill.new.self) in
    linked (omega (arith, within, long, same, c.self.invariant.4.long))
