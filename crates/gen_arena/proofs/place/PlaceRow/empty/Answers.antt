use Rattle.std.proofs.Common.{◌≡◌, ◌<◌, ◌≤◌, sym, ap, ◌∙◌, arith}
use Rattle.gen_arena.proofs.PlaceLemmas.{IsRow-set, written, held_at, full_below, row_length}
use Rattle.gen_arena.proofs.place.PlaceRow.empty.Goals as goal

pub lend_mut-place-requires : goal.lend_mut-place-requires
lend_mut-place-requires g c =
    let row = c.self.inside in
    let filled = c.self.invariant.4.filled in
    let below = full_below row.used row.fresh row.boxes.held c.args.self.now c.args.slot c.self.view_is filled c.requires.full in
    (sym c.self.invariant.0, filled.held c.from.result (omega (arith, below, c.from.ensures)))

pub invariant_of-self : goal.invariant_of-self
invariant_of-self g c =
    let is = c.self.invariant in
    let row = c.self.inside in
    let boxes = row.boxes.held in
    let below = full_below row.used row.fresh boxes c.args.self.now c.args.slot c.self.view_is is.4.filled c.requires.full in
    let there : c.from.result < row.fresh = omega (arith, below, c.from.ensures) in
    let long = row_length row.used row.fresh boxes c.args.self.now c.self.view_is in
    let first : row.fresh ≡ c.args.self.now.fresh = ap (λ r. r.fresh) c.self.view_is in
    let reached : c.args.next < row.count → c.args.next ≤ row.fresh = λ within.
    let most = c.requires.reached (omega (arith, within, long, is.4.long)) in
    omega (arith, most, first) in
    (is.0, is.1, is.2, is.3, IsRow-set boxes row.count row.fresh c.from.result _ there reached is.4)

pub returns-clause-value : goal.returns-clause-value
returns-clause-value g c =
    let row = c.self.inside in
    let at = held_at row.used row.fresh row.boxes.held c.args.self.now c.from.result c.args.slot c.lend_mut-place.result.now c.self.view_is c.from.ensures c.lend_mut-place.ensures.value in
    c.take.ensures.value ∙ ap (λ place. place.value) (sym at)

pub returns-clause-after : goal.returns-clause-after
returns-clause-after g c =
    let row = c.self.inside in
    let at = held_at row.used row.fresh row.boxes.held c.args.self.now c.from.result c.args.slot c.lend_mut-place.result.now c.self.view_is c.from.ensures c.lend_mut-place.ensures.value in
    written row.used row.fresh row.boxes.held c.args.self.now c.from.result c.args.slot _ _ c.self.view_is c.from.ensures
    (λ i. record { generation = (sym at i).generation; next = c.args.next; value = c.take.ensures.after i })

pub returns-clause-below : goal.returns-clause-below
returns-clause-below g c =
    let row = c.self.inside in
    let first : row.fresh ≡ c.args.self.now.fresh = ap (λ r. r.fresh) c.self.view_is in
    let below = full_below row.used row.fresh row.boxes.held c.args.self.now c.args.slot c.self.view_is c.self.invariant.4.filled c.requires.full in
    omega (arith, below, first)
