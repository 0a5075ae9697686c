use Rattle.std.proofs.Common.{◌+◌, refl, sym, ap, ◌∙◌, arith}
use Rattle.gen_arena.specs.inner.PlaceRow.{places_in}
use Rattle.gen_arena.proofs.PlaceLemmas.{IsRow-next, written, first_fresh}
use Rattle.gen_arena.proofs.place.PlaceRow.fill_fresh.Goals as goal

pub overflow_add-generation : goal.overflow_add-generation
overflow_add-generation g c =
    let row = c.self.inside in
    let here = first_fresh row.used row.fresh row.count row.boxes.held c.args.self.now c.self.view_is c.self.invariant.4 c.requires.there in
    let same = ap (λ place. place.generation) here.is in
    omega (arith, c.requires.unworn, same)

pub overflow_add-next : goal.overflow_add-next
overflow_add-next g c =
    let row = c.self.inside in
    let here = first_fresh row.used row.fresh row.count row.boxes.held c.args.self.now c.self.view_is c.self.invariant.4 c.requires.there in
    omega (arith, here.there, c.self.invariant.4.few)

pub put-requires : goal.put-requires
put-requires g c =
    let row = c.self.inside in
    let is = c.self.invariant in
    let here = first_fresh row.used row.fresh row.count row.boxes.held c.args.self.now c.self.view_is is.4 c.requires.there in
    (sym is.0, omega (arith, here.there, is.4.long, c.from.ensures), is.4.filled.blank c.from.result (omega (arith, c.from.ensures)))

pub invariant_of-self : goal.invariant_of-self
invariant_of-self g c =
    let row = c.self.inside in
    let is = c.self.invariant in
    let here = first_fresh row.used row.fresh row.count row.boxes.held c.args.self.now c.self.view_is is.4 c.requires.there in
    let laid = IsRow-next row.boxes.held row.count row.fresh _ here.there refl is.4 in
    (c.put.ensures.0 ∙ is.0, is.1, is.2, is.3, rw (c.put.ensures.1, c.from.ensures) laid)

pub returns-clause-generation : goal.returns-clause-generation
returns-clause-generation g c =
    let row = c.self.inside in
    let here = first_fresh row.used row.fresh row.count row.boxes.held c.args.self.now c.self.view_is c.self.invariant.4 c.requires.there in
    ap (λ place. place.generation + 1) (sym here.is)

pub returns-clause-next : goal.returns-clause-next
returns-clause-next g c =
    let row = c.self.inside in
    let here = first_fresh row.used row.fresh row.count row.boxes.held c.args.self.now c.self.view_is c.self.invariant.4 c.requires.there in
    ap (λ place. place.next) (sym here.is)

pub returns-clause-after : goal.returns-clause-after
returns-clause-after g c =
    let row = c.self.inside in
    let here = first_fresh row.used row.fresh row.count row.boxes.held c.args.self.now c.self.view_is c.self.invariant.4 c.requires.there in
    let at = c.from.ensures ∙ sym here.first in
    ap (places_in row.used 0) c.put.ensures.1 ∙ written row.used row.fresh row.boxes.held c.args.self.now c.from.result c.args.self.now.fresh _ _ c.self.view_is at refl
