-- The place is read where it was put.
use Rattle.std.proofs.Common.{◌-◌, slice_get, length, refl, sym, ◌∙◌, ap, arith}
use Rattle.std.proofs.lemmas.Option.{slice_get_read}
use Rattle.text_script.proofs.names.place_of.Goals as goal

pub returns : goal.returns
returns c =
    let of_slot = c.index-places-slot.result in
    let slot = c.from-slot.result in
    record {
      of_slot = of_slot;
      there = ap (λ k. slice_get c.args.places.now k) (sym c.from-slot.ensures)
          ∙ slice_get_read c.args.places.now (length c.args.places.now) slot of_slot refl (let test = c.if-slot-places.false in omega arith) c.index-places-slot.is;
      counted = let some = c.if-id-eq0.false in omega arith;
      here = slice_get_read of_slot.items (length of_slot.items) (c.args.id.generation - 1) c.index.result.now refl
          (let test = c.if-before-len.false in let long = c.len.ensures in let same = of_slot.ok.0 in omega arith) c.index.ensures;
    }
