-- The place is the last of its slot, and the others are kept.
use Rattle.std.proofs.Common.{◌≡◌, ◌+◌, [], ◌∷◌, Some, slice_get, slice_set, length, refl, sym, ap, subst, ◌∙◌, arith}
use Rattle.std.proofs.lemmas.List.{append-nil}
use Rattle.std.proofs.lemmas.Option.{slice_get_read}
use Rattle.text_script.specs.inner.Naming.{IsPlaceOf}
use Rattle.text_script.proofs.NamingLemmas.{place-kept-by-push, place-put}
use Rattle.text_script.proofs.names.put_place.Goals as goal

pub returns-then-id-len-clause-kept : goal.returns-then-id-len-clause-kept
returns-then-id-len-clause-kept c =
    let of_slot = c.index_mut-of_slot.result.now in
    let was : slice_get c.args.places.now.items c.from-slot.result ≡ Some of_slot =
    slice_get_read c.args.places.now.items (length c.args.places.now.items) c.from-slot.result of_slot refl
    (let test = c.if-slot-len.false in let long = c.len.ensures in let same = c.args.places.now.ok.0 in omega arith) c.index_mut-of_slot.ensures.value in
    place-kept-by-push c.args.places.now.items c.from-slot.result of_slot of_slot [] was (sym (append-nil of_slot.items))

pub returns-in_err-push-clause-kept : goal.returns-in_err-push-clause-kept
returns-in_err-push-clause-kept c =
    let of_slot = c.index_mut-of_slot.result.now in
    let was : slice_get c.args.places.now.items c.from-slot.result ≡ Some of_slot =
    slice_get_read c.args.places.now.items (length c.args.places.now.items) c.from-slot.result of_slot refl
    (let test = c.if-slot-len.false in let long = c.len.ensures in let same = c.args.places.now.ok.0 in omega arith) c.index_mut-of_slot.ensures.value in
    place-kept-by-push c.args.places.now.items c.from-slot.result of_slot c.push.new.self [] was (c.in_err-push.ensures.items ∙ sym (append-nil of_slot.items))

pub returns-clause-kept : goal.returns-clause-kept
returns-clause-kept c =
    let of_slot = c.index_mut-of_slot.result.now in
    let was : slice_get c.args.places.now.items c.from-slot.result ≡ Some of_slot =
    slice_get_read c.args.places.now.items (length c.args.places.now.items) c.from-slot.result of_slot refl
    (let test = c.if-slot-len.false in let long = c.len.ensures in let same = c.args.places.now.ok.0 in omega arith) c.index_mut-of_slot.ensures.value in
    place-kept-by-push c.args.places.now.items c.from-slot.result of_slot c.push.new.self (c.args.place ∷ []) was c.in_ok-push.ensures.items

pub returns-clause-put : goal.returns-clause-put
returns-clause-put c put =
    let of_slot = c.index_mut-of_slot.result.now in
    let was : slice_get c.args.places.now.items c.args.id.slot ≡ Some of_slot =
    ap (λ k. slice_get c.args.places.now.items k) (sym c.from-slot.ensures)
    ∙ slice_get_read c.args.places.now.items (length c.args.places.now.items) c.from-slot.result of_slot refl
    (let test = c.if-slot-len.false in let long = c.len.ensures in let same = c.args.places.now.ok.0 in omega arith) c.index_mut-of_slot.ensures.value in
    let next : c.args.id.generation ≡ length of_slot.items + 1 = let test = c.if-id-len.false in let long = c.len-2.ensures in let same = of_slot.ok.0 in omega arith in
    subst (λ slot. IsPlaceOf (slice_set c.args.places.now.items slot c.push.new.self) c.args.id c.args.place) (sym c.from-slot.ensures)
    (place-put c.args.places.now.items of_slot c.push.new.self c.args.id c.args.place was c.in_ok-push.ensures.items next)
