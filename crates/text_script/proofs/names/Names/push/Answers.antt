-- Each program's place is under its slot and generation, if it was and the new one's is.
use Rattle.std.proofs.Common.{List, sym, subst, ◌∙◌}
use Rattle.gen_arena.specs.declared.id.Id.{Id as TheId}
use Rattle.text_script.specs.inner.Naming.{ArePlaced, IsPlaceOf}
use Rattle.text_script.proofs.NamingLemmas.{both-true, placed-kept, placed-push}
use Rattle.text_script.proofs.names.Names.push.Goals as goal

pub invariant_of-self : goal.invariant_of-self
invariant_of-self c placed =
    placed-kept c.self.inside.ids.items c.self.inside.places.items c.put_place.new.places.items c.put_place.ensures.kept (c.self.invariant placed)

pub invariant_of-self-in_err-push : goal.invariant_of-self-in_err-push
invariant_of-self-in_err-push c placed =
    subst (λ (ids : List TheId). ArePlaced ids c.put_place.new.places.items) (sym c.in_err-push.ensures.items)
    (placed-kept c.self.inside.ids.items c.self.inside.places.items c.put_place.new.places.items c.put_place.ensures.kept
    (c.self.invariant (both-true c.self.inside.is_placed c.in_ok-is_next.is_next placed).0))

pub invariant_of-self-2 : goal.invariant_of-self-2
invariant_of-self-2 c placed =
    let ids = c.self.inside.ids in
    let kept : ArePlaced ids.items c.put_place.new.places.items =
    placed-kept ids.items c.self.inside.places.items c.put_place.new.places.items c.put_place.ensures.kept
    (c.self.invariant (both-true c.self.inside.is_placed c.in_ok-is_next.is_next placed).0) in
    let last : IsPlaceOf c.put_place.new.places.items c.args.id c.len.result =
    c.in_ok-is_next.ensures.put (both-true c.self.inside.is_placed c.in_ok-is_next.is_next placed).1 in
    subst (λ (now : List TheId). ArePlaced now c.put_place.new.places.items) (sym c.in_ok-push.ensures.items)
    (placed-push ids.items c.args.id c.put_place.new.places.items kept
    (subst (λ n. IsPlaceOf c.put_place.new.places.items c.args.id n) (c.len.ensures ∙ ids.ok.0) last))
