-- The number is that of the place under the program's slot and generation, if the program is there.
use Rattle.std.proofs.Common.{◌≡◌, ℕ, ◌+◌, ◌<◌, List, Some, slice_get, length, refl, sym, ap, subst, ◌∙◌, true, false, arith}
use Rattle.std.specs.Global.{Vec as TheVec}
use Rattle.std.proofs.lemmas.Option.{same_Some, slice_get_read, slice_get_within}
use Rattle.gen_arena.proofs.Public.{id_itself, id_same}
use Rattle.gen_arena.specs.SameId.{is_same_id}
use Rattle.gen_arena.specs.declared.id.Id.{Id as TheId}
use Rattle.text_script.specs.ProgramNames.{number_of_program}
use Rattle.text_script.specs.inner.Naming.{IsPlaceOf}
use Rattle.text_script.proofs.NamingLemmas.{no-number, number-of-place, one-place}
use Rattle.text_script.proofs.names.Names.number_of.Goals as goal

pub returns-in_default : goal.returns-in_default
returns-in_default c =
    let ids = c.self.inside.ids.items in
    let places = c.self.inside.places.items in
    let none : (place : ℕ) → IsPlaceOf places c.args.id place → ⊥ =
    subst (λ (it : List (TheVec ℕ)). (place : ℕ) → IsPlaceOf it c.args.id place → ⊥) c.deref-2.ensures.value c.in_default.ensures in
    subst (λ (names : List TheId). 0 ≡ number_of_program names c.args.id) c.self.view_is
    (no-number ids places c.args.id (c.self.invariant c.if-not-self.false) (λ place is here. none place is))

pub returns-then-place-len : goal.returns-then-place-len
returns-then-place-len c =
    let ids = c.self.inside.ids.items in
    let places = c.self.inside.places.items in
    let place = c.in-Some.place in
    let is : IsPlaceOf places c.args.id place =
    subst (λ (it : List (TheVec ℕ)). IsPlaceOf it c.args.id place) c.deref-2.ensures.value c.in-Some.ensures in
    subst (λ (names : List TheId). 0 ≡ number_of_program names c.args.id) c.self.view_is
    (no-number ids places c.args.id (c.self.invariant c.if-not-self.false) (λ other its here.
    let same : other ≡ place = one-place places c.args.id other place its is in
    let within : other < length ids = slice_get_within ids other c.args.id here in
    let past = c.if-place-len.true in let long = c.len.ensures in let sized = c.self.inside.ids.ok.0 in absurd (omega arith)))

pub returns-then-eq : goal.returns-then-eq
returns-then-eq c =
    let ids = c.self.inside.ids.items in
    let places = c.self.inside.places.items in
    let place = c.in-Some.place in
    let it = c.index.result.now in
    let is : IsPlaceOf places c.args.id place =
    subst (λ (them : List (TheVec ℕ)). IsPlaceOf them c.args.id place) c.deref-2.ensures.value c.in-Some.ensures in
    let within : place < length ids = let test = c.if-place-len.false in let long = c.len.ensures in let sized = c.self.inside.ids.ok.0 in omega arith in
    let there : slice_get ids place ≡ Some it = slice_get_read ids (length ids) place it refl within c.index.ensures in
    let same : it ≡ c.args.id = id_same it c.args.id (sym c.eq.ensures ∙ c.if-eq.true) in
    subst (λ (names : List TheId). place + 1 ≡ number_of_program names c.args.id) c.self.view_is
    (number-of-place ids places c.args.id place (c.self.invariant c.if-not-self.false) is (there ∙ ap (λ (x : TheId). Some x) same))

pub returns : goal.returns
returns c =
    let ids = c.self.inside.ids.items in
    let places = c.self.inside.places.items in
    let place = c.in-Some.place in
    let it = c.index.result.now in
    let is : IsPlaceOf places c.args.id place =
    subst (λ (them : List (TheVec ℕ)). IsPlaceOf them c.args.id place) c.deref-2.ensures.value c.in-Some.ensures in
    let within : place < length ids = let test = c.if-place-len.false in let long = c.len.ensures in let sized = c.self.inside.ids.ok.0 in omega arith in
    let there : slice_get ids place ≡ Some it = slice_get_read ids (length ids) place it refl within c.index.ensures in
    let differs : is_same_id it c.args.id ≡ false = sym c.eq.ensures ∙ c.if-eq.false in
    subst (λ (names : List TheId). 0 ≡ number_of_program names c.args.id) c.self.view_is
    (no-number ids places c.args.id (c.self.invariant c.if-not-self.false) (λ other its here.
    let at : other ≡ place = one-place places c.args.id other place its is in
    let same : c.args.id ≡ it = same_Some c.args.id it (sym (ap (λ k. slice_get ids k) (sym at) ∙ here) ∙ there) in
    let itself : is_same_id it c.args.id ≡ true = ap (λ (x : TheId). is_same_id it x) same ∙ id_itself it in
    absurd (cc)))
