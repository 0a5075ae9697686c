-- A program on every card: what the cards do is what their cores do, and they are at rest afterwards.
use Rattle.std.proofs.Common.{◌≡◌, ℕ, zero, suc, ◌<◌, List, [], ◌∷◌, ◌++◌, length, get_or, Some, None, refl, sym, ◌∙◌, subst, arith}
use Rattle.std.specs.Prelude.{slice_get}
use Rattle.std.proofs.lemmas.List.{length-map}
use Rattle.std.proofs.lemmas.Option.{same_Some, slice_get_within}
use Rattle.bpf_code.specs.declared.instr.Instr.{Instr}
use Rattle.gen_arena.specs.declared.id.Id.{Id}
use Rattle.card_core.specs.Agreement.{CoreView}
use Rattle.card_core.specs.Inspection.{load_fault_of, IsRetireFault}
use Rattle.card_core.specs.declared.reply.Reply.TheVariants.{Loaded, Retired}
use Rattle.card_core.specs.declared.step.Step.TheVariants.{Load, Retire}
use Rattle.card_shelf.specs.declared.card.Card.{Card}
use Rattle.card_shelf.specs.Programs.{LoadsOn, LoadsEach, EachHasRoom, RetiresOn, RetiresEach}
use Rattle.card_shelf.specs.inner.Retiring.{EachMayRetire}
use Rattle.card_shelf.specs.inner.Cards.{cores_of, AreAtRest}
use Rattle.card_shelf.proofs.CardLemmas.{core_in, core-at, card-of-core}
use Rattle.card_shelf.proofs.Lists.{there}
use Rattle.card_shelf.proofs.RestLemmas.{desk-rests}

module _ {X : Type 0} where
  pub get-last : (xs : List X) (x y : X) → slice_get (xs ++ x ∷ []) (length xs) ≡ Some y → x ≡ y
  get-last [] x y e = same_Some x y e
  get-last (z ∷ xs) x y e = get-last xs x y e

  pub get-before : (xs : List X) (k : ℕ) (x : X) → k < length xs → slice_get (xs ++ x ∷ []) k ≡ slice_get xs k
  get-before [] k x within = absurd (omega (arith, within))
  get-before (z ∷ xs) zero x within = refl
  get-before (z ∷ xs) (suc k) x within = get-before xs k x (omega (arith, within))

  pub front-or : (xs ys : List X) (k : ℕ) (d : X) → k < length xs → get_or (xs ++ ys) k d ≡ get_or xs k d
  front-or [] ys k d within = absurd (omega (arith, within))
  front-or (z ∷ xs) ys zero d within = refl
  front-or (z ∷ xs) ys (suc k) d within = front-or xs ys k d (omega (arith, within))

  pub last-or : (xs : List X) (x d : X) → get_or (xs ++ x ∷ []) (length xs) d ≡ x
  last-or [] x d = refl
  last-or (z ∷ xs) x d = last-or xs x d

pub room-cards : (cards : List Card) → EachHasRoom (cores_of cards) → (number : ℕ) (card : Card) → slice_get cards number ≡ Some card
    → load_fault_of card.core ≡ None
room-cards cards free number card e = free number card.core (core-at cards number card e)

pub may-cards : (cards : List Card) (ids : List Id) → EachMayRetire (cores_of cards) ids → (number : ℕ) (card : Card) (id : Id)
    → slice_get cards number ≡ Some card → slice_get ids number ≡ Some id → IsRetireFault card.core id None
may-cards cards ids free number card id e at = free number card.core id (core-at cards number card e) at

pub loads-each : (old new : List Card) (code : List Instr) (ids : List Id) → length new ≡ length old → length ids ≡ length old
    → ((number : ℕ) (card next : Card) (id : Id) → slice_get old number ≡ Some card → slice_get new number ≡ Some next
    → slice_get ids number ≡ Some id → LoadsOn code id card.core next.core)
    → LoadsEach (cores_of old) code ids (cores_of new)
loads-each old new code ids sized named each = record {
  cards = length-map new core_in ∙ sized ∙ sym (length-map old core_in);
  one_each = named ∙ sym (length-map old core_in);
  each = λ number card next id here after at.
      let one = card-of-core old number card here in
      let then = card-of-core new number next after in
      subst (λ (c : CoreView). LoadsOn code id card c) then.2
      (subst (λ (c : CoreView). LoadsOn code id c then.0.core) one.2 (each number one.0 then.0 id one.1 then.1 at));
}

pub loads-rest : (old new : List CoreView) (code : List Instr) (ids : List Id) → LoadsEach old code ids new → AreAtRest old → AreAtRest new
loads-rest old new code ids loads rest number core e =
    let within = slice_get_within new number core e in
    let card = there old number (omega (arith, within, loads.cards)) in
    let id = there ids number (omega (arith, within, loads.cards, loads.one_each)) in
    desk-rests card.0 core (Load code) (Loaded id.0) tt (rest number card.0 card.1)
    (loads.each number card.0 core id.0 card.1 e id.1).takes.follows

pub retires-each : (old new : List Card) (ids : List Id) → length new ≡ length old → length ids ≡ length old
    → ((number : ℕ) (card next : Card) (id : Id) → slice_get old number ≡ Some card → slice_get new number ≡ Some next
    → slice_get ids number ≡ Some id → RetiresOn id card.core next.core)
    → RetiresEach (cores_of old) ids (cores_of new)
retires-each old new ids sized named each = record {
  cards = length-map new core_in ∙ sized ∙ sym (length-map old core_in);
  one_each = named ∙ sym (length-map old core_in);
  each = λ number card next id here after at.
      let one = card-of-core old number card here in
      let then = card-of-core new number next after in
      subst (λ (c : CoreView). RetiresOn id card c) then.2
      (subst (λ (c : CoreView). RetiresOn id c then.0.core) one.2 (each number one.0 then.0 id one.1 then.1 at));
}

pub retires-rest : (old new : List CoreView) (ids : List Id) → RetiresEach old ids new → AreAtRest old → AreAtRest new
retires-rest old new ids retires rest number core e =
    let within = slice_get_within new number core e in
    let card = there old number (omega (arith, within, retires.cards)) in
    let id = there ids number (omega (arith, within, retires.cards, retires.one_each)) in
    let did = retires.each number card.0 core id.0 card.1 e id.1 in
    desk-rests card.0 core (Retire id.0) (Retired did.code) tt (rest number card.0 card.1) did.takes.follows
