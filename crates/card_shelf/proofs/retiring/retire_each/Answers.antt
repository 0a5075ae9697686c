use Rattle.std.proofs.Common.{◌≡◌, ◌<◌, Some, None, length, get_or, refl, sym, ap, ◌∙◌, subst, inl, inr, arith}
use Rattle.std.specs.Prelude.{slice_get}
use Rattle.std.proofs.lemmas.Option.{same_Some, slice_get_read, slice_get-get_or, slice_get_within, get_or_from_slice_get}
use Rattle.gen_arena.specs.declared.id.Id.{Id}
use Rattle.card_core.specs.Inspection.{IsRetireFault}
use Rattle.card_shelf.specs.declared.card.Card.{Card}
use Rattle.card_shelf.specs.Programs.{RetiresOn}
use Rattle.gen_arena.proofs.Public.{slice_get-set, slice_get-set_other}
use Rattle.card_shelf.proofs.retiring.retire_each.Goals as goal
use Rattle.card_shelf.proofs.retiring.retire_each.Goals.{After-index-cards-number}

-- The card at this number is still as it was.
here : (c : After-index-cards-number) → slice_get c.args.cards.now c.loop-number.number ≡ Some c.index-cards-number.result
here c =
    let below : c.loop-number.number < length c.args.cards.now = c.loop-number-test.true in
    sym (c.loop-number.invariant.rest c.loop-number.number (omega arith))
    ∙ slice_get_read c.loop-number.cards (length c.loop-number.cards) c.loop-number.number c.index-cards-number.result refl
    (omega (arith, below, c.loop-number.auto.cards)) c.index-cards-number.is

pub retire-requires : goal.retire-requires
retire-requires c =
    let number = c.loop-number.number in
    let ids = c.args.ids.now in
    let id = get_or ids number (record { slot = 0; generation = 0 }) in
    let below : number < length c.args.cards.now = c.loop-number-test.true in
    record {
      free = subst (λ (x : Card). IsRetireFault x.core id None) c.index-cards-number.is
          (c.requires.free number c.index-cards-number.result id (here (goal.at.retire-requires c).After-index-cards-number)
          (slice_get-get_or ids number (record { slot = 0; generation = 0 }) (omega (arith, below, c.requires.one_each))));
    }

pub loop-number-preserved : goal.loop-number-preserved
loop-number-preserved c =
    let number = c.loop-number.number in
    let ids = c.args.ids.now in
    record {
      retired = λ k card next id below e after at. elim (slice_get-set c.loop-number.cards number k c.retire.new.self next after) [
        | inl same ↦
            let card_is : c.index-cards-number.result ≡ card = same_Some c.index-cards-number.result card
            (sym (here (goal.at.loop-number-preserved c).After-index-cards-number) ∙ ap (slice_get c.args.cards.now) (sym same.0) ∙ e) in
            let id_is : get_or ids number (record { slot = 0; generation = 0 }) ≡ id =
            get_or_from_slice_get ids number id (record { slot = 0; generation = 0 }) (ap (slice_get ids) (sym same.0) ∙ at) in
            subst (λ (x : Card). RetiresOn id card.core x.core) same.1
            (subst (λ (x : Id). RetiresOn x card.core c.retire.new.self.core) id_is
            (subst (λ (x : Card). RetiresOn (get_or ids number (record { slot = 0; generation = 0 })) x.core c.retire.new.self.core)
            (sym c.index-cards-number.is ∙ card_is) c.retire.ensures.retired))
        | inr apart ↦ c.loop-number.invariant.retired k card next id (let ne = apart.0 in omega (arith, below, ne)) e apart.1 at
      ];
      rest = λ k above.
          slice_get-set_other c.loop-number.cards number k c.retire.new.self (omega (arith, above))
          ∙ c.loop-number.invariant.rest k (omega (arith, above));
    }

pub returns : goal.returns
returns c =
    let low = c.loop-number-test.false in
    record {
      retired = λ number card next id e after at.
          c.loop-number.invariant.retired number card next id
          (omega (arith, low, slice_get_within c.args.cards.now number card e)) e after at;
    }
