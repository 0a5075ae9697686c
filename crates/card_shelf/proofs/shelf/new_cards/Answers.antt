use Rattle.std.proofs.Common.{◌+◌, ℕ, List, length, sym, ap, ◌∙◌, subst, inl, inr, arith}
use Rattle.std.specs.Prelude.{slice_get}
use Rattle.std.proofs.lemmas.List.{length-append, map-append}
use Rattle.card_core.specs.Agreement.{CoreView, CoreAgrees}
use Rattle.card_core.specs.World.{opening_world}
use Rattle.card_shelf.specs.declared.card.Card.{Card}
use Rattle.card_shelf.specs.inner.Cards.{cores_of}
use Rattle.card_shelf.proofs.Lists.{get-push}
use Rattle.card_shelf.proofs.CardLemmas.{core_in}
use Rattle.card_shelf.proofs.RestLemmas.{opening-rests}
use Rattle.card_shelf.proofs.shelf.new_cards.Goals as goal

pub loop-preserved : goal.loop-preserved
loop-preserved c =
    let items = c.push_reserved.ensures.items in
    let old = c.loop.cards.items in
    record {
      many = ap length items ∙ length-append old _ ∙ ap (λ (n : ℕ). n + 1) c.loop.invariant.many;
      room = omega (arith, c.loop.invariant.room, c.push_reserved.ensures.capacity);
      agrees = λ number core e.
          elim (get-push (cores_of old) number c.in-Ok-new.core core (ap (λ (cs : List CoreView). slice_get cs number) (sym (map-append core_in old _)) ∙ ap (λ (cs : List Card). slice_get (cores_of cs) number) (sym items) ∙ e)) [
            | inl was ↦ c.loop.invariant.agrees number core was
            | inr is ↦ subst (λ (x : CoreView). CoreAgrees x (opening_world c.args.shape)) is c.in-Ok-new.ensures.agrees
          ];
    }

pub returns-clause-rest : goal.returns-clause-rest
returns-clause-rest c number core e =
    opening-rests c.args.shape core c.requires.some_ports (c.loop.invariant.agrees number core e)
