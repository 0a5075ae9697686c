use Rattle.std.proofs.Common.{◌≡◌, ◌<◌, ◌+◌, ℕ, Some, List, [], ◌∷◌, ◌++◌, length, get_or, refl, sym, ap, ◌∙◌, subst, inl, inr, arith, length-set}
use Rattle.std.specs.Prelude.{slice_get}
use Rattle.std.proofs.lemmas.List.{length-append}
use Rattle.std.proofs.lemmas.Option.{same_Some, slice_get_read, slice_get_within}
use Rattle.bpf_code.specs.declared.instr.Instr.{Instr}
use Rattle.gen_arena.specs.declared.id.Id.{Id}
use Rattle.card_shelf.specs.declared.card.Card.{Card}
use Rattle.card_shelf.specs.Programs.{LoadsOn}
use Rattle.gen_arena.proofs.Public.{slice_get-set, slice_get-set_other}
use Rattle.card_shelf.proofs.ProgramLemmas.{get-last, get-before, front-or, last-or}
use Rattle.card_shelf.proofs.loading.load_each.Goals as goal

pub loop-number-preserved : goal.loop-number-preserved
loop-number-preserved c =
    let number = c.loop-number.number in
    let cards = c.loop-number.cards in
    let copies = c.pop.new.self.items in
    let ids = c.loop-number.ids.items in
    let popped : c.loop-number.copies.items ≡ copies ++ c.in-Some.copy ∷ [] = c.in-Some.ensures.items in
    let many : length c.loop-number.copies.items ≡ length copies + 1 = ap length popped ∙ length-append copies (c.in-Some.copy ∷ []) in
    let copy_is : c.in-Some.copy ≡ c.args.code.now =
    sym (last-or copies c.in-Some.copy c.in-Some.copy)
    ∙ ap (λ (xs : List (List Instr)). get_or xs (length copies) c.in-Some.copy) (sym popped)
    ∙ c.loop-number.invariant.same (length copies) c.in-Some.copy (omega (arith, many)) in
    let decisions : length c.loop-number.ids.items ≡ number = c.loop-number.invariant.decisions in
    let below : number < length cards = omega (arith, c.loop-number-test.true, c.loop-number.auto.cards) in
    let here : slice_get c.args.cards.now number ≡ Some c.index-cards-number.result =
    sym (c.loop-number.invariant.rest number (omega arith))
    ∙ slice_get_read cards (length cards) number c.index-cards-number.result refl below c.index-cards-number.is in
    record {
      left = omega (arith, many, c.loop-number.invariant.left, length-set cards number c.load.new.self);
      same = λ k d within. sym (front-or copies (c.in-Some.copy ∷ []) k d within) ∙ ap (λ (xs : List (List Instr)). get_or xs k d) (sym popped)
          ∙ c.loop-number.invariant.same k d (omega (arith, within, many));
      decisions = ap length c.push_reserved.ensures.items ∙ length-append ids (c.load.result ∷ []) ∙ ap (λ (n : ℕ). n + 1) decisions;
      room = omega (arith, c.loop-number.invariant.room, c.push_reserved.ensures.capacity, length-set cards number c.load.new.self);
      loaded = λ k card next id e after at.
          let at_old : slice_get (ids ++ c.load.result ∷ []) k ≡ Some id =
          ap (λ (xs : List Id). slice_get xs k) (sym c.push_reserved.ensures.items) ∙ at in
          elim (slice_get-set cards number k c.load.new.self next after) [
            | inl same ↦
                let card_is : c.index-cards-number.result ≡ card = same_Some c.index-cards-number.result card
                (sym here ∙ ap (slice_get c.args.cards.now) (sym same.0) ∙ e) in
                let id_is : c.load.result ≡ id = get-last ids c.load.result id
                (ap (slice_get (ids ++ c.load.result ∷ [])) (decisions ∙ sym same.0) ∙ at_old) in
                subst (λ (x : Card). LoadsOn c.args.code.now id card.core x.core) same.1
                (subst (λ (x : Id). LoadsOn c.args.code.now x card.core c.load.new.self.core) id_is
                (subst (λ (x : Card). LoadsOn c.args.code.now c.load.result x.core c.load.new.self.core) (sym c.index-cards-number.is ∙ card_is)
                (subst (λ (code : List Instr). LoadsOn code c.load.result (get_or cards number c.index-cards-number.result).core c.load.new.self.core) copy_is c.load.ensures.loaded)))
            | inr apart ↦
                let within : k < length (ids ++ c.load.result ∷ []) = slice_get_within (ids ++ c.load.result ∷ []) k id at_old in
                let earlier : k < length ids = (let ne = apart.0 in omega (arith, within, length-append ids (c.load.result ∷ []), decisions, ne)) in
                c.loop-number.invariant.loaded k card next id e apart.1 (sym (get-before ids k c.load.result earlier) ∙ at_old)
          ];
      rest = λ k above.
          slice_get-set_other cards number k c.load.new.self (omega (arith, above))
          ∙ c.loop-number.invariant.rest k (omega (arith, above));
    }
