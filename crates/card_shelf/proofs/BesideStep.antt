-- A card stays beside a shelf through what one card of the shelf and that card do for one connection.
use Rattle.std.proofs.Common.{◌≡◌, ℕ, Bool, true, false, List, ◌++◌, length, Some, refl, sym, ap, ◌∙◌, subst, inl, inr, length-set}
use Rattle.std.specs.Prelude.{slice_get, slice_set}
use Rattle.upc_cell.specs.declared.vc.Vc.{Vc}
use Rattle.upc_cell.specs.Connection.{is_same_vc}
use Rattle.upc_cell.proofs.Public.{vc_same}
use Rattle.card_core.specs.Agreement.{CoreView}
use Rattle.card_core.specs.Log.{Event}
use Rattle.card_isolation.specs.Isolation.{account_of}
use Rattle.card_shelf.specs.Dealing.{card_of}
use Rattle.card_shelf.specs.OneCard.{LoggedCard, LoggedShelf, IsLogOf, IsBeside}
use Rattle.gen_arena.proofs.Public.{slice_get-set}

module _ (one : LoggedCard) (shelf : LoggedShelf) (beside : IsBeside one shelf) where
  pub steps-beside : (mine : Vc) (number : ℕ) (own way way_too : List Event) (next after : CoreView) (new : List CoreView)
      → card_of mine (length shelf.logs) ≡ number → slice_get shelf.logs number ≡ Some own
      → new ≡ slice_set shelf.cards number after
      → IsLogOf one.shape (one.log ++ way) next → IsLogOf shelf.shape (own ++ way_too) after
      → ((vc : Vc) → is_same_vc vc mine ≡ true → account_of one.shape.side vc (one.log ++ way) ≡ account_of shelf.shape.side vc (own ++ way_too))
      → ((vc : Vc) → is_same_vc vc mine ≡ false → account_of one.shape.side vc (one.log ++ way) ≡ account_of one.shape.side vc one.log)
      → ((vc : Vc) → is_same_vc vc mine ≡ false → account_of shelf.shape.side vc (own ++ way_too) ≡ account_of shelf.shape.side vc own)
      → IsBeside (record one { log = one.log ++ way; card = next }) (record shelf { logs = slice_set shelf.logs number (own ++ way_too); cards = new })
  steps-beside mine number own way way_too next after new same_number at changed is_log is_log_too same foreign foreign_too =
      let longer = slice_set shelf.logs number (own ++ way_too) in
      let same_length : length longer ≡ length shelf.logs = length-set shelf.logs number (own ++ way_too) in
      let cards_same : length new ≡ length shelf.cards = ap length changed ∙ length-set shelf.cards number after in
      record {
        logged = record {
          side = beside.logged.side;
          journal = beside.logged.journal;
          here = is_log;
          sized = same_length ∙ beside.logged.sized ∙ sym cards_same;
          each = λ k other core is is_core.
              let core_is : slice_get (slice_set shelf.cards number after) k ≡ Some core = ap (λ (cs : List CoreView). slice_get cs k) (sym changed) ∙ is_core in
              elim (slice_get-set shelf.logs number k (own ++ way_too) other is) [
                | inl here ↦
                    elim (slice_get-set shelf.cards number k after core core_is) [
                      | inl here_too ↦ subst (λ (c : CoreView). IsLogOf shelf.shape other c) here_too.1
                          (subst (λ (l : List Event). IsLogOf shelf.shape l after) here.1 is_log_too)
                      | inr apart ↦ absurd (apart.0 here.0)
                    ]
                | inr apart ↦
                    elim (slice_get-set shelf.cards number k after core core_is) [
                      | inl here_too ↦ absurd (apart.0 here_too.0)
                      | inr apart_too ↦ beside.logged.each k other core apart.1 apart_too.1
                    ]
              ];
        };
        accounts = λ vc other is.
            let is_at : slice_get longer (card_of vc (length shelf.logs)) ≡ Some other = ap (λ (n : ℕ). slice_get longer (card_of vc n)) (sym same_length) ∙ is in
            let choice : (b : Bool) → is_same_vc vc mine ≡ b → account_of one.shape.side vc (one.log ++ way) ≡ account_of shelf.shape.side vc other = elim [
              | true ↦ λ mine_too.
                  let card_is : card_of vc (length shelf.logs) ≡ number = ap (λ (v : Vc). card_of v (length shelf.logs)) (vc_same vc mine mine_too) ∙ same_number in
                  elim (slice_get-set shelf.logs number (card_of vc (length shelf.logs)) (own ++ way_too) other is_at) [
                    | inl here ↦ subst (λ (l : List Event). account_of one.shape.side vc (one.log ++ way) ≡ account_of shelf.shape.side vc l) here.1 (same vc mine_too)
                    | inr apart ↦ absurd (apart.0 card_is)
                  ]
              | false ↦ λ elsewhere.
                  foreign vc elsewhere
                  ∙ elim (slice_get-set shelf.logs number (card_of vc (length shelf.logs)) (own ++ way_too) other is_at) [
                    | inl here ↦
                        let own_at : slice_get shelf.logs (card_of vc (length shelf.logs)) ≡ Some own = ap (slice_get shelf.logs) here.0 ∙ at in
                        subst (λ (l : List Event). account_of one.shape.side vc one.log ≡ account_of shelf.shape.side vc l) here.1
                        (beside.accounts vc own own_at ∙ sym (foreign_too vc elsewhere))
                    | inr apart ↦ beside.accounts vc other apart.1
                  ]
            ] in
            choice (is_same_vc vc mine) refl;
      }
