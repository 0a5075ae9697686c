use Rattle.std.proofs.Common.{ℕ, length, sym, ◌∙◌, subst, arith, true≢false}
use Rattle.card_shelf.specs.inner.Rooms.{ListsHaveRoom, BatchHasRoom}
use Rattle.card_shelf.proofs.RoomLemmas.{room-for-fewer}
use Rattle.card_shelf.proofs.running.police_lent.Goals as goal

pub unreachable-requires : goal.unreachable-requires
unreachable-requires g c =
    let most = c.requires.room.0 in
    let room = c.requires.room.1 in
    let below = c.requires.room.2 in
    true≢false (sym (c.in-Err.ensures.succeeds (length c.args.decision_lists.now) (room-for-fewer (length c.args.decision_lists.now) most (length c.args.arrivals.now) c.args.batch.now below room.lists)
    (λ number card e. (let had = c.swap_lists.ensures.lent most room.each_list number card e in omega (arith, had, below)))))

pub returns-clause-room : goal.returns-clause-room
returns-clause-room g c most room = record {
  each_list = c.swap_lists-2.ensures.back most
      (c.police_batch-done.ensures.cards_room most (c.swap_lists.ensures.lent most room.each_list))
      (subst (λ (n : ℕ). ListsHaveRoom n most c.swap_lists.new.decision_lists) (sym (c.police_batch-done.auto.cards ∙ c.swap_lists.auto.cards))
      (c.swap_lists.ensures.later most (λ number decisions from e. room.each_list number decisions (omega arith) e)));
  lists = subst (λ (n : ℕ). BatchHasRoom n most c.police_batch-done.new.batch) (sym (c.swap_lists-2.auto.decision_lists ∙ c.swap_lists.auto.decision_lists))
      (c.police_batch-done.ensures.room (length c.args.decision_lists.now) most room.lists);
}
