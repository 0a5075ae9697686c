-- Lemmas for other crates. All but those on equal ids are laws in `laws.rt`.
--     id_same, id_itself, id_differs, id_cases      ids are equal exactly if `is_same_id` is true
--     slot_of_live, live_of_slot, live_within, live_generation      the slot of a live id
--     Inserts-live, Inserts-new, Inserts-others, Inserts-length      values of ids after an insert
--     Removes-gone, Removes-others, Removes-length      values of ids after a removal
--     Leads-past, Leads-live      after any calls
--     slice_get-set_same, slice_get-set_other, slice_get-set      lists after a write
pub use Rattle.gen_arena.proofs.IdLemmas.{id_same, id_itself, id_differs, id_cases}
pub use Rattle.gen_arena.proofs.SlotLemmas.{slot_of_live, live_of_slot, live_within, live_generation}
pub use Rattle.gen_arena.proofs.PastLemmas.{Inserts-live}
pub use Rattle.gen_arena.proofs.LiveLemmas.{Inserts-new, Inserts-others, Inserts-length, Removes-gone, Removes-others, Removes-length}
pub use Rattle.gen_arena.proofs.ListLemmas.{slice_get-set_same, slice_get-set_other, slice_get-set}
pub use Rattle.gen_arena.proofs.ChangeLemmas.{Leads-past, Leads-live}
