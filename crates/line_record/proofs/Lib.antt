-- Lemmas that several proofs share. Other crates cite those of Public alone.
pub mod NumberLemmas
pub mod HistoryLemmas
pub mod EntryLemmas
pub mod RunLemmas
pub mod LineLemmas
pub mod MarkLemmas
pub mod ChainLemmas
pub mod SeatingLemmas
pub mod SeatLemmas
pub mod HeldLemmas
pub mod UsesLemmas
pub mod StateLemmas
pub mod ChargeLemmas
pub mod TotalLemmas
pub mod FillLemmas
pub mod Public
