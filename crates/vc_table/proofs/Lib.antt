-- Lemmas that several proofs share.
pub mod PoolLemmas
pub mod LinkLemmas
pub mod TableLemmas
