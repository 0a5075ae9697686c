-- Lemmas for the proofs of the pointer functions.
pub mod Sharing
pub mod Crossing
pub mod Rows
pub mod Walks
