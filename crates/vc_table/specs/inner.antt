-- Definitions that only private functions and proofs use.
pub mod Pool
pub mod Linked
pub mod TableFields
