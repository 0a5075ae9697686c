-- Definitions that only private functions and proofs use.
pub mod OnlyWord
pub mod NamesMet
pub mod Stops
