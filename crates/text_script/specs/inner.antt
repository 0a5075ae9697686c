-- Definitions that only private functions and proofs use.
pub mod OnlyWord
pub mod Digits
pub mod SpelledCell
pub mod Naming
