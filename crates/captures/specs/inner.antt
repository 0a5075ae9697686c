-- Definitions that only private functions and proofs use.
pub mod Received
pub mod Lent
