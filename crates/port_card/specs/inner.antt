-- Definitions that only private functions and proofs use.
pub mod Shares
pub mod Columns
pub mod Given
