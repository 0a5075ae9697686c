-- Definitions that only private functions and proofs use.
pub mod Waiting
pub mod Progress
pub mod Alike
pub mod FirstFeed
