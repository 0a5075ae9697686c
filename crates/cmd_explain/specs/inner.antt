-- Definitions that only private functions and proofs use.
pub mod FaultsTotal
pub mod FirstLines
pub mod Leading
pub mod SourcesTotal
