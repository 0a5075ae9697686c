-- Definitions that only private functions and proofs use.
pub mod SoFar
pub mod TraceLaws
pub mod LongestRuns
pub mod ListLaws
