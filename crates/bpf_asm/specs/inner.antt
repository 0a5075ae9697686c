-- Definitions that only private functions and proofs use.
pub mod Drafts
pub mod Feeds
pub mod Pending
pub mod LabelPlaces
pub mod LineTokens
pub mod Reading
pub mod Seen
pub mod Counts
pub mod Staying
pub mod WordRuns
pub mod OperandWidths
