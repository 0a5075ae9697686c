-- Definitions that only private functions and proofs use.
pub mod WhyTotal
pub mod Counted
pub mod RulesTaken
pub mod Places
pub mod PrintedAs
pub mod Comments
