-- Definitions that only private functions and proofs use.
pub mod DueStates
pub mod PoliceShown
pub mod PoliceTotal
pub mod Expansion
pub mod Preparing
