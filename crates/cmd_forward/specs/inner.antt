-- Definitions that only private functions and proofs use.
pub mod ForwardSteps
pub mod ForwardTotal
