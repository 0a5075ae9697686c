-- Definitions that only private functions and proofs use.
pub mod CardSteps
pub mod PortZero
pub mod Policing
pub mod RunLaws
