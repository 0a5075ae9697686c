-- Definitions that only private functions and proofs use.
pub mod Progress
pub mod FixedRules
pub mod LinkClocks
pub mod Answered
pub mod Ahead
