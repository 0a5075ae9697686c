-- Definitions that only private functions and proofs use.
pub mod Answered
pub mod LabAnswers
pub mod ReasonedLine
pub mod ProgressText
