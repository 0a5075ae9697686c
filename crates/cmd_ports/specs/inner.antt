-- Definitions that only private functions and proofs use.
pub mod ReadingLaws
pub mod Reading
pub mod FirstLines
pub mod Answered
pub mod Arrivals
pub mod DeskTexts
pub mod AtOnce
pub mod InOrder
pub mod Rest
pub mod Script
