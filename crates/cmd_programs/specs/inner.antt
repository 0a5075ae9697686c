-- Definitions that only private functions and proofs use.
pub mod ReadingLaws
pub mod ProgramLaws
pub mod CellLaws
pub mod CheckLaws
