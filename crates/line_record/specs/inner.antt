-- Definitions that only private functions and proofs use.
pub mod SeatingChanges
pub mod Seats
pub mod SeatsView
pub mod LineFields
pub mod HeldLines
pub mod FirstFree
pub mod ProgramUses
pub mod DirectoryFields
