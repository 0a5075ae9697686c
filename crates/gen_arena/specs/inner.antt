-- Definitions that only private functions and proofs use. No public clause cites a module of this folder.
pub mod Boxes
pub mod BlockMemory
pub mod BoxLends
pub mod PlaceRow
pub mod Chain
