-- Definitions that only private functions and proofs use.
pub mod Sound
pub mod Ports
pub mod Parts
pub mod ArrivalWays
pub mod Listing
