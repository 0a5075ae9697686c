-- What only private functions and proofs need.
pub mod Turns
pub mod SoFar
