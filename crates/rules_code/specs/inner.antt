-- What only private functions and proofs need.
pub mod Making
pub mod Coding
pub mod Suffixes
pub mod Held
pub mod Joining
pub mod Chains
