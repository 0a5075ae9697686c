-- What only private functions and proofs need.
pub mod PlainTests
pub mod MetTests
