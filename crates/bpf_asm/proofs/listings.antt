pub mod Leaving
pub mod Places
pub mod Rows
pub mod ListingSteps
pub mod ListedRows
pub mod Apart
pub mod RoundTrip
