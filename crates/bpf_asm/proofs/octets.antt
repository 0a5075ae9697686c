pub mod OctetTests
pub mod Searches
pub mod LineCuts
pub mod Pieces
pub mod Reading
pub mod Comments
pub mod Decimals
