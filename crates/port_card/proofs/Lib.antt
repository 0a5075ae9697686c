pub mod Columns
pub mod Counting
pub mod Gathering
pub mod Releasing
