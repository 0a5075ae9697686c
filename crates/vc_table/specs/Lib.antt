-- The line of each virtual connection.
pub mod Lines
pub mod inner
