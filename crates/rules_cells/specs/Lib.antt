pub mod Fields
pub mod Tests
pub mod Rules
pub mod Decisions
pub mod Promise
pub mod PlainOf
pub mod inner
