-- Sources of assembly and listings. Read the modules in this order.
pub mod SourceLines
pub mod Tokens
pub mod Numbers
pub mod StatementSpelling
pub mod Grammar
pub mod Labels
pub mod Meaning
pub mod Faults
pub mod Listing
pub mod inner
