-- Instructions and the octets that spell them. Read the modules in this order. Flow, Operands and Scratch are for the crates that use
-- this one.
pub mod Table
pub mod Fields
pub mod OctetSpelling
pub mod Decoding
pub mod Encoding
pub mod Widths
pub mod EarlierTable
pub mod Flow
pub mod Operands
pub mod Scratch
