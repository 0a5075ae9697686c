-- The lines of a script and of its answers that are about a card. Read the modules in this order:
pub mod CardLine
pub mod CardFaults
pub mod Replies
pub mod AddsSome
