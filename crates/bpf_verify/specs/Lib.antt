-- The check of a code. Read the modules in this order. Flats is about the layout for the machine alone.
pub mod Paths
pub mod Accepted
pub mod Faults
pub mod Walks
pub mod Flats
