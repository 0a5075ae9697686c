-- The program `upc`. Read the modules in this order:
pub mod Subcommand
pub mod FailureLines
