-- The answers of the machine in the tests.
pub mod Parity
