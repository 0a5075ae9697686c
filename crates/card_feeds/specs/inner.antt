-- Definitions for private functions and proofs alone.
pub mod SoFar
pub mod Queues
