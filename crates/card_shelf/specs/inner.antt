-- Definitions for private functions and proofs alone.
pub mod Rest
pub mod Cards
pub mod Places
pub mod Gathered
pub mod Retiring
pub mod Rooms
