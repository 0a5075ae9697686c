-- Definitions that only proofs and the model of a type use.
pub mod Numbered
pub mod Hidden
pub mod ReachedCore
pub mod HandOut
pub mod WrittenState
pub mod CellsOnCore
pub mod WithCore
