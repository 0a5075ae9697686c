pub mod Cuts
pub mod Peeks
pub mod FirstWords
pub mod TokenCuts
