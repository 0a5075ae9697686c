pub mod Answering
pub mod Commands
pub mod LinkLemmas
pub mod CutLemmas
pub mod LabChoosing
