pub mod Progresses
pub mod CellTexts
pub mod CellsOfOctets
pub mod FixedTexts
mod Inverses
pub mod ReadingLemmas
pub mod AdvanceLemmas
pub mod FillsAheadLemmas
pub mod QueueProgress
pub mod CaptureTexts
pub mod CapturedLemmas
pub mod Public
