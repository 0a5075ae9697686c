pub mod IncrementLemmas
pub mod PointLemmas
pub mod SenderLemmas
pub mod SizesFound
pub mod SetupLemmas
pub mod SetupTakes
pub mod OneText
pub mod Public
