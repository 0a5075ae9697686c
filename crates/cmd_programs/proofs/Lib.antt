pub mod CellLineLemmas
pub mod LaterLines
pub mod OneProgramText
pub mod OneText
pub mod CheckText
pub mod Public
