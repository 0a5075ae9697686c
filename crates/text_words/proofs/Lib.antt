pub mod HexadecimalLemmas
pub mod CellWordLemmas
pub mod DigitLemmas
pub mod Public
