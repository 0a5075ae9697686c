pub mod ArrivalLemmas
pub mod PathLemmas
pub mod LineLemmas
pub mod MovesLemmas
pub mod PolicingLemmas
pub mod one_script
pub mod alike
pub mod Public
