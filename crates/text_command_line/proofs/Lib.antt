pub mod Choosing
pub mod PlainWords
pub mod Reading
pub mod SameValues
pub mod Stops
pub mod UpcChoosing
pub mod WordLemmas
