pub mod octets
pub mod cuts
pub mod spellings
pub mod drafts
pub mod totality
pub mod meanings
pub mod listings
pub mod Public
