pub mod FedLemmas
pub mod MixLemmas
pub mod LaneLemmas
