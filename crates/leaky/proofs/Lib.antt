-- Lemmas for the laws. Other crates use only Public.
pub mod SchedulingLemmas
pub mod BurstLemmas
pub mod ChargeLemmas
pub mod AgreementLemmas
pub mod ToleranceLemmas
pub mod ExcessLemmas
pub mod Public
