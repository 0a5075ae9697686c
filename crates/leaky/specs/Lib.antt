-- Traffic control for one stream of cells, in the words of ITU-T I.371, annex A.
pub mod Moments
pub mod Bucket
pub mod Scheduling
pub mod Bursts
pub mod Contract
pub mod Arrivals
pub mod KeptState
pub mod Excess
pub mod Tolerance
pub mod Equality
pub mod Faults
pub mod Laws
pub mod inner
