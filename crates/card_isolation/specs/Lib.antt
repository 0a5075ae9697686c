-- The own events of one connection in a log, and the law that nothing else in the log changes their outcomes. Read Act,
-- Outcome, OwnEvents, OwnCells, ByArrival, Isolation and Restriction, in this order.
pub mod Act
pub mod Outcome
pub mod OwnEvents
pub mod OwnCells
pub mod ByArrival
pub mod Isolation
pub mod Restriction
