-- Definitions that only private functions and proofs use.
pub mod CountsSince
pub mod NotedSetups
pub mod SetUpCard
pub mod CardArrival
pub mod TimedScripts
pub mod CommandsShown
pub mod CommandLaws
pub mod ExcessLeft
pub mod SpansShown
pub mod Ticks
