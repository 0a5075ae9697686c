-- Definitions that only private functions and proofs use.
pub mod FitShown
pub mod FlowPlaces
pub mod GivenValues
pub mod LinkStates
pub mod LinksSteps
pub mod RulesHeld
