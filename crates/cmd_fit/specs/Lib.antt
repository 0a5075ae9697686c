-- The links of a capture, and the least limit of each connection of one.
pub mod Flows
pub mod Fits
pub mod FitText
pub mod RulesGiven
pub mod FitAsked
pub mod FitLaws
pub mod LinkTallies
pub mod LinksText
pub mod LinkLaws
pub mod inner
