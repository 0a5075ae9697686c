-- Texts of rules, explained. Read the modules in this order:
pub mod Parts
pub mod WordsFound
pub mod Spots
pub mod Reasons
pub mod RuleLines
pub mod NearNames
pub mod MeantWords
pub mod RuleReasons
pub mod RuleHints
pub mod HintComments
pub mod RulesExplained
pub mod inner
