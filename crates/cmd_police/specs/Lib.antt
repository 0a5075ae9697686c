-- The cells of a captured link, policed by the contracts of a setup script. Read the modules in this order:
pub mod RuleColumn
pub mod PoliceLines
pub mod PoliceText
pub mod PoliceLaws
pub mod SpanLaws
pub mod RulesFiles
pub mod LoadedRules
pub mod StoredRules
pub mod SetupPrograms
pub mod FaultyRules
pub mod PreparedSetups
pub mod SetupText
pub mod SetupLaws
pub mod PolicedCards
pub mod ExplainedSetups
pub mod inner
