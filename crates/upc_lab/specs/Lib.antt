-- The program `upc-lab`. Read the modules in this order:
pub mod LabText
pub mod LabMessages
pub mod ShownNames
pub mod Comparison
pub mod ExactRun
pub mod ForwardRun
pub mod ExplainRun
pub mod RulesRun
pub mod SetupHints
pub mod NamedFiles
pub mod LabEffects
pub mod inner
