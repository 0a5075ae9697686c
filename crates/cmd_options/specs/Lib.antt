-- The words of `upc-lab`: its subcommands, the options of those that have them, and what it says beside its answers. Read the modules in this order:
pub mod OptionAnswers
pub mod OptionValues
pub mod LinkOption
pub mod CellsOptions
pub mod FitOptions
pub mod PoliceOptions
pub mod ForwardOptions
pub mod DifferOptions
pub mod WhyOptions
pub mod ExplainOptions
pub mod LabWords
pub mod LabNotices
pub mod FailureLines
pub mod Progress
pub mod inner
