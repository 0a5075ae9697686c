-- The subcommands `differ` and `unused`. Read the modules in this order:
pub mod Findings
pub mod ProgramText
pub mod Sides
pub mod ChangeLines
pub mod DifferText
pub mod DifferLaws
pub mod UnusedText
pub mod UnusedLaws
pub mod OneAnswer
pub mod inner
