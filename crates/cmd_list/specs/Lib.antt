-- The subcommands of `upc-lab` for those who write programs. Read the modules in this order:
pub mod Comments
pub mod Trace
pub mod LongestRun
pub mod ListedProgram
pub mod OneOutput
pub mod inner
