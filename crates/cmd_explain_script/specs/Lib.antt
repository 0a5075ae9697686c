-- The faults of scripts, explained. Read the modules in this order:
pub mod Places
pub mod Meant
pub mod Tables
pub mod FoundWords
pub mod ScriptForms
pub mod CommandFits
pub mod ScriptFaults
pub mod WrongWords
pub mod ScriptReasons
pub mod ContractNumbers
pub mod LoadedPrograms
pub mod SetupHints
pub mod ScriptText
pub mod AsRun
pub mod ExplanationLaws
pub mod inner
