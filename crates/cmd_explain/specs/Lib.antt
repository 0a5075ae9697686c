-- Inputs, explained. Read the modules in this order:
pub mod FoundTokens
pub mod Forms
pub mod LinesFound
pub mod BadLines
pub mod SourceReasons
pub mod CodePaths
pub mod CodeReasons
pub mod SourceHints
pub mod FaultSentences
pub mod InputKinds
pub mod Explained
pub mod AsCheck
pub mod inner
