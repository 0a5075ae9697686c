-- The words of a script, the texts of its answers that need no card, and the assignment of its lines. Read the modules in this order:
pub mod ScriptWords
pub mod ScriptCommands
pub mod CommonLine
pub mod CommandSeen
pub mod Rates
pub mod ProgramNames
pub mod ReplyTexts
pub mod CellLine
pub mod Dealing
pub mod inner
