-- What a program does with its command line: the words as they are shown, the subcommand that they name or the values of their options,
-- why they give neither, and how the program ends. Read the modules in this order:
pub mod ShownWords
pub mod CommandLines
pub mod Subcommands
pub mod PlainCommands
pub mod Arguments
pub mod Stopping
pub mod Choice
pub mod Notice
pub mod ExitStatus
pub mod Messages
pub mod Invocation
pub mod inner
