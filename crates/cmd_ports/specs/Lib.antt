-- The dialogue with a running card. Read the modules in this order:
pub mod LineAnswers
pub mod ScriptAnswers
pub mod ClosingText
pub mod PortsText
pub mod inner
