-- The cells of a captured link that go on, policed by the contracts of a setup script. Read the modules in this order:
pub mod RecordsWritten
pub mod JudgeRules
pub mod FramesRead
pub mod Forwarding
pub mod Reporting
pub mod ForwardText
pub mod AgreedForward
pub mod ForwardLaws
pub mod inner
