-- A capture that is forwarded has one output and one report.
pub mod FramesOnce
pub mod OneOutput
