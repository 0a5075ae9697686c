-- A setup script and a capture have one text.
pub mod CommandsAlike
pub mod CellAlike
pub mod AnswersShown
pub mod RunsAlike
pub mod FramesFew
pub mod OneText
pub mod PolicedAlike
