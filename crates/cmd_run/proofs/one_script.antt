-- A script has one run text.
pub mod OpenPlaces
pub mod Numbers
pub mod Seen
pub mod SeenPrograms
pub mod SeenConnections
pub mod SeenCells
pub mod HoldsAfter
pub mod ProgramSteps
pub mod ConnectionSteps
pub mod RecordSteps
pub mod CellCases
pub mod CellSteps
pub mod CellAnswers
pub mod SeenLines
pub mod OneAnswer
pub mod OneScript
