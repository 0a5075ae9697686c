pub mod CellNumbers
pub mod Cases
pub mod ComparedCases
pub mod UnusedRules
pub mod inner
