pub mod LineOrFault
pub mod LinesOrFault
pub mod LabelOrUnknown
pub mod DanglingOrNone
pub mod OffsetOrFault
pub mod CodeOrFault
