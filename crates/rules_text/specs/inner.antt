pub mod SeenCuts
pub mod SeenReading
pub mod SeenFaults
pub mod TokensRead
pub mod SeenNames
pub mod SeenNameTable
pub mod SeenLines
