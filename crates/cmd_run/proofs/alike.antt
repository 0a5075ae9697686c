-- Cards that differ only in which cells cuts have returned, in the order of their connections, in lines and in ids.
pub mod SameConnections
pub mod ViewsAlike
pub mod LinesAlike
pub mod CellsAlike
pub mod SetUpAlike
