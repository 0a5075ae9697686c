pub mod Connection
pub mod Header
pub mod Side
pub mod Tagged
