-- What a line of the card records of the connection that it serves, and which line serves which connection.
pub mod Tally
pub mod History
pub mod JournalRun
pub mod StateAfter
pub mod Line
pub mod Piece
pub mod Seatings
pub mod Directory
pub mod Charges
pub mod Laws
pub mod inner
