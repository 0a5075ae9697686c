-- The running card: its ledgers, the data behind its locks, its answers and its close. Read Names, Seats, Keeping,
-- Answers and Closing in this order.
pub mod Names
pub mod Seats
pub mod Keeping
pub mod Answers
pub mod Closing
pub mod inner
