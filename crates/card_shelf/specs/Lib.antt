-- Cards that share nothing. Read Dealing, Shelf and Policing first. Room has the room that a caller lends, and Programs a
-- program on every card or on none. Own has what each card does, and Logs what that adds to its log. OneCard says that the
-- answers are those of one card with all the connections. Calls has each call at a shelf and at one card, and Life says
-- that the outcomes are the same, whatever calls both take. Sums has the sums of all counts.
pub mod Dealing
pub mod Shelf
pub mod Policing
pub mod Room
pub mod Programs
pub mod Own
pub mod Logs
pub mod OneCard
pub mod Calls
pub mod Life
pub mod Sums
pub mod inner
