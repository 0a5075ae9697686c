-- Cards with feeders of their own. Read Feeding first: it has what a card does with the arrivals of its feeder. Mixing
-- says that the answers are those of one card that takes the arrivals of all feeders, in every mix of them, and Lanes says
-- the same of the lanes of a call. Queue has a feeder in memory.
pub mod Feeding
pub mod Mixing
pub mod Lanes
pub mod Queue
pub mod inner
