-- The card with whole histories, its steps, its logs, and the agreement of a core with it. Headline has the promise of the
-- card. It uses World, Refusals, Steps, Log, Judged and Returning; read them in this order, then Headline. Agreement,
-- Arrival and Kept tie a core to its world. Inspection, ConnectionState and Sums have the reads of a core without a step,
-- Laws the laws beside the headline.
pub mod World
pub mod Refusals
pub mod Steps
pub mod Log
pub mod Shapes
pub mod PortReplies
pub mod DeskReplies
pub mod Agreement
pub mod Arrival
pub mod Inspection
pub mod ConnectionState
pub mod Sums
pub mod Stale
pub mod Judged
pub mod Returning
pub mod Headline
pub mod Laws
pub mod Sections
pub mod Kept
pub mod inner
