pub mod Bits
pub mod Spans
pub mod Means
pub mod Chains
pub mod Follows
pub mod DecisionSteps
pub mod MetTests
