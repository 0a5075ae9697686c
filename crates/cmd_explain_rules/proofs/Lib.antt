pub mod Enough
pub mod HintedAnswers
pub mod Joined
pub mod Public
pub mod RulesAnswered
