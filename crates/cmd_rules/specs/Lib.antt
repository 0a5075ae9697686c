-- The subcommands `rules`, `asm` and `why` of `upc-lab`. Read the modules in this order:
pub mod RuleFaults
pub mod RuleBegins
pub mod RulesAnswers
pub mod RulesText
pub mod RulesLaws
pub mod CommentLines
pub mod AsmText
pub mod AsmLaws
pub mod CountText
pub mod WhyText
pub mod WhyLaws
pub mod inner
