-- The hints about a text of rules that a run prints beside its answer. Each hint is a line that begins with the same octets (`front`).
use Rattle.std.specs.Prelude.{◌≡◌, ◌⊎◌, ℕ, List, [], ◌++◌, codes, Option, MatchOption, Result, Ok, Err}
use Rattle.cmd_explain_rules.specs.RuleHints.{AreRuleHints}
use Rattle.cmd_explain_rules.specs.declared.hint_comments.Comments.{Comments}
use Rattle.cmd_explain_rules.specs.declared.hint_comments.Comments.TheVariants.{Made, NoMemory}
use Rattle.cmd_rules.specs.RulesAnswers.{most_rules_octets}
use Rattle.rules_text.specs.TextOfRules.{PlacedRulesRead, placed_rules_in}
use Rattle.rules_text.specs.declared.fault.RuleFault.{RuleFault}
use Rattle.text_io.specs.Gathered.{gathered}

-- The hints about what was read of a text. A text with a fault has none.
abbrev pub AreHintsOn : List ℕ → Result PlacedRulesRead RuleFault → List ℕ → Type 0
AreHintsOn front (Ok placed_rules) hints = AreRuleHints front placed_rules hints
AreHintsOn front (Err fault) hints = hints ≡ []

-- The hints about a text that was found. A text over the limit has none.
abbrev pub AreHintsFound : List ℕ → Option (List ℕ) → List ℕ → Type 0
AreHintsFound front found hints = MatchOption found (hints ≡ []) (λ text. AreHintsOn front (placed_rules_in text) hints)

-- The hints about a text of rules.
abbrev pub AreHintsAbout : List ℕ → List ℕ → List ℕ → Type 0
AreHintsAbout front octets hints = AreHintsFound front (gathered most_rules_octets octets) hints

-- What comes before the hint of a comment.
abbrev pub comment_front : List ℕ
comment_front = codes "# "

-- What is said if no memory was left for the comments.
abbrev pub no_memory_comment : List ℕ
no_memory_comment = comment_front ++ codes "hint: not decided: out of memory\n"

-- The text of the comments, or that no memory was left for them.
abbrev pub text_of_comments : Comments → List ℕ
text_of_comments (Made text) = text.items
text_of_comments NoMemory = no_memory_comment

-- The comments about a text of rules, or that no memory was left for them.
abbrev pub MayBeHintComments : List ℕ → List ℕ → Type 0
MayBeHintComments octets comments = AreHintsAbout comment_front octets comments ⊎ (comments ≡ no_memory_comment)
