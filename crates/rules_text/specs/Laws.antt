-- What is proved of the definition itself.
use Rattle.std.specs.Prelude.{◌≡◌, ◌≤◌, ◌<◌, ◌+◌, ℕ, List, [], ◌∷◌, ◌++◌, length, map, Option, Some, None, Ok}
use Rattle.bpf_asm.specs.SourceLines.{source_lines}
use Rattle.bpf_code.specs.declared.instr.Instr.{Instr}
use Rattle.bpf_interp.specs.Value.{Value}
use Rattle.rules_cells.specs.Fields.{IsCell}
use Rattle.rules_cells.specs.declared.deciding.Decision.{Decision}
use Rattle.rules_text.specs.CodeOfText.{IsCodeOfText}
use Rattle.rules_text.specs.ContinuedLines.{feed_count, rule_lines}
use Rattle.rules_text.specs.declared.place.RulePlace.{RulePlace}
use Rattle.rules_text.specs.DecisionsRead.{rules_decide}
use Rattle.rules_text.specs.LineGrammar.{LineContext, nothing_read, line_statement}
use Rattle.rules_text.specs.Names.{NameRead, rule_form}
use Rattle.rules_text.specs.RuleGrammar.{TestFits, TestForm, test_count, test_tokens, test_written}
use Rattle.rules_text.specs.RulesRead.{LineRead, TestRead, block_line, rule_line}
use Rattle.rules_text.specs.RuleTokens.{RuleFound, RuleToken, arrow_mark, open_brace, rule_tokens}
use Rattle.rules_text.specs.Subjects.{value_read}
use Rattle.rules_text.specs.TextOfRules.{PlacedRulesRead, formed_statement, placed_rules_in, rules_in, statement_from}
use Rattle.rules_text.specs.ValuesRead.{FollowsText}

-- A line that has the tokens of a test of the grammar, `->` and a token that is a value is the rule with this test and value, wherever
-- its tokens are, if the numbers fit and the limits are kept.
abbrev pub RulesAreReadAsTheyAreWritten : Type 0
RulesAreReadAsTheyAreWritten =
    (context : LineContext) (found : List RuleFound) (test : TestForm) (token : RuleToken) (value : ℕ)
    → TestFits context context.blocks test → test_count test ≤ 4096 → value_read token ≡ Ok value
    → map (λ it. it.token) found ≡ test_tokens test ++ (arrow_mark ∷ token ∷ [])
    → statement_from context nothing_read 1 found ≡ Ok (line_statement (rule_line (test_written test) value))

-- A line that has the tokens of a test of the grammar and `{` is the head of a block with this test, with the same limits
-- and fewer than 64 open blocks.
abbrev pub HeadsAreReadAsTheyAreWritten : Type 0
HeadsAreReadAsTheyAreWritten =
    (context : LineContext) (found : List RuleFound) (test : TestForm)
    → TestFits context context.blocks test → test_count test ≤ 4096 → context.blocks < 64
    → map (λ it. it.token) found ≡ test_tokens test ++ (open_brace ∷ [])
    → statement_from context nothing_read 1 found ≡ Ok (line_statement (block_line (test_written test)))

-- These tokens are those of a test of the grammar that means this test, `->` and a token that is this value.
pub record IsRuleWritten (tokens : List RuleToken) (read : TestRead) (value : ℕ) : Type 0 where
  pub test : TestForm
  pub token : RuleToken
  pub tokens_are : tokens ≡ test_tokens test ++ (arrow_mark ∷ token ∷ [])
  pub test_is : read ≡ test_written test
  pub value_is : value_read token ≡ Ok value

-- These tokens are those of a test of the grammar that means this test, and `{`.
pub record IsHeadWritten (tokens : List RuleToken) (read : TestRead) : Type 0 where
  pub test : TestForm
  pub tokens_are : tokens ≡ test_tokens test ++ (open_brace ∷ [])
  pub test_is : read ≡ test_written test

-- No other line is a rule: one that is read as a rule has the tokens of a test of the grammar that means the test of the rule, `->` and a
-- token that is its value.
abbrev pub OnlyWrittenRulesAreRead : Type 0
OnlyWrittenRulesAreRead =
    (context : LineContext) (found : List RuleFound) (read : TestRead) (value : ℕ)
    → statement_from context nothing_read 1 found ≡ Ok (line_statement (rule_line read value))
    → IsRuleWritten (map (λ it. it.token) found) read value

-- A line that is read as the head of a block has the tokens of a test of the grammar that means the test of the block, and `{`.
abbrev pub OnlyWrittenHeadsAreRead : Type 0
OnlyWrittenHeadsAreRead =
    (context : LineContext) (found : List RuleFound) (read : TestRead)
    → statement_from context nothing_read 1 found ≡ Ok (line_statement (block_line read))
    → IsHeadWritten (map (λ it. it.token) found) read

-- The column that is printed of a line of rules with these tokens: that of its first token in the source line, where these octets come
-- before the line of rules. None if no octet does.
abbrev pub column_after : List ℕ → List RuleFound → Option ℕ
column_after [] tokens = None
column_after (octet ∷ begun) [] = None
column_after (octet ∷ begun) (first ∷ rest) = Some (length (octet ∷ begun) + first.column)

-- A line of rules of the text is read as this one, and begins at this place.
pub record IsLineReadAt (octets : List ℕ) (place : RulePlace) (read : LineRead) : Type 0 where
  -- the source lines before the one in which the line begins, what stands in that one before the line, and the text from the line on
  pub before : List ℕ
  pub begun : List ℕ
  pub rest : List ℕ
  pub parts : octets ≡ before ++ (begun ++ rest)
  -- the number is that of the source line, counted from 1
  pub lines : source_lines octets ≡ source_lines before ++ source_lines (begun ++ rest)
  pub one_line : feed_count begun ≡ 0
  pub counted : place.line ≡ length (source_lines before) + 1
  -- the line is a line of rules of the text, and the first of the rest
  pub line : List ℕ
  pub earlier : List (List ℕ)
  pub later : List (List ℕ)
  pub rules : rule_lines octets ≡ earlier ++ line ∷ later
  pub first : rule_lines rest ≡ line ∷ later
  -- the column is that of its first token in the source line, if the source line doesn't begin with it
  pub column : place.column ≡ column_after begun (rule_tokens line)
  -- which is read in this way
  pub context : LineContext
  pub names : List NameRead
  pub read_as : formed_statement context names rule_form line 1 (rule_tokens line) ≡ Ok (line_statement read)

-- The lines of rules that begin at these places are read as these lines, one by one, in order.
abbrev pub AreLinesReadAt : List ℕ → List RulePlace → List LineRead → Type 0
AreLinesReadAt octets [] [] = Unit {0}
AreLinesReadAt octets (place ∷ places) (read ∷ lines) = IsLineReadAt octets place read × AreLinesReadAt octets places lines
AreLinesReadAt octets [] (read ∷ lines) = ⊥
AreLinesReadAt octets (place ∷ places) [] = ⊥

-- What is read with places are the rules of the text, each with the place where its line begins.
pub record ArePlacedRules (octets : List ℕ) (placed_rules : PlacedRulesRead) : Type 0 where
  pub rules : rules_in octets ≡ Ok placed_rules.rules
  pub places : AreLinesReadAt octets placed_rules.begins placed_rules.rules.lines

-- For every text, what is read with places is so.
abbrev pub PlacesAreThoseOfTheLines : Type 0
PlacesAreThoseOfTheLines = (octets : List ℕ) (placed_rules : PlacedRulesRead) → placed_rules_in octets ≡ Ok placed_rules → ArePlacedRules octets placed_rules

-- On this cell the machine gives the value that was decided, and no other.
pub record GivesDecided (code : List Instr) (cell : List ℕ) (decision : Decision) : Type 0 where
  pub gives : (steps : ℕ) × Value code cell decision.value steps
  pub only : (value steps : ℕ) → Value code cell value steps → value ≡ decision.value

-- A code that follows a text gives each cell the value that the text's rules decide.
abbrev pub CodeGivesWhatIsDecided : Type 0
CodeGivesWhatIsDecided =
    (octets : List ℕ) (placed_rules : PlacedRulesRead) (code : List Instr) (cell : List ℕ) → placed_rules_in octets ≡ Ok placed_rules → FollowsText octets code → IsCell cell
    → GivesDecided code cell (rules_decide placed_rules.rules cell)

-- Each text has one code.
abbrev pub TextsHaveOneCode : Type 0
TextsHaveOneCode = (octets : List ℕ) (code other : List Instr) → IsCodeOfText octets code → IsCodeOfText octets other → code ≡ other
