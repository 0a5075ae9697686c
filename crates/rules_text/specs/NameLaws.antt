-- What is proved of the tokens that names add.
use Rattle.std.specs.Prelude.{◌≡◌, ◌≤◌, ℕ, ◌+◌, Bool, true, false, List, [], ◌∷◌, length, Option, Some, None, Ok}
use Rattle.rules_text.specs.LineGrammar.{LineContext, StatementRead, may_be_name}
use Rattle.rules_text.specs.Names.{FormRead, NameRead, expanded, letters_of, name_meaning, room_left}
use Rattle.rules_text.specs.RuleTokens.{RuleFound, RuleToken}
use Rattle.rules_text.specs.TextOfRules.{formed_statement}

-- The tokens of a name, if it was given.
abbrev pub tokens_given : Option (List RuleToken) → List RuleToken
tokens_given None = []
tokens_given (Some tokens) = tokens

-- The tokens that a word means.
abbrev pub tokens_of_word : Bool → Option (List RuleToken) → List RuleToken
tokens_of_word false meaning = []
tokens_of_word true meaning = tokens_given meaning

-- The tokens that a token means, however many names may add.
abbrev pub tokens_meant : List NameRead → List ℕ → RuleFound → List RuleToken
tokens_meant names line found = tokens_of_word (may_be_name found.token) (name_meaning names (letters_of line found))

-- How many tokens the names in a line add.
unfoldable pub tokens_added : List NameRead → List ℕ → List RuleFound → ℕ
tokens_added names line [] = 0
tokens_added names line (found ∷ rest) = length (tokens_meant names line found) + tokens_added names line rest

-- A line without a fault adds the tokens that its names mean, and no more than names may: the number that they may add before the line is
-- the number that they add in it plus the number that they may add after it.
abbrev pub LinesAddWhatNamesMean : Type 0
LinesAddWhatNamesMean =
    (context : LineContext) (names : List NameRead) (form : FormRead) (line : List ℕ) (column : ℕ) (tokens : List RuleFound) (statement : StatementRead)
    → formed_statement context names form line column tokens ≡ Ok statement
    → room_left names context.room line tokens + tokens_added names line tokens ≡ context.room

-- If names may add at least as many tokens as they do in a line, how many more they may add changes nothing of what is read.
abbrev pub RoomIsNoLimitWithin : Type 0
RoomIsNoLimitWithin =
    (names : List NameRead) (room other : ℕ) (form : FormRead) (line : List ℕ) (column : ℕ) (tokens : List RuleFound)
    → tokens_added names line tokens ≤ room → tokens_added names line tokens ≤ other
    → expanded names room form line column tokens ≡ expanded names other form line column tokens
