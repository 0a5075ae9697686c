-- What is around octets of lines, in the words of the definitions.
use Rattle.std.specs.Prelude.{ℕ, suc, Bool, true, false, if◌then◌else◌, List, [], ◌∷◌}
use Rattle.rules_text.specs.ContinuedLines.{Enclosing, around_next, ends_rule_line}
use Rattle.rules_text.specs.RuleTokens.{before_feed}
use Rattle.rules_text.specs.declared.continued_lines.Around.{Around}

-- What is around an octet.
abbrev pub around_seen : Around → Enclosing
around_seen around = record { parentheses = around.parentheses; comment = around.comment }

-- How many octets the first line of rules has, which goes on here.
unfoldable pub line_size : Enclosing → List ℕ → ℕ
line_size around [] = 0
line_size around (octet ∷ rest) = if ends_rule_line around octet rest then 1 else suc (line_size (around_next around octet) rest)

-- How many octets no token has, where a comment has begun or not.
abbrev pub skipped : Bool → List ℕ → ℕ
skipped true octets = before_feed octets
skipped false octets = 0
