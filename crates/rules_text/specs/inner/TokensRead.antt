-- Tokens that are read at one place.
use Rattle.std.specs.Prelude.{ℕ, List, [], ◌∷◌, Result, Ok}
use Rattle.rules_text.specs.LineGrammar.{LineContext, Reading, read_token}
use Rattle.rules_text.specs.RuleTokens.{RuleToken}
use Rattle.rules_text.specs.TextOfRules.{fault_column, fault_in_line, read_then}
use Rattle.rules_text.specs.declared.fault.RuleFault.{RuleFault}

-- A token at this place.
abbrev pub token_read : LineContext → ℕ → Reading → RuleToken → Result Reading RuleFault
token_read context column reading token =
    read_then (read_token context column reading token) (λ kind. fault_in_line (fault_column reading kind column) kind) (λ next. Ok next)

-- Tokens at this place.
abbrev pub all_tokens_read : LineContext → ℕ → Reading → List RuleToken → Result Reading RuleFault
all_tokens_read context column reading [] = Ok reading
all_tokens_read context column reading (token ∷ rest) =
    read_then (token_read context column reading token) (λ fault. fault) (λ next. all_tokens_read context column next rest)
