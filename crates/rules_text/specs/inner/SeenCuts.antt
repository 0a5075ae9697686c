-- What is cut from a line, in the words of the definitions.
use Rattle.std.specs.Prelude.{Option, Some, None}
use Rattle.rules_text.specs.RuleTokens.{RuleToken, TokenCut}
use Rattle.rules_text.specs.SeenTokens.{rule_token_seen}
use Rattle.rules_text.specs.declared.lexer.Cut.{Cut}
use Rattle.rules_text.specs.declared.lexer.Token.{Token}

-- A token, if there is one.
abbrev pub some_token : Option Token → Option RuleToken
some_token None = None
some_token (Some token) = Some (rule_token_seen token)

-- A token with its size.
abbrev pub cut_seen : Cut → TokenCut
cut_seen cut = record { token = rule_token_seen cut.token; size = cut.size }
