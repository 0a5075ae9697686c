-- The tokens of the code, in the words of the definitions.
use Rattle.std.specs.Prelude.{◌+◌}
use Rattle.rules_text.specs.RulesRead.{TestRead, any_cell, f5_cell, user_cell, field_read}
use Rattle.rules_text.specs.RuleTokens.{RuleFound, RuleToken, test_word, not_word, and_word, or_word, otherwise_word, refuse_word, side_word, uni_word, nni_word, define_word, contract_word, name_word, contract_value, no_room, field_word, size_word, number_word, bad_number, arrow_mark, open_brace, close_brace, open_parenthesis, close_parenthesis, mask_mark, comma_mark, dots_mark, slash_mark, star_mark, sign_mark, no_token}
use Rattle.rules_text.specs.TestWords.{cell_of_channel, cell_of_type, f4_cell, oam_cell, idle_cell}
use Rattle.rules_text.specs.declared.class.Class.{Class}
use Rattle.rules_text.specs.declared.class.Class.TheVariants as class
use Rattle.rules_text.specs.declared.lexer.Found.{Found}
use Rattle.rules_text.specs.declared.lexer.Token.{Token}
use Rattle.rules_text.specs.declared.lexer.Token.TheVariants as token

-- The test that a word is.
abbrev pub class_seen : Class → TestRead
class_seen class.Any = any_cell
class_seen class.User = user_cell
class_seen class.Oam = oam_cell
class_seen class.F4 = f4_cell
class_seen class.F4Segment = cell_of_channel 3
class_seen class.F4End = cell_of_channel 4
class_seen class.F5 = f5_cell
class_seen class.F5Segment = cell_of_type 4
class_seen class.F5End = cell_of_type 5
class_seen class.Rm = cell_of_type 6
class_seen class.MetaSignalling = cell_of_channel 1
class_seen class.Broadcast = cell_of_channel 2
class_seen class.Signalling = cell_of_channel 5
class_seen class.Ilmi = cell_of_channel 16
class_seen class.Idle = idle_cell

-- A token of the code as a token of the definitions.
abbrev pub rule_token_seen : Token → RuleToken
rule_token_seen (token.Test class) = test_word (class_seen class)
rule_token_seen token.Not = not_word
rule_token_seen token.And = and_word
rule_token_seen token.Or = or_word
rule_token_seen token.Otherwise = otherwise_word
rule_token_seen token.Refuse = refuse_word
rule_token_seen token.Side = side_word
rule_token_seen token.Uni = uni_word
rule_token_seen token.Nni = nni_word
rule_token_seen token.Define = define_word
rule_token_seen token.Contract = contract_word
rule_token_seen token.Name = name_word
rule_token_seen (token.Value k) = contract_value k
rule_token_seen token.NoRoom = no_room
rule_token_seen (token.Field field) = field_word (field_read field)
rule_token_seen (token.Octets size) = size_word size
rule_token_seen (token.Number k) = number_word k
rule_token_seen token.BadNumber = bad_number
rule_token_seen token.Arrow = arrow_mark
rule_token_seen token.LeftBrace = open_brace
rule_token_seen token.RightBrace = close_brace
rule_token_seen token.LeftParenthesis = open_parenthesis
rule_token_seen token.RightParenthesis = close_parenthesis
rule_token_seen token.Mask = mask_mark
rule_token_seen token.Comma = comma_mark
rule_token_seen token.Dots = dots_mark
rule_token_seen token.Slash = slash_mark
rule_token_seen token.Star = star_mark
rule_token_seen (token.Sign sign) = sign_mark sign
rule_token_seen token.Unknown = no_token

-- A token in its line. The code counts columns from 0.
abbrev pub found_seen : Found → RuleFound
found_seen found = record { token = rule_token_seen found.token; column = found.start + 1; after = found.end + 1 }
