-- What a token of a line of rules is.
use Rattle.cmd_explain_rules.specs.declared.token_parts.Part.{Part}
use Rattle.cmd_explain_rules.specs.declared.token_parts.Part.TheVariants as part
use Rattle.cmd_explain_rules.specs.declared.token_parts.Subject.{Subject}
use Rattle.cmd_explain_rules.specs.declared.token_parts.Subject.TheVariants as about
use Rattle.rules_text.specs.RulesRead.{FieldRead, gfc_field, vpi_field, vci_field, pti_field, clp_field, octets_field}
use Rattle.rules_text.specs.RuleTokens.{RuleToken, test_word, not_word, and_word, or_word, otherwise_word, refuse_word, side_word, uni_word, nni_word, define_word, contract_word, name_word, field_word, size_word, number_word, bad_number, arrow_mark, open_brace, close_brace, open_parenthesis, close_parenthesis, mask_mark, comma_mark, dots_mark, slash_mark, star_mark, sign_mark}
use Rattle.rules_text.specs.declared.lexer.Sign.{Sign}
use Rattle.rules_text.specs.declared.lexer.Sign.TheVariants.{Equal as equal_sign, Unequal as unequal_sign}

-- What numbers after a field are compared with.
abbrev pub field_subject : FieldRead → Subject
field_subject gfc_field = about.Gfc
field_subject vpi_field = about.Vpi
field_subject vci_field = about.Vci
field_subject pti_field = about.Pti
field_subject clp_field = about.Clp
field_subject (octets_field size at) = about.Octets size

-- What a sign is: one before a list, or one before a number.
abbrev pub sign_part : Sign → Part
sign_part equal_sign = part.Equal
sign_part unequal_sign = part.Equal
sign_part _ = part.Order

-- What a token is.
abbrev pub part_of : RuleToken → Part
part_of (test_word test) = part.Test
part_of (field_word field) = part.Field (field_subject field)
part_of (size_word size) = part.Size size
part_of not_word = part.Not
part_of and_word = part.And
part_of or_word = part.Or
part_of otherwise_word = part.Otherwise
part_of refuse_word = part.Refuse
part_of side_word = part.Side
part_of uni_word = part.SideName
part_of nni_word = part.SideName
part_of define_word = part.Define
part_of contract_word = part.Contract
part_of arrow_mark = part.Arrow
part_of open_brace = part.LeftBrace
part_of close_brace = part.RightBrace
part_of open_parenthesis = part.LeftParenthesis
part_of close_parenthesis = part.RightParenthesis
part_of mask_mark = part.Mask
part_of comma_mark = part.Comma
part_of dots_mark = part.Dots
part_of slash_mark = part.Slash
part_of star_mark = part.Star
part_of (sign_mark sign) = sign_part sign
part_of (number_word k) = part.Number
part_of bad_number = part.Number
part_of name_word = part.Name
part_of _ = part.Other
