-- The explanation of a fault of a text of rules: its source line, the column of the token that is wrong, and a sentence.
use Rattle.std.specs.Prelude.{ℕ, ◌==◌, ◌-◌, if◌then◌else◌, nat_lt, List, [], ◌∷◌, ◌++◌, codes, decimal, unwrap_or, Option, Some, None}
use Rattle.cmd_explain_rules.specs.MeantWords.{unknown_word_sentence}
use Rattle.cmd_explain_rules.specs.NearNames.{near_name}
use Rattle.cmd_explain_rules.specs.Reasons.{expected, number_reason, offsets, reason, too_large_words}
use Rattle.cmd_explain_rules.specs.RuleLines.{column_within, depth_before, depth_from, giving_line, line_holding, word_at}
use Rattle.cmd_explain_rules.specs.Spots.{first_spot, spot_from}
use Rattle.cmd_explain_rules.specs.WordsFound.{rule_word_octets, words_found}
use Rattle.cmd_explain_rules.specs.declared.token_parts.Part.{Part}
use Rattle.cmd_explain_rules.specs.declared.token_parts.Part.TheVariants as part
use Rattle.cmd_explain_rules.specs.declared.spots.Place.{Place}
use Rattle.cmd_explain_rules.specs.declared.spots.Place.TheVariants as here
use Rattle.cmd_explain_rules.specs.declared.spots.Spot.{Spot}
use Rattle.cmd_explain_rules.specs.declared.rule_tokens.RuleWord.{RuleWord}
use Rattle.cmd_explain_script.specs.Places.{place_words, quoted}
use Rattle.rules_text.specs.ContinuedLines.{line_begin, rule_lines}
use Rattle.rules_text.specs.declared.fault.RuleFault.{RuleFault}
use Rattle.rules_text.specs.declared.fault.RuleFaultKind.{RuleFaultKind}
use Rattle.rules_text.specs.declared.fault.RuleFaultKind.TheVariants as kind
use Rattle.rules_text.specs.declared.place.TextPlace.{TextPlace}
use Rattle.text_words.specs.FaultLines.{line}

-- The sentence about a token that doesn't fit, for this reason.
abbrev pub misfit_sentence : List ℕ → List ℕ → List ℕ
misfit_sentence octets why = quoted octets ++ (codes " doesn't fit here; " ++ why)

-- The sentence about a line that ends too early.
abbrev pub early_end_sentence : Spot → List ℕ
early_end_sentence spot = codes "the line ends too early; " ++ expected spot.defines spot.place

-- The sentence about a token that doesn't fit, or about a line that ends too early.
abbrev pub rule_misfit_sentence : Spot → List ℕ → Part → List ℕ
rule_misfit_sentence spot [] token = early_end_sentence spot
rule_misfit_sentence spot (octet ∷ rest) token =
    misfit_sentence (octet ∷ rest) (reason spot.defines spot.place token (octet ∷ rest))

-- The sentence about a word that is no number.
abbrev pub no_rule_number_sentence : List ℕ → List ℕ
no_rule_number_sentence word =
    quoted word ++ codes " is no number; a number has decimal digits, or hexadecimal digits after 0x, and is at most 4294967295"

-- The sentence about a number that is too large.
abbrev pub too_large_sentence : Spot → List ℕ → Part → List ℕ
too_large_sentence spot octets token = quoted octets ++ (too_large_words token ++ number_reason spot)

-- The sentence about octets that aren't all in a cell.
abbrev pub outside_sentence : Spot → List ℕ
outside_sentence spot = codes "a cell has the octets 0 to 51; " ++ offsets spot.subject

-- The sentence about a parenthesis or a block without its other end. This many parentheses are open where the test of the line ends.
abbrev pub unbalanced_sentence : Part → ℕ → List ℕ
unbalanced_sentence part.RightParenthesis depth = codes "no `(` is open here"
unbalanced_sentence part.RightBrace depth = codes "no block is open here"
unbalanced_sentence _ depth =
    if nat_lt 0 depth then codes "this `(` isn't closed; its `)` comes before the test ends" else codes "this block isn't closed; a `}` ends it"

-- The sentence about a line that is too long.
abbrev pub too_long_sentence : Place → List ℕ
too_long_sentence here.NewName = codes "a name means at most 4096 tokens, and a text gives at most 4096 names"
too_long_sentence _ = codes "a test has at most 4096 comparisons and words, and names add at most 262144 tokens to a text"

-- The sentence about a name that the source line of this number gives.
abbrev pub given_sentence : List ℕ → ℕ → List ℕ
given_sentence name number = quoted name ++ (codes " is given by line " ++ (decimal number ++ codes "; a name is given once"))

-- The sentence about a name that is taken: by the line that gives it, or by the language.
abbrev pub taken_sentence : List ℕ → Part → Option ℕ → List ℕ
taken_sentence name part.Name found = given_sentence name (unwrap_or found 0)
taken_sentence name _ found = quoted name ++ codes " is a word of rules, and no name"

-- The sentence about a fault of this kind at this place, on a line with this content, at this token of these octets.
abbrev pub rule_sentence : List (List ℕ) → RuleFaultKind → TextPlace → List ℕ → Spot → List ℕ → Part → List ℕ
rule_sentence lines kind.BadLine fault content spot octets token = rule_misfit_sentence spot octets token
rule_sentence lines kind.BadNumber fault content spot octets token = no_rule_number_sentence octets
rule_sentence lines kind.TooLarge fault content spot octets token = too_large_sentence spot octets token
rule_sentence lines kind.OutsideCell fault content spot octets token = outside_sentence spot
rule_sentence lines kind.AfterOtherwise fault content spot octets token = codes "no line comes after `otherwise`"
rule_sentence lines kind.Unbalanced fault content spot octets token = unbalanced_sentence token (depth_from 0 (words_found content))
rule_sentence lines kind.TooDeep fault content spot octets token = codes "at most 64 blocks and parentheses are open at once"
rule_sentence lines kind.TooLong fault content spot octets token = too_long_sentence spot.place
rule_sentence lines kind.NoMemory fault content spot octets token = []
rule_sentence lines kind.UnknownName fault content spot octets token =
    unknown_word_sentence spot octets (near_name spot.place octets fault (line_begin 1) lines)
rule_sentence lines kind.NameTaken fault content spot octets token = taken_sentence octets token (giving_line octets (line_begin 1) lines)

-- The column of a fault, if there is a token.
abbrev pub rule_word_column : ℕ → Option RuleWord → Option ℕ
rule_word_column column None = None
rule_word_column column (Some word) = Some column

-- The octets of a token, if there is one.
abbrev pub blamed_octets : List ℕ → Option RuleWord → List ℕ
blamed_octets text None = []
blamed_octets text (Some word) = rule_word_octets text word

-- What a token is, if there is one.
abbrev pub part_blamed : Option RuleWord → Part
part_blamed None = part.Other
part_blamed (Some word) = word.part

-- Where a fault is.
abbrev pub place_of_fault : RuleFault → TextPlace
place_of_fault fault = record { line = fault.line; column = fault.column }

-- What is added where a token doesn't fit, or the line ends too early, while this many parentheses are open.
abbrev pub inside_words : RuleFaultKind → ℕ → List ℕ
inside_words kind.BadLine depth = if nat_lt 0 depth then codes "; a `(` is open here" else []
inside_words _ depth = []

-- The explanation of a fault on a line of rules with this content and these tokens, at this column of it.
abbrev pub placed_explanation : List (List ℕ) → RuleFault → ℕ → List ℕ → List RuleWord → List ℕ
placed_explanation lines fault column content words =
    place_words fault.line (rule_word_column fault.column (word_at column words))
    ++ line
    (rule_sentence lines fault.kind (place_of_fault fault) content (spot_from column first_spot words) (blamed_octets content (word_at column words))
    (part_blamed (word_at column words))
    ++ inside_words fault.kind (depth_before column 0 words))

-- The explanation of a fault on a line of rules. `held` is the place where the line begins, and the line.
abbrev pub explanation_within : List (List ℕ) → RuleFault → TextPlace × List ℕ → List ℕ
explanation_within lines fault held =
    placed_explanation lines fault (column_within held.1 held.0 (place_of_fault fault)) held.1 (words_found held.1)

-- The sentence about a code that is too long.
abbrev pub long_code_sentence : List ℕ
long_code_sentence = codes "the code of these rules has more than 4096 instructions"

-- The explanation of a fault of a text of rules. A code that is too long has no line.
abbrev pub rule_explanation : List ℕ → RuleFault → List ℕ
rule_explanation text fault =
    if fault.line == 0 then line long_code_sentence
    else explanation_within (rule_lines text) fault (line_holding (line_begin 1) (rule_lines text) fault.kind (place_of_fault fault))
