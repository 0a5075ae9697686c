-- What may come next in a line of rules, by the tokens before it.
use Rattle.std.specs.Prelude.{ℕ, Bool, true, false, if◌then◌else◌, nat_lt, List, [], ◌∷◌}
use Rattle.bpf_code.specs.declared.instr.Size.TheVariants.{Word}
use Rattle.cmd_explain_rules.specs.declared.token_parts.Part.{Part}
use Rattle.cmd_explain_rules.specs.declared.token_parts.Part.TheVariants as part
use Rattle.cmd_explain_rules.specs.declared.token_parts.Subject.{Subject}
use Rattle.cmd_explain_rules.specs.declared.token_parts.Subject.TheVariants as about
use Rattle.cmd_explain_rules.specs.declared.spots.Place.{Place}
use Rattle.cmd_explain_rules.specs.declared.spots.Place.TheVariants as here
use Rattle.cmd_explain_rules.specs.declared.spots.Spot.{Spot}
use Rattle.cmd_explain_rules.specs.declared.rule_tokens.RuleWord.{RuleWord}

-- Whether a test may begin at a place.
abbrev pub takes_test : Place → Bool
takes_test here.Start = true
takes_test here.Unit = true
takes_test here.Body = true
takes_test _ = false

-- Whether a number of a list comes at a place. What a new name means may be a list, too.
abbrev pub takes_list : Place → Bool
takes_list here.Relation = true
takes_list here.Sign = true
takes_list here.Low = true
takes_list here.Channel = true
takes_list _ = false

-- What comes after a single number, or a name that means one, at a place that takes no list: an offset, a mask, the number after an order
-- sign, the end of a range, or a value. At any other place that place itself comes.
abbrev pub after_single : Place → Place
after_single here.Offset = here.Relation
after_single here.Mask = here.Sign
after_single here.Constant = here.Operator
after_single here.High = here.Comma
after_single here.Value = here.End
after_single other = other

-- What comes after a number or a name at a place: `of_test` where a test may begin, `of_list` where a number of a list may come, and
-- anywhere else what comes after a single number.
abbrev pub after_value : Place → Place → Place → Place
after_value place of_test of_list =
    if takes_test place then of_test else if takes_list place then of_list else after_single place

-- What comes after a number. A number where a test may begin is a path.
abbrev pub after_number : Place → Place
after_number here.Body = here.Dots
after_number other = after_value other here.Slash here.Dots

-- What comes after a name: it is a test where one may begin, a list where a number of a list may come, and one number where one comes.
abbrev pub after_name : Place → Place
after_name here.Body = here.Comma
after_name here.NewName = here.Equal
after_name other = after_value other here.Operator here.Comma

-- What comes after `=` or `!=`: what a new name means, or a number.
abbrev pub after_equal : Bool → Place → Place
after_equal true here.Equal = here.Body
after_equal false here.Equal = here.Value
after_equal defines other = here.Low

-- What comes after a token, where this came before it. `defines` says whether the line begins with `define`.
abbrev pub place_after : Bool → Place → Part → Place
place_after defines before part.Test = here.Operator
place_after defines before (part.Field compared) = here.Relation
place_after defines before (part.Size size) = here.Offset
place_after defines before part.Not = here.Unit
place_after defines before part.And = here.Unit
place_after defines before part.Or = here.Unit
place_after defines before part.Otherwise = here.Arrow
place_after defines before part.Refuse = here.End
place_after defines before part.Side = here.Side
place_after defines before part.SideName = here.End
place_after defines before part.Define = here.NewName
place_after defines before part.Contract = here.NewName
place_after defines before part.Arrow = here.Value
place_after defines before part.LeftBrace = here.End
place_after defines before part.RightBrace = here.End
place_after defines before part.LeftParenthesis = here.Unit
place_after defines before part.RightParenthesis = here.Operator
place_after defines before part.Mask = here.Mask
place_after defines before part.Comma = here.Low
place_after defines before part.Dots = here.High
place_after defines before part.Slash = here.Channel
place_after defines before part.Star = here.Operator
place_after defines before part.Equal = after_equal defines before
place_after defines before part.Order = here.Constant
place_after defines before part.Number = after_number before
place_after defines before part.Name = after_name before
place_after defines before part.Other = before

-- What numbers after a token are compared with. A new name may mean any numbers.
abbrev pub subject_after : Subject → Part → Subject
subject_after before (part.Field compared) = compared
subject_after before (part.Size size) = about.Octets size
subject_after before part.Not = about.Vpi
subject_after before part.And = about.Vpi
subject_after before part.Or = about.Vpi
subject_after before part.LeftParenthesis = about.Vpi
subject_after before part.Slash = about.Vci
subject_after before part.Define = about.Octets Word
subject_after before _ = before

-- Whether a line begins with `define`.
abbrev pub defines_after : Bool → Part → Bool
defines_after before part.Define = true
defines_after before _ = before

-- The place after a token.
abbrev pub spot_after : Spot → Part → Spot
spot_after spot token = record {
  place = place_after spot.defines spot.place token;
  subject = subject_after spot.subject token;
  defines = defines_after spot.defines token;
}

-- The beginning of a line.
abbrev pub first_spot : Spot
first_spot = record { place = here.Start; subject = about.Vpi; defines = false }

-- What may come at a column, where this may come before these tokens. The tokens in earlier columns decide.
abbrev pub spot_from : ℕ → Spot → List RuleWord → Spot
spot_from column spot [] = spot
spot_from column spot (word ∷ words) =
    if nat_lt word.column column then spot_from column (spot_after spot word.part) words else spot
