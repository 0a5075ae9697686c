-- The values of arguments in the words.
use Rattle.std.proofs.Common.{◌≡◌, ◌∙◌, ap, ap₂, refl, sym, List, [], ◌∷◌, Option, fold, map, Result, true}
use Rattle.clap.specs.Faults.{fault_of, is_simple_and_free}
use Rattle.clap.specs.Kinds.{FailsBy}
use Rattle.clap.specs.Matches.{first_value, found_of}
use Rattle.clap.specs.Simple.{App, HasMatchesOf, new_app, with_rule}
use Rattle.clap.specs.Walk.{Rule, Text}
use Rattle.clap.specs.declared.error.Error.{Error}
use Rattle.clap.specs.declared.parser.matches.ArgMatches.{ArgMatches}
use Rattle.text_command_line.specs.Arguments.{app_of_options, app_with_rules, rule_of_argument, texts_by, texts_in}
use Rattle.text_command_line.specs.CommandLines.{kinds_in, named_words, argument_value}
use Rattle.text_command_line.specs.declared.arguments.Argument.{Argument}
use Rattle.text_command_line.specs.declared.arguments.Options.{Options}
use Rattle.text_command_line.proofs.Reading.{is_simple_too, kinds_at, value_at}

-- The values of arguments by two functions that agree.
same_values : (arguments : List Argument) (one other : Text → Option Text) → ((name : Text) → one name ≡ other name)
    → texts_by one arguments ≡ texts_by other arguments
same_values [] one other same = refl
same_values (argument ∷ rest) one other same =
    ap₂ (λ value values. (argument.name.now, value) ∷ values) (same argument.name.now) (same_values rest one other same)

-- Arguments leave the name as it is.
name_stays : (app : App) (rules : List Rule) → (fold with_rule app rules).top.name ≡ app.top.name
name_stays app [] = refl
name_stays app (rule ∷ rules) = name_stays (with_rule app rule) rules

own_line : (options : Options) (words line : List Text) → line ≡ options.name.now ∷ words → line ≡ named_words (app_of_options options) words
unfolding app_with_rules
own_line options words line is =
    is ∙ ap (λ name. name ∷ words) (sym (name_stays (new_app options.name.now) (map rule_of_argument options.arguments.now)))

pub kinds_of : {T : Type 0} (options : Options) (a : App) (words line : List Text) (found : Result T Error) → is_simple_and_free (app_of_options options) ≡ true
    → a ≡ app_of_options options → line ≡ options.name.now ∷ words → (is_simple_and_free a ≡ true → FailsBy (fault_of a line) found)
    → FailsBy (kinds_in (app_of_options options) words) found
kinds_of options a words line found free is all kinds =
    kinds_at (app_of_options options) a words line found free is (own_line options words line all) kinds

pub texts_at : (options : Options) (a : App) (words line : List Text) (m : ArgMatches) → is_simple_and_free (app_of_options options) ≡ true
    → a ≡ app_of_options options → line ≡ options.name.now ∷ words → HasMatchesOf a line m
    → texts_by (first_value (found_of m)) options.arguments.now ≡ texts_in options words
texts_at options a words line m free is all matches =
    same_values options.arguments.now (first_value (found_of m)) (argument_value (app_of_options options) words)
    (value_at (app_of_options options) a words line m (is_simple_too (app_of_options options) free) is (own_line options words line all) matches)
