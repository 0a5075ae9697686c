-- What clap promises of a simple command whose arguments have no rules on one another.
use Rattle.std.proofs.Common.{◌≡◌, ◌∙◌, ap, ap₂, refl, true, List, Option, Some, None, IfOk, Ok, Err, Result, option_map}
use Rattle.std.specs.Borrow.{Bor}
use Rattle.std.specs.Prelude.{Box}
use Rattle.std.specs.Box.{box_value}
use Rattle.clap.specs.Faults.{fault_of, is_simple_and_free}
use Rattle.clap.specs.Kinds.{FailsBy}
use Rattle.clap.specs.Matches.{first_value, found_of, subcommand_name_of}
use Rattle.clap.specs.Simple.{App, HasMatchesOf, is_simple, matches_of, subcommand_of, subcommand_rows}
use Rattle.clap.specs.Walk.{Text, first_of}
use Rattle.clap.specs.declared.error.Error.{Error}
use Rattle.clap.specs.declared.parser.matches.ArgMatches.{ArgMatches}
use Rattle.clap.specs.declared.parser.matches.ArgMatches.TheViews.{out-ArgMatches, out-SubCommand}
use Rattle.clap.specs.declared.parser.matches.SubCommand.{SubCommand}
use Rattle.clap.proofs.FaultLemmas.{fails_as}
use Rattle.clap.proofs.WalkLemmas.{both, first_value-rows}
use Rattle.text_command_line.specs.CommandLines.{kinds_in, named_words, subcommand_in, argument_value}

-- A command whose arguments have no rules on one another is simple.
pub is_simple_too : (app : App) → is_simple_and_free app ≡ true → is_simple app ≡ true
is_simple_too app free = (both (is_simple app) _ free).0

pub kinds_at : {T : Type 0} (app a : App) (words line : List Text) (r : Result T Error) → is_simple_and_free app ≡ true → a ≡ app → line ≡ named_words app words
    → (is_simple_and_free a ≡ true → FailsBy (fault_of a line) r) → FailsBy (kinds_in app words) r
unfolding kinds_in
kinds_at app a words line r free is all kinds = fails_as r _ _ (ap₂ fault_of is all) (kinds (ap is_simple_and_free is ∙ free))

module _ {Z : Type 0} where
  name_of_rows : (s : Option (Box SubCommand Z)) → option_map (λ b. (out-SubCommand (box_value b)).name.now) s ≡ option_map (λ p. p.0) (subcommand_rows s)
  name_of_rows (Some b) = refl
  name_of_rows None = refl

pub name_at : (a : App) (line : List Text) (m : ArgMatches) (name : Option Text) → is_simple a ≡ true → name ≡ subcommand_name_of m
    → HasMatchesOf a line m → name ≡ option_map (λ p. p.0) (subcommand_of a line)
name_at a line m name simple met matches =
    met ∙ name_of_rows (out-ArgMatches m).subcommand ∙ ap (option_map (λ p. p.0)) (matches simple).1

pub names_at : (app a : App) (words line : List Text) (found : Result (Option (Bor Text)) Error) → is_simple_and_free app ≡ true → a ≡ app → line ≡ named_words app words
    → (is_simple a ≡ true → IfOk found (λ name. option_map (λ text. text.now) name ≡ option_map (λ p. p.0) (subcommand_of a line)))
    → IfOk found (λ name. option_map (λ text. text.now) name ≡ subcommand_in app words)
unfolding subcommand_in
names_at app a words line (Ok name) free is all met =
    met (ap is_simple is ∙ is_simple_too app free) ∙ ap (option_map (λ p. p.0)) (ap₂ subcommand_of is all)
names_at app a words line (Err error) free is all met = tt

pub value_at : (app a : App) (words line : List Text) (m : ArgMatches) → is_simple app ≡ true → a ≡ app → line ≡ named_words app words → HasMatchesOf a line m
    → (name : Text) → first_value (found_of m) name ≡ argument_value app words name
unfolding argument_value
value_at app a words line m simple is all matches name =
    first_value-rows (found_of m) name
    ∙ ap (first_of name) ((matches (ap is_simple is ∙ simple)).0 ∙ ap₂ matches_of is all)
