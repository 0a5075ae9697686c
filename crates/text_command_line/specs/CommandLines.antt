-- The words after the name of a command, by clap's definitions for a simple command.
use Rattle.std.specs.Prelude.{List, ◌∷◌, Option, option_map}
use Rattle.clap.specs.Faults.{fault_of}
use Rattle.clap.specs.Kinds.{Kinds}
use Rattle.clap.specs.Simple.{App, matches_of, subcommand_of}
use Rattle.clap.specs.Walk.{Text, first_of}

-- The command line as clap reads it: the name of the command, then the words.
abbrev pub named_words : App → List Text → List Text
named_words app words = app.top.name ∷ words

-- The kinds of error in the words; a request for help or the version is one of them. The list is empty if clap accepts the words.
unfoldable pub kinds_in : App → List Text → Kinds
kinds_in app words = fault_of app (named_words app words)

-- The name of the subcommand in the words, if there is one.
unfoldable pub subcommand_in : App → List Text → Option Text
subcommand_in app words = option_map (λ found. found.0) (subcommand_of app (named_words app words))

-- The value of the argument with this name in words that clap accepts: the one that is given, or the argument's default.
unfoldable pub argument_value : App → List Text → Text → Option Text
argument_value app words name = first_of name (matches_of app (named_words app words))
