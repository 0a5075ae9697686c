-- What clap promises of a simple command, for these arguments.
use Rattle.std.proofs.Common.{◌∙◌, Err, Ok, rules, map}
use Rattle.std.specs.String.{string_bytes}
use Rattle.clap.specs.declared.parser.matches.ArgMatches.{ArgMatches}
use Rattle.text_command_line.specs.Arguments.{app_of_options}
use Rattle.text_command_line.specs.CommandLines.{kinds_in}
use Rattle.text_command_line.proofs.SameValues.{kinds_of, texts_at}
use Rattle.text_command_line.proofs.Stops.{memory_alone, stops_at}
use Rattle.text_command_line.proofs.arguments.values_of_words.Goals as goal

pub returns-in-Ok-copied-clause-faultless : goal.returns-in-Ok-copied-clause-faultless
returns-in-Ok-copied-clause-faultless c =
    kinds_of {T = ArgMatches} c.args.options.now _ (map string_bytes c.args.words.items) _ (Ok c.in-Ok-found_in.matches) c.requires
    c.in-Ok-command_of.ensures (search rules) c.in-Ok-found_in.ensures.kinds

pub returns-in-Ok-copied-clause-values : goal.returns-in-Ok-copied-clause-values
returns-in-Ok-copied-clause-values c =
    c.in-Ok-copied.ensures
    ∙ texts_at c.args.options.now _ (map string_bytes c.args.words.items) _ c.in-Ok-found_in.matches c.requires
    c.in-Ok-command_of.ensures (search rules) c.in-Ok-found_in.ensures.matches

pub returns-clause-stopped : goal.returns-clause-stopped
returns-clause-stopped c =
    let kinds = kinds_of {T = ArgMatches} c.args.options.now _ (map string_bytes c.args.words.items) _ (Err c.in-Err.error) c.requires
    c.in-Ok-command_of.ensures (search rules) c.in-Err.ensures.kinds in
    stops_at (kinds_in (app_of_options c.args.options.now) (map string_bytes c.args.words.items)) c.in-Err.error c.stop_for.result kinds c.stop_for.ensures

pub returns-clause-taken : goal.returns-clause-taken
returns-clause-taken c =
    let kinds = kinds_of {T = ArgMatches} c.args.options.now _ (map string_bytes c.args.words.items) _ (Err c.in-Err.error) c.requires
    c.in-Ok-command_of.ensures (search rules) c.in-Err.ensures.kinds in
    memory_alone (kinds_in (app_of_options c.args.options.now) (map string_bytes c.args.words.items)) c.in-Err.error c.stop_for.result kinds c.stop_for.ensures
