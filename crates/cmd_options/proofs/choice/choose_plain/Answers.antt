-- The subcommand is that of the row which the words name.
use Rattle.std.proofs.Common.{map}
use Rattle.std.specs.String.{string_bytes}
use Rattle.cmd_options.specs.LabWords.{lab_app}
use Rattle.cmd_options.proofs.LabChoosing.{answers, lab_is_plain, row_is_plain}
use Rattle.cmd_options.proofs.choice.choose_plain.Goals as goal

pub row_of_words-requires : goal.row_of_words-requires
unfolding lab_app
row_of_words-requires c = lab_is_plain

pub subcommand_of-requires : goal.subcommand_of-requires
unfolding lab_app
subcommand_of-requires c =
    row_is_plain (map string_bytes c.args.words.items) c.row_of_words.result c.requires
    c.row_of_words.ensures.faultless c.row_of_words.ensures.asked

pub returns : goal.returns
unfolding lab_app
returns c =
    let row = c.row_of_words.ensures in
    answers (map string_bytes c.args.words.items) c.row_of_words.result c.subcommand_of.result c.requires
    row.faultless row.asked row.stopped row.taken row.granted c.subcommand_of.ensures.named c.subcommand_of.ensures.stopped
