-- The choice is that of the row which the words name.
use Rattle.std.proofs.Common.{map}
use Rattle.std.specs.String.{string_bytes}
use Rattle.text_command_line.specs.Choice.{upc_app}
use Rattle.text_command_line.proofs.UpcChoosing.{choice_answers, upc_is_plain}
use Rattle.text_command_line.proofs.choice.choose.Goals as goal

pub row_of_words-requires : goal.row_of_words-requires
unfolding upc_app
row_of_words-requires c = upc_is_plain

pub returns : goal.returns
unfolding upc_app
returns c =
    let row = c.row_of_words.ensures in
    let all = choice_answers (map string_bytes c.args.words.items) c.row_of_words.result c.choice_of.result row.found row.faultless row.asked row.stopped row.taken
    row.granted c.choice_of.ensures.chosen c.choice_of.ensures.stopped in
    record {
      chosen = all.chosen;
      faultless = all.faultless;
      asked = all.asked;
      stopped = all.stopped;
      taken = all.taken;
      granted = all.granted;
    }
