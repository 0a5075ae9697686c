-- The row is that of the subcommand which clap finds in the words.
use Rattle.std.proofs.Common.{Option, rules, map}
use Rattle.std.specs.Borrow.{Bor}
use Rattle.std.specs.String.{string_bytes}
use Rattle.clap.specs.Walk.{Text}
use Rattle.text_command_line.specs.Subcommands.{app_of_rows, row_names, table_of_rows}
use Rattle.text_command_line.proofs.Choosing.{answers, is_plain, named_in, own_line}
use Rattle.text_command_line.proofs.Reading.{kinds_at, names_at}
use Rattle.text_command_line.proofs.subcommands.row_of_words.Goals as goal

pub answer_to-requires : goal.answer_to-requires
answer_to-requires g c =
    let program = c.args.program.now in
    let table = table_of_rows c.args.rows.now in
    let app = app_of_rows program c.args.rows.now in
    let words = map string_bytes c.args.words.items in
    let plain = is_plain app table c.requires in
    let all = own_line program.name.now program.wants_one (row_names table) words _ (search rules) in
    let found = c.found_in-found in
    named_in app table words found.result plain
    (kinds_at {T = Option (Bor Text)} app _ words _ found.result plain.free c.in-Ok-command_of.ensures all found.ensures.kinds)
    (names_at app _ words _ found.result plain.free c.in-Ok-command_of.ensures all found.ensures.name)

pub returns : goal.returns
returns g c =
    let program = c.args.program.now in
    let table = table_of_rows c.args.rows.now in
    let app = app_of_rows program c.args.rows.now in
    let words = map string_bytes c.args.words.items in
    let plain = is_plain app table c.requires in
    let all = own_line program.name.now program.wants_one (row_names table) words _ (search rules) in
    let found = c.found_in-found in
    let all = answers app table words found.result c.answer_to.result plain
    (kinds_at {T = Option (Bor Text)} app _ words _ found.result plain.free c.in-Ok-command_of.ensures all found.ensures.kinds)
    (names_at app _ words _ found.result plain.free c.in-Ok-command_of.ensures all found.ensures.name)
    c.answer_to.ensures.named c.answer_to.ensures.stopped in
    record {
      found = all.found;
      faultless = all.faultless;
      asked = all.asked;
      stopped = all.stopped;
      taken = all.taken;
      granted = all.granted;
    }
