use Rattle.std.proofs.Common.{◌<◌, length, rules}
use Rattle.std.proofs.lemmas.List.{take_rest}
use Rattle.cmd_setups.proofs.ScriptLines.{cut_ended, cut_last}
use Rattle.cmd_setups.proofs.script_lines.next_line.Goals as goal

pub returns-in-Some-clause-lines : goal.returns-in-Some-clause-lines
returns-in-Some-clause-lines c =
    rw (take_rest, c.before_return.ensures) (cut_ended c.args.text.now c.in-Some.at c.in-Some.ensures.place c.in-Some.ensures.feed c.in-Some.ensures.before)

pub returns-in-None-clause-lines : goal.returns-in-None-clause-lines
returns-in-None-clause-lines c =
    let some : 0 < length c.args.text.now = search rules in
    rw take_rest (cut_last c.args.text.now some c.in-None.ensures.none)
