use Rattle.std.proofs.Common.{subst}
use Rattle.hex.specs.Hex.{IsBytes}
use Rattle.cmd_rules.proofs.CommentsPut.{always_ok}
use Rattle.cmd_police.proofs.Digits.{read_again}
use Rattle.cmd_police.proofs.compiling.program_digits.Goals as goal

pub returns-in-Ok-clause-read_again : goal.returns-in-Ok-clause-read_again
returns-in-Ok-clause-read_again c =
    let fit : IsBytes c.in-Ok.octets.items = subst IsBytes c.deref.ensures.value c.digits_of.ensures.octets in
    always_ok c.digits_of.result (read_again c.in-Ok.octets.items c.args.code.now c.in-Ok.ensures.octets c.in-Ok.ensures.spells fit)
