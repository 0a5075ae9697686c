use Rattle.cmd_rules.proofs.CommentsPut.{always_ok, asm_means, listed_means}
use Rattle.cmd_rules.proofs.assembling.add_source.Goals as goal

pub returns-in-Ok-clause-meaning : goal.returns-in-Ok-clause-meaning
returns-in-Ok-clause-meaning c =
    let made = c.args.made.now in
    let code = made.placed.code.items in
    let listed = listed_means code c.deref.result.now c.in-Ok.lines.items c.deref.ensures.value c.in-Ok.ensures.text c.in-Ok.ensures.meaning in
    always_ok c.add_annotated.result (asm_means c.args.text.now made listed)
