-- The words name a setup script, whose hints are written, or they don't.
use Rattle.std.proofs.Common.{refl, sym, ◌∙◌}
use Rattle.cmd_explain_rules.specs.HintComments.{text_of_comments}
use Rattle.upc_lab.specs.NamedFiles.{setup_name}
use Rattle.upc_lab.proofs.Hinting.{with_setup, without_setup}
use Rattle.upc_lab.proofs.invocation.write_setup_hints.Goals as goal

pub returns-else-names_setup : goal.returns-else-names_setup
returns-else-names_setup g c = λ shown.
    without_setup (setup_name c.args.chosen.now) _ _ (sym c.names_setup.ensures ∙ c.if-names_setup.false) refl

pub returns-then-names_setup : goal.returns-then-names_setup
returns-then-names_setup g c = λ shown.
    let told = c.write_message.ensures shown in
    let told_here = rw c.text.ensures at told in
    let hints = c.setup_comments-comments.ensures in
    let hints_here = rw c.explains_setup.ensures at hints in
    with_setup (setup_name c.args.chosen.now) _ _ (sym c.names_setup.ensures ∙ c.if-names_setup.true)
    (λ name. (text_of_comments c.setup_comments-comments.result, hints_here, told_here))
