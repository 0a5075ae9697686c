-- The card of a setup script that is prepared is that of its script.
use Rattle.std.proofs.Common.{subst}
use Rattle.std.proofs.lemmas.Result.{IfOk-weaker}
use Rattle.cmd_police.proofs.PreparedLemmas.{opens_prepared}
use Rattle.cmd_setups.specs.SharedTexts.{octets_of_texts}
use Rattle.cmd_police.specs.declared.preparing.Prepared.{Prepared}
use Rattle.cmd_police.specs.inner.Preparing.{IsReadyFor, PreparesTo}
use Rattle.cmd_police.proofs.policed_card.open_setup.Goals as goal

pub returns-in-Ready : goal.returns-in-Ready
returns-in-Ready c =
    let setup = c.args.setup.now in
    let texts = octets_of_texts c.args.texts.now in
    let ready : IsReadyFor setup texts c.in-Ready.ready = subst (λ (p : Prepared). PreparesTo setup texts p) c.in-Ready.is c.in_ok-text.ensures in
    IfOk-weaker c.open_card.result _ _
    (λ opened opens. opens_prepared c.args.tick.nanoseconds setup texts c.in-Ready.ready c.script.result.now c.deref.result.now opened
    ready c.script.ensures c.deref.ensures.value opens)
    c.open_card.ensures
