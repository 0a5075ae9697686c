-- A setup script that is prepared is explained as its script.
use Rattle.std.proofs.Common.{inr, subst}
use Rattle.std.proofs.lemmas.Result.{IfOk-weaker}
use Rattle.cmd_police.proofs.PreparedLemmas.{goes_on}
use Rattle.cmd_police.specs.ExplainedSetups.{IsExplainedAtTimes}
use Rattle.cmd_setups.specs.SharedTexts.{octets_of_texts}
use Rattle.cmd_police.specs.declared.preparing.Prepared.{Prepared}
use Rattle.cmd_police.specs.inner.Preparing.{IsReadyFor, PreparesTo}
use Rattle.cmd_police.proofs.explained_setup.setup_explanation.Goals as goal

pub returns-in-Ready : goal.returns-in-Ready
returns-in-Ready c =
    let setup = c.args.setup.now in
    let texts = octets_of_texts c.args.texts.now in
    let ready : IsReadyFor setup texts c.in-Ready.ready = subst (λ (p : Prepared). PreparesTo setup texts p) c.in-Ready.is c.in_ok-ready.ensures in
    IfOk-weaker c.explain_at_times.result _ _
    (λ it told. inr (goes_on setup texts c.in-Ready.ready c.script.result.now c.deref.result.now (λ script times. IsExplainedAtTimes script times it.text.items it.done)
    ready c.script.ensures c.deref.ensures.value told))
    c.explain_at_times.ensures
