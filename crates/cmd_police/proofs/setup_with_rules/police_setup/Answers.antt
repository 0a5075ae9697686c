-- The text of `police` for a setup script is about its fault, or that of the capture by the script as which it is prepared.
use Rattle.std.proofs.Common.{inl, refl, subst}
use Rattle.std.proofs.lemmas.Result.{IfOk-weaker}
use Rattle.captures_text.proofs.Progresses.{if_given}
use Rattle.text_io.proofs.Public.{served-wider}
use Rattle.text_io.specs.declared.ending.Done.TheVariants.{Ended}
use Rattle.cmd_police.proofs.Existence.{faulty_may, polices_each}
use Rattle.cmd_police.proofs.PreparedLemmas.{policed_prepared}
use Rattle.cmd_police.proofs.ServedLemmas.{faults_written, nothing_served}
use Rattle.cmd_police.specs.PoliceText.{IsPoliceText}
use Rattle.cmd_police.specs.PreparedSetups.{HasFaultySetup}
use Rattle.cmd_police.specs.RulesFiles.{IsFaultOfRules, MayBeFaultOfRules}
use Rattle.cmd_setups.specs.SharedTexts.{octets_of_texts}
use Rattle.cmd_police.specs.SetupText.{MayBeSetupPoliced}
use Rattle.cmd_police.specs.StoredRules.{shown_stored}
use Rattle.cmd_police.specs.declared.preparing.Prepared.{Prepared}
use Rattle.cmd_police.specs.inner.Preparing.{IsReadyFor, PreparesTo}
use Rattle.cmd_police.proofs.setup_with_rules.police_setup.Goals as goal

pub returns-in-Err-clause-served : goal.returns-in-Err-clause-served
returns-in-Err-clause-served g c =
    let IsText = MayBeSetupPoliced c.args.choice.scope c.args.tick.nanoseconds c.args.setup.now (octets_of_texts c.args.texts.now) in
    nothing_served g.I.Input g.O.Output c.args.input.now c.args.output.now IsText
    (polices_each c.args.choice.scope c.args.tick.nanoseconds c.args.setup.now (octets_of_texts c.args.texts.now) (g.I.Input.rest c.args.input.now))

pub returns-in-Ok-Faulty-clause-served : goal.returns-in-Ok-Faulty-clause-served
returns-in-Ok-Faulty-clause-served g c =
    let setup = c.args.setup.now in
    let texts = octets_of_texts c.args.texts.now in
    let text = c.in-Ok-Faulty.text.items in
    let faulty : HasFaultySetup IsFaultOfRules setup texts text =
    subst (λ (p : Prepared). PreparesTo setup texts p) c.in-Ok-Faulty.field-0-is c.in-Ok-Faulty.ensures in
    let written = c.write_faults.ensures in
    faults_written g.I.Input g.O.Output c.args.input.now c.args.output.now c.write_faults.new.output c.write_faults.result
    (MayBeSetupPoliced c.args.choice.scope c.args.tick.nanoseconds setup texts) text (λ octets. inl (faulty_may setup texts text faulty, refl))
    written.done written.given written.front written.fault written.writing

pub returns-in-Ok-Faulty-clause-policed : goal.returns-in-Ok-Faulty-clause-policed
returns-in-Ok-Faulty-clause-policed g c ki ko =
    let setup = c.args.setup.now in
    let texts = octets_of_texts c.args.texts.now in
    let text = c.in-Ok-Faulty.text.items in
    let faulty : HasFaultySetup IsFaultOfRules setup texts text =
    subst (λ (p : Prepared). PreparesTo setup texts p) c.in-Ok-Faulty.field-0-is c.in-Ok-Faulty.ensures in
    if_given c.write_faults.result Ended _ _ c.write_faults.ensures.done (c.write_faults.ensures.given ko) (λ gives. (text, gives, inl (faulty, refl)))

pub returns-in_default-clause-served : goal.returns-in_default-clause-served
returns-in_default-clause-served g c =
    let IsText = MayBeSetupPoliced c.args.choice.scope c.args.tick.nanoseconds c.args.setup.now (octets_of_texts c.args.texts.now) in
    nothing_served g.I.Input g.O.Output c.args.input.now c.args.output.now IsText
    (polices_each c.args.choice.scope c.args.tick.nanoseconds c.args.setup.now (octets_of_texts c.args.texts.now) (g.I.Input.rest c.args.input.now))

pub returns-clause-served : goal.returns-clause-served
returns-clause-served g c =
    let setup = c.args.setup.now in
    let texts = octets_of_texts c.args.texts.now in
    let scope = c.args.choice.scope in
    let tick = c.args.tick.nanoseconds in
    let stored = c.in-Ok-Ready.ready in
    let rules = shown_stored c.in-Ok.rules in
    let ready : IsReadyFor setup texts stored = subst (λ (p : Prepared). PreparesTo setup texts p) c.in-Ok-Ready.field-0-is c.in-Ok-Ready.ensures in
    served-wider (IsPoliceText scope tick rules c.script.result.now c.deref-2.result.now) (MayBeSetupPoliced scope tick setup texts)
    (λ octets text done printed. policed_prepared MayBeFaultOfRules scope tick setup texts stored c.deref.result.now c.script.result.now c.deref-2.result.now rules octets text done
    ready c.deref.ensures.value c.script.ensures c.deref-2.ensures.value c.in-Ok.ensures printed)
    g.I.Input c.args.input.now c.police_capture.new.input g.O.Output c.args.output.now c.police_capture.new.output c.police_capture.result c.police_capture.ensures

pub returns-clause-policed : goal.returns-clause-policed
returns-clause-policed g c ki ko =
    let setup = c.args.setup.now in
    let texts = octets_of_texts c.args.texts.now in
    let scope = c.args.choice.scope in
    let tick = c.args.tick.nanoseconds in
    let stored = c.in-Ok-Ready.ready in
    let rules = shown_stored c.in-Ok.rules in
    let ready : IsReadyFor setup texts stored = subst (λ (p : Prepared). PreparesTo setup texts p) c.in-Ok-Ready.field-0-is c.in-Ok-Ready.ensures in
    IfOk-weaker c.police_capture.result _ _
    (λ done adds. (
      adds.0,
      adds.1,
      policed_prepared IsFaultOfRules scope tick setup texts stored c.deref.result.now c.script.result.now c.deref-2.result.now rules (g.I.Input.rest c.args.input.now) adds.0 done
          ready c.deref.ensures.value c.script.ensures c.deref-2.ensures.value c.in-Ok.ensures adds.2,
    ))
    (c.police_capture.ensures.text ki ko)
