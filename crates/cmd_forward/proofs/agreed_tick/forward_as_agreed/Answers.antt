-- What is written at the tick that is agreed is what is written at this tick, or nothing.
use Rattle.std.proofs.Common.{◌≡◌, ℕ, List, [], Option, option_map, Result, refl, subst}
use Rattle.captures.specs.declared.clock.Tick.{Tick}
use Rattle.text_io.specs.Serving.{IsServed}
use Rattle.text_io.specs.declared.ending.Done.TheVariants.{Ended}
use Rattle.cmd_setups.specs.SharedTexts.{octets_of_texts}
use Rattle.cmd_setups.specs.SetupTick.{agreed_tick, ticks_differ}
use Rattle.cmd_forward.specs.AgreedForward.{ForwardsAsAgreed, IsForwardedAsAgreed, MayBeForwardedAsAgreed}
use Rattle.cmd_forward.specs.ForwardText.{IsSetupForwarded, MayBeSetupForwarded}
use Rattle.cmd_forward.specs.Reporting.{HasReportedText, ReportedTexts, ReportsText}
use Rattle.cmd_forward.proofs.AgreedTexts.{some_forwarded_as_agreed}
use Rattle.cmd_forward.proofs.ForwardTexts.{faults_reported, faults_served}
use Rattle.cmd_forward.proofs.agreed_tick.forward_as_agreed.Goals as goal

abbrev nanoseconds_of : Option Tick → Option ℕ
nanoseconds_of tick = option_map (λ (tick : Tick). tick.nanoseconds) tick

pub returns-in-Ok-clause-served : goal.returns-in-Ok-clause-served
returns-in-Ok-clause-served g c =
    subst (λ (agreed : Result ℕ (ℕ × ℕ)). IsServed
    (HasReportedText (ForwardsAsAgreed (λ tick. MayBeSetupForwarded c.args.others tick c.args.link c.args.setup.now (octets_of_texts c.args.texts.now)) agreed))
    g.I.Input c.args.input.now c.forward_setup.new.input g.O.Output c.args.output.now c.forward_setup.new.output c.forward_setup.result)
    c.in-Ok.ensures c.forward_setup.ensures.served

pub returns-in-Ok-clause-reported : goal.returns-in-Ok-clause-reported
returns-in-Ok-clause-reported g c =
    subst (λ (agreed : Result ℕ (ℕ × ℕ)). ReportsText
    (ForwardsAsAgreed (λ tick. IsSetupForwarded c.args.others tick c.args.link c.args.setup.now (octets_of_texts c.args.texts.now)) agreed)
    g.I.Input c.args.input.now g.O.Output c.args.output.now c.forward_setup.new.output c.args.report.now.items c.forward_setup.new.report.items c.forward_setup.result)
    c.in-Ok.ensures c.forward_setup.ensures.reported

pub returns-in-Err-clause-served : goal.returns-in-Err-clause-served
returns-in-Err-clause-served g c =
    let texts = octets_of_texts c.args.texts.now in
    let named = nanoseconds_of c.args.named in
    let asked = nanoseconds_of c.args.asked in
    let IsText = MayBeForwardedAsAgreed c.args.others named asked c.args.link c.args.setup.now texts in
    let said = ticks_differ c.in-Err.ticks.named c.in-Err.ticks.asked in
    (faults_served g.I.Input g.O.Output c.args.input.now c.args.output.now c.args.report.now.items c.report_ticks.new.report.items said c.report_ticks.result
    IsText (λ octets. some_forwarded_as_agreed c.args.others named asked c.args.link c.args.setup.now texts octets)
    (λ octets. subst (λ (agreed : Result ℕ (ℕ × ℕ)).
    ForwardsAsAgreed (λ tick. MayBeSetupForwarded c.args.others tick c.args.link c.args.setup.now texts) agreed octets [] said Ended) c.in-Err.ensures (refl, refl, refl))
    c.report_ticks.ensures.done c.report_ticks.ensures.grew c.report_ticks.ensures.fault).served

pub returns-in-Err-clause-reported : goal.returns-in-Err-clause-reported
returns-in-Err-clause-reported g c =
    let texts = octets_of_texts c.args.texts.now in
    let said = ticks_differ c.in-Err.ticks.named c.in-Err.ticks.asked in
    faults_reported g.I.Input g.O.Output c.args.input.now c.args.output.now c.args.report.now.items c.report_ticks.new.report.items said c.report_ticks.result
    (IsForwardedAsAgreed c.args.others (nanoseconds_of c.args.named) (nanoseconds_of c.args.asked) c.args.link c.args.setup.now texts)
    (λ octets. subst (λ (agreed : Result ℕ (ℕ × ℕ)).
    ForwardsAsAgreed (λ tick. IsSetupForwarded c.args.others tick c.args.link c.args.setup.now texts) agreed octets [] said Ended) c.in-Err.ensures (refl, refl, refl))
    c.report_ticks.ensures.done c.report_ticks.ensures.grew
