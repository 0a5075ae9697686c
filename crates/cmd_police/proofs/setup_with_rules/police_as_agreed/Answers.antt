-- The text at the tick that is agreed is that of the run at this tick, or the answer about two ticks.
use Rattle.std.proofs.Common.{ℕ, List, Option, option_map, Result, subst}
use Rattle.std.proofs.lemmas.Result.{IfOk-weaker}
use Rattle.captures.specs.declared.clock.Tick.{Tick}
use Rattle.text_io.specs.Serving.{IsServed}
use Rattle.text_io.specs.declared.ending.Done.{Done}
use Rattle.cmd_police.proofs.Existence.{polices_as_agreed}
use Rattle.cmd_police.proofs.ServedLemmas.{nothing_served}
use Rattle.cmd_setups.specs.SharedTexts.{octets_of_texts}
use Rattle.cmd_police.specs.SetupText.{AsAgreed, IsSetupPoliced, MayBePolicedAsAgreed, MayBeSetupPoliced}
use Rattle.cmd_police.proofs.setup_with_rules.police_as_agreed.Goals as goal

abbrev nanoseconds_of : Option Tick → Option ℕ
nanoseconds_of tick = option_map (λ (tick : Tick). tick.nanoseconds) tick

pub returns-in-Ok-clause-served : goal.returns-in-Ok-clause-served
returns-in-Ok-clause-served g c =
    subst (λ (agreed : Result ℕ (ℕ × ℕ)). IsServed
    (AsAgreed (λ tick. MayBeSetupPoliced c.args.choice.scope tick c.args.setup.now (octets_of_texts c.args.texts.now)) agreed)
    g.I.Input c.args.input.now c.police_setup.new.input g.O.Output c.args.output.now c.police_setup.new.output c.police_setup.result)
    c.in-Ok.ensures c.police_setup.ensures.served

pub returns-in-Ok-clause-policed : goal.returns-in-Ok-clause-policed
returns-in-Ok-clause-policed g c ki ko =
    let Text : Result ℕ (ℕ × ℕ) → List ℕ → List ℕ → Done → Type 0 =
    AsAgreed (λ tick. IsSetupPoliced c.args.choice.scope tick c.args.setup.now (octets_of_texts c.args.texts.now)) in
    IfOk-weaker c.police_setup.result _ _
    (λ done adds. (adds.0, adds.1, subst (λ (agreed : Result ℕ (ℕ × ℕ)). Text agreed (g.I.Input.rest c.args.input.now) adds.0 done) c.in-Ok.ensures adds.2))
    (c.police_setup.ensures.policed ki ko)

pub returns-in-Err-add_ticks_differ-clause-served : goal.returns-in-Err-add_ticks_differ-clause-served
returns-in-Err-add_ticks_differ-clause-served g c =
    let texts = octets_of_texts c.args.texts.now in
    let named = nanoseconds_of c.args.named in
    let asked = nanoseconds_of c.args.asked in
    nothing_served g.I.Input g.O.Output c.args.input.now c.args.output.now
    (MayBePolicedAsAgreed c.args.choice.scope named asked c.args.setup.now texts)
    (polices_as_agreed c.args.choice.scope named asked c.args.setup.now texts (g.I.Input.rest c.args.input.now))
