use Rattle.std.proofs.Common.{inl}
use Rattle.std.proofs.lemmas.Result.{IfErr-weaker}
use Rattle.rules_text.proofs.ReadingSteps.{fault_onward, fault_without_places}
use Rattle.cmd_rules.proofs.decider.Decider.new.Goals as goal

pub returns-clause-fault : goal.returns-clause-fault
returns-clause-fault c =
    IfErr-weaker c.read.result _ _ (λ fault is. inl (fault_onward _ _ _ (fault_without_places c.args.text.now _) is)) c.read.ensures.fault
