use Rattle.rules_text.specs.RulesInMemory.{placed_rules_read}
use Rattle.rules_text.specs.TextFaults.{IsFaultOf}
use Rattle.rules_text.specs.TextOfRules.{rules_in}
use Rattle.rules_text.proofs.ReadingSteps.{without_places, fault_without_places, fault_onward, returned_fault}
use Rattle.rules_text.proofs.reader.read_rules.Goals as goal

pub returns-in_err-placed_rules-clause-fault : goal.returns-in_err-placed_rules-clause-fault
returns-in_err-placed_rules-clause-fault c =
    returned_fault c.from_residual.result c.in_err-placed_rules.field-0.0 (IsFaultOf (rules_in c.args.text.now)) c.from_residual.ensures.1
    (fault_onward _ _ _ (fault_without_places c.args.text.now _) c.in_err-placed_rules.ensures.fault)

pub returns-clause-rules : goal.returns-clause-rules
returns-clause-rules c = without_places c.args.text.now (placed_rules_read c.in_ok-placed_rules.placed_rules) c.in_ok-placed_rules.ensures.rules
