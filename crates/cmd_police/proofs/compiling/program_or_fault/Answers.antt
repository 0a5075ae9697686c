use Rattle.std.proofs.Common.{rules, ◌≡◌, ◌≢◌, Some}
use Rattle.rules_text.specs.TextOfRules.{placed_fault}
use Rattle.rules_text.specs.declared.fault.RuleFaultKind.TheVariants.{NoMemory}
use Rattle.text_io.specs.Gathered.{gathered}
use Rattle.cmd_rules.specs.RulesAnswers.{most_rules_octets}
use Rattle.cmd_police.proofs.RulesTold.{fault_of_compiling, told}
use Rattle.cmd_police.proofs.compiling.program_or_fault.Goals as goal

pub returns-in_ok-told_fault-in-Err : goal.returns-in_ok-told_fault-in-Err
returns-in_ok-told_fault-in-Err c =
    let within : gathered most_rules_octets c.args.text.now ≡ Some c.args.text.now = search rules in
    let other : c.in-Err.fault ≢ placed_fault 0 0 NoMemory = search rules in
    told c.args.text.now c.in_ok-told_fault-in-Err.field-0.line.items c.in_ok-told_fault-in-Err.field-0.reason.items c.in-Err.fault within
    (fault_of_compiling c.args.text.now c.in-Err.fault other c.in-Err.ensures.fault) c.in_ok-told_fault-in-Err.ensures.line c.in_ok-told_fault-in-Err.ensures.reason
