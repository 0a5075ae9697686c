-- Rules may go to another thread. A test of rules may have tests in it, which is why `search` doesn't find this alone.
use denote.Param.Send.{IsSend, sendable}
use Rattle.std.proofs.Crossing.{crosses, Box-send, Vec-send}
use Rattle.rules_cells.proofs.test.Test.TheLaws.TheKnot.{send-Test}
use Rattle.rules_cells.specs.contracts.rules.RuleLine as RuleLine
use Rattle.rules_cells.specs.contracts.rules.Rules as Rules
use Rattle.rules_cells.specs.contracts.test.Test as Test
use Rattle.bpf_verify.proofs.program.Program.TheSendSync.{the_send as code_send}
use Rattle.rules_text.specs.contracts.place.RulePlace as RulePlace
use Rattle.rules_text.specs.contracts.reader.PlacedRules as PlacedRules
use Rattle.cmd_rules.specs.contracts.decider.Decider as Decider
use Rattle.cmd_police.specs.contracts.program_rules.LoadedRules as LoadedRules
use Rattle.cmd_police.specs.contracts.program_rules.ProgramRules as ProgramRules

test_sends : IsSend (Test.the_field).row
test_sends = send-Test (search (sendable, crosses) depth 40) (search (sendable, crosses) depth 40) (search (sendable, crosses) depth 40) Box-send Vec-send

line_sends : IsSend RuleLine.the_row
line_sends = search (sendable, crosses, test_sends) depth 40

rules_send : IsSend (Rules.the_field).row
rules_send = search (sendable, crosses, line_sends) depth 40

place_sends : IsSend RulePlace.the_row
place_sends = search (sendable, crosses) depth 40

numbered_sends : IsSend (PlacedRules.the_field).row
numbered_sends = search (sendable, crosses, rules_send, place_sends) depth 40

decider_sends : IsSend (Decider.the_field).row
decider_sends = search (sendable, crosses, numbered_sends, code_send) depth 40

program_sends : IsSend ProgramRules.the_row
program_sends = search (sendable, crosses, decider_sends) depth 40

pub loaded_sends : IsSend LoadedRules.the_row
loaded_sends = search (sendable, crosses, program_sends) depth 40
