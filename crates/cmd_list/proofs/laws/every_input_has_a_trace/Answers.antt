use Rattle.cmd_list.proofs.Public.{some-trace_text}
use Rattle.cmd_list.proofs.laws.every_input_has_a_trace.Goals as goal

pub returns : goal.returns
returns c = some-trace_text
