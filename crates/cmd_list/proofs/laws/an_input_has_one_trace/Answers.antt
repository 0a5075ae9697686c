use Rattle.cmd_list.proofs.Public.{one-trace_text}
use Rattle.cmd_list.proofs.laws.an_input_has_one_trace.Goals as goal

pub returns : goal.returns
returns c = one-trace_text
