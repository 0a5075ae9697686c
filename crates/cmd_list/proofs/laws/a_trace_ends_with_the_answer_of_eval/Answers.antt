use Rattle.cmd_list.proofs.TraceValue.{ends_as_eval}
use Rattle.cmd_list.proofs.laws.a_trace_ends_with_the_answer_of_eval.Goals as goal

pub returns : goal.returns
returns c = ends_as_eval
