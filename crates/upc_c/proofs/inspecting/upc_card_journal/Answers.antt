use Rattle.std.proofs.Common.{sym}
use Rattle.upc_c.proofs.inspecting.upc_card_journal.Goals as goal

pub returns-in-Ok-clause-cells : goal.returns-in-Ok-clause-cells
returns-in-Ok-clause-cells c = λ _. let state = c.in-Ok.ensures.state in record {
  vc = state.vc;
  numbers = state.numbers;
  core = state.core;
  had = state.had;
  so = λ world agrees. let it = state.so world agrees in (it.connection, it.found, sym it.entries);
}
