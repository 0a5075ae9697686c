use Rattle.std.proofs.Common.{ap, ◌∙◌}
use Rattle.upc_c.specs.CardInspection.{counts_for_c}
use Rattle.upc_c.proofs.inspecting.upc_card_counts.Goals as goal

pub returns-in-Ok-clause-counts : goal.returns-in-Ok-clause-counts
returns-in-Ok-clause-counts c = λ _. let state = c.in-Ok.ensures.state in record {
  vc = state.vc;
  numbers = state.numbers;
  core = state.core;
  had = state.had;
  so = λ world agrees. let it = state.so world agrees in (it.connection, it.found, c.counts_for_c.ensures ∙ ap counts_for_c it.counts);
}
