use Rattle.upc_c.proofs.StateLemmas.{state-found, state-missing}
use Rattle.upc_c.proofs.state.state_in.Goals as goal

pub returns-clause-state : goal.returns-clause-state
returns-clause-state c = state-found c.args.core.now c.args.vc c.line_state.result c.line_state.ensures.state

pub returns-clause-none : goal.returns-clause-none
returns-clause-none c = state-missing c.args.core.now c.args.vc c.line_state.result c.line_state.ensures.state
