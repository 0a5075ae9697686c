use Rattle.std.proofs.Common.{inr, length, ◌∙◌}
use Rattle.upc_c.proofs.StateLemmas.{has-state, has-contracts}
use Rattle.upc_c.proofs.state.upc_card_state.Goals as goal

pub returns-in-Ok-write_state-clause-state : goal.returns-in-Ok-write_state-clause-state
returns-in-Ok-write_state-clause-state c = λ _.
    has-state c.args.card.now c.args.path c.args.channel c.in-Ok.found c.args.room.now c.write_state.new.room
    c.write_state.new.written c.in-Ok.ensures.state c.in-Ok.ensures.sized c.in-Ok-write_state.ensures.written

pub returns-in-Err-write_state-clause-refused : goal.returns-in-Err-write_state-clause-refused
returns-in-Err-write_state-clause-refused c = λ _. inr (
  length c.in-Ok.found.contracts.items,
  has-contracts c.args.card.now c.args.path c.args.channel c.in-Ok.found c.in-Ok.ensures.state,
  c.in-Err-write_state.ensures.short,
  c.report-in-Err-write_state.ensures.written ∙ c.in-Err-write_state.ensures.fault,
)
