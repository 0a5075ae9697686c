-- The card is unchanged up to the look-up of the state.
use Rattle.std.proofs.Common.{rules, inr, sym, ◌∙◌}
use Rattle.upc_c.proofs.state.state_on.Goals as goal

pub returns-in-Some-clause-state : goal.returns-in-Some-clause-state
returns-in-Some-clause-state c = let called = c.in_ok-state.ensures.called in record {
  vc = c.in-Ok.vc;
  numbers = c.in-Ok.ensures.vc;
  core = called.old;
  had = sym c.vc_on.ensures.kept ∙ called.had;
  so = search rules;
}

pub returns-in-None-clause-fault : goal.returns-in-None-clause-fault
returns-in-None-clause-fault c = let called = c.in_ok-state.ensures.called in inr (inr (
  record {
    vc = c.in-Ok.vc;
    numbers = c.in-Ok.ensures.vc;
    core = called.old;
    had = sym c.vc_on.ensures.kept ∙ called.had;
    none = search rules;
  },
  c.desk_fault_for_c.ensures.fault,
))
