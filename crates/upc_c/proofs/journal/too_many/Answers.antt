use Rattle.std.proofs.Common.{◌<◌, ◌≤◌, arith}
use Rattle.upc_c.proofs.StateLemmas.{longer-by-state, short-by-state}
use Rattle.upc_c.proofs.journal.too_many.Goals as goal

pub returns-then-state-most-clause-fits : goal.returns-then-state-most-clause-fits
returns-then-state-most-clause-fits c =
    let few : c.in-Some.state.entries ≤ c.args.most = let is = c.if-state-most.true in omega arith in
    short-by-state c.args.core.now c.args.vc c.args.most c.in-Some.state c.in-Some.ensures.state few

pub returns-clause-longer : goal.returns-clause-longer
returns-clause-longer c =
    let more : c.args.most < c.in-Some.state.entries = let is = c.if-state-most.false in omega arith in
    longer-by-state c.args.core.now c.args.vc c.args.most c.in-Some.state c.in-Some.ensures.state more
