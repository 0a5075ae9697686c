use Rattle.rules_code.proofs.Made.{made_branched}
use Rattle.rules_code.proofs.draft.Draft.branch.Goals as goal

pub returns : goal.returns
returns c =
    made_branched c.args.test c.args.k c.args.self.now c.near.new.self c.near-2.new.self c.put.new.self c.args.met c.args.unmet
    c.in_ok-met.met c.in_ok-unmet.unmet c.saturating_sub-jt.result c.saturating_sub-jf.result c.len-3.result
    c.in_ok-met.ensures.code c.in_ok-met.ensures.label c.in_ok-unmet.ensures.code c.in_ok-unmet.ensures.label
    (cc) (cc) c.in_ok-put.ensures c.len-3.ensures.count
