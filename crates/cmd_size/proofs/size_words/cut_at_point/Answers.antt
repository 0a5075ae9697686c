-- The first point cuts the text. A text without a point isn't cut.
use Rattle.std.proofs.Common.{arith, sym}
use Rattle.cmd_size.proofs.PointLemmas.{cut_there, uncut, not_true}
use Rattle.cmd_size.proofs.size_words.cut_at_point.Goals as goal

pub returns-in-Some : goal.returns-in-Some
returns-in-Some c =
    let found = c.in-Some.ensures in
    cut_there 46 c.args.text.now c.in-Some.place found.0.high found.1 (λ k below. not_true _ (found.0.before k (omega arith) below))

pub returns-in-None : goal.returns-in-None
returns-in-None c =
    sym (uncut 46 c.args.text.now (λ k below. not_true _ (c.in-None.ensures k (omega arith) below)))
