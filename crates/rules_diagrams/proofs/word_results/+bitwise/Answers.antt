use Rattle.std.proofs.Common.{◌-◌, length, take, drop}
use Rattle.rules_diagrams.specs.inner.Words.{AreResult}
use Rattle.rules_diagrams.proofs.Results.{if_some}
use Rattle.rules_diagrams.proofs.WordSteps.{result_slices}
use Rattle.rules_diagrams.proofs.word_results.+bitwise.Goals as goal

pub returns-in_ok-before-in-Some-2 : goal.returns-in_ok-before-in-Some-2
returns-in_ok-before-in-Some-2 t c =
    result_slices c.args.op c.args.one.now c.args.other.now c.in_ok-before-in-Some-2.field-0.items c.in-Some-2.bits.items c.in-Some.bit _ _ c.in-len1-up.len_at_least c.in-len1-up-other.len_at_least
    c.in-Some.ensures (if_some c.in_ok-bitwise-in-len1-up-other.field-0 c.in-Some-2.bits (λ bits. AreResult c.args.op (take (length c.args.one.now - 1) (drop 1 c.args.one.now)) (take (length c.args.other.now - 1) (drop 1 c.args.other.now)) bits.items) c.in-Some-2.is c.in_ok-bitwise-in-len1-up-other.ensures) c.in_ok-before-in-Some-2.ensures
