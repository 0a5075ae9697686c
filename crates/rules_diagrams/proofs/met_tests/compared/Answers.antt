use Rattle.rules_cells.specs.Fields.{is_so, number_in}
use Rattle.rules_code.specs.PlainTests.{kept_bits}
use Rattle.rules_diagrams.specs.inner.Spans.{is_between}
use Rattle.rules_diagrams.proofs.Telling.{denied_by, unequal_so, above_so, at_least_so}
use Rattle.rules_diagrams.proofs.met_tests.compared.Goals as goal

pub returns-in_ok-equal-in-Unequal-clause-tells : goal.returns-in_ok-equal-in-Unequal-clause-tells
returns-in_ok-equal-in-Unequal-clause-tells c =
    denied_by c.reached-in-Unequal.new.diagrams c.denied.new.diagrams c.in_ok-equal-in-Unequal.equal c.denied.result (λ cell. is_between c.within-in-Unequal.result.low c.within-in-Unequal.result.end (kept_bits c.args.mask (number_in c.args.side c.args.field cell)))
    (λ cell. is_so c.args.relation.now (kept_bits c.args.mask (number_in c.args.side c.args.field cell)))
    (λ cell. unequal_so c.args.relation.now c.in-Unequal.k c.within-in-Unequal.result.low c.within-in-Unequal.result.end (kept_bits c.args.mask (number_in c.args.side c.args.field cell)) c.in-Unequal.is c.within-in-Unequal.ensures.low c.within-in-Unequal.ensures.end)
    c.in_ok-equal-in-Unequal.ensures.tells c.denied.ensures.tells

pub returns-in_ok-at_most-in-Greater-clause-tells : goal.returns-in_ok-at_most-in-Greater-clause-tells
returns-in_ok-at_most-in-Greater-clause-tells c =
    denied_by c.reached-in-Greater.new.diagrams c.denied-in-Greater.new.diagrams c.in_ok-at_most-in-Greater.at_most c.denied-in-Greater.result (λ cell. is_between c.up_to-in-Greater.result.low c.up_to-in-Greater.result.end (kept_bits c.args.mask (number_in c.args.side c.args.field cell)))
    (λ cell. is_so c.args.relation.now (kept_bits c.args.mask (number_in c.args.side c.args.field cell)))
    (λ cell. above_so c.args.relation.now c.in-Greater.k c.up_to-in-Greater.result.low c.up_to-in-Greater.result.end (kept_bits c.args.mask (number_in c.args.side c.args.field cell)) c.in-Greater.is c.up_to-in-Greater.ensures.low c.up_to-in-Greater.ensures.end)
    c.in_ok-at_most-in-Greater.ensures.tells c.denied-in-Greater.ensures.tells

pub returns-in_ok-less-in-AtLeast-clause-tells : goal.returns-in_ok-less-in-AtLeast-clause-tells
returns-in_ok-less-in-AtLeast-clause-tells c =
    denied_by c.reached-in-AtLeast.new.diagrams c.denied-in-AtLeast.new.diagrams c.in_ok-less-in-AtLeast.less c.denied-in-AtLeast.result (λ cell. is_between c.below-in-AtLeast.result.low c.below-in-AtLeast.result.end (kept_bits c.args.mask (number_in c.args.side c.args.field cell)))
    (λ cell. is_so c.args.relation.now (kept_bits c.args.mask (number_in c.args.side c.args.field cell)))
    (λ cell. at_least_so c.args.relation.now c.in-AtLeast.k c.below-in-AtLeast.result.low c.below-in-AtLeast.result.end (kept_bits c.args.mask (number_in c.args.side c.args.field cell)) c.in-AtLeast.is c.below-in-AtLeast.ensures.low c.below-in-AtLeast.ensures.end)
    c.in_ok-less-in-AtLeast.ensures.tells c.denied-in-AtLeast.ensures.tells
