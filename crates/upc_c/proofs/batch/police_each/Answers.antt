use Rattle.std.proofs.Common.{◌≡◌, length, le_antisymm, subst}
use Rattle.upc_c.proofs.Batches.{first-kept, first-more, first-none, refuses-next}
use Rattle.upc_c.specs.inner.CellsOnCore.{PolicesFirst}
use Rattle.upc_c.proofs.batch.police_each.Goals as goal

pub loop-number-init : goal.loop-number-init
loop-number-init c = record {
  reached = c.requires.reached;
  policed = first-none c.args.core.now c.args.octets.now c.args.stride c.args.moments.now c.args.answers.now;
}

pub loop-number-preserved : goal.loop-number-preserved
loop-number-preserved c = record {
  reached = c.police_number.ensures.reached;
  policed = first-more c.args.core.now c.loop-number.core c.police_number.new.core c.args.octets.now c.loop-number.octets c.police_number.new.octets
      c.args.stride c.args.moments.now c.args.answers.now c.loop-number.answers c.loop-number.number _ c.in-Ok.answer
      c.loop-number.invariant.reached c.loop-number-test.true c.requires.fits c.loop-number.invariant.policed c.in-Ok.ensures.policed;
}

pub returns-in-Err-clause-policed : goal.returns-in-Err-clause-policed
returns-in-Err-clause-policed c = first-kept c.args.core.now c.loop-number.core c.police_number.new.core c.args.octets.now c.loop-number.octets
    c.police_number.new.octets c.args.stride c.args.moments.now c.args.answers.now c.loop-number.answers c.loop-number.number
    c.in-Err.ensures.left c.in-Err.ensures.octets_left c.loop-number.invariant.policed

pub returns-in-Err-clause-refused : goal.returns-in-Err-clause-refused
returns-in-Err-clause-refused c = refuses-next c.loop-number.core c.police_number.new.core c.loop-number.octets c.police_number.new.octets c.args.stride
    c.args.moments.now c.loop-number.number _ c.in-Err.found c.in-Err.ensures.left c.in-Err.ensures.octets_left c.loop-number-test.true
    c.in-Err.ensures.refused

pub returns-clause-policed : goal.returns-clause-policed
returns-clause-policed c =
    let all : c.loop-number.number ≡ length c.args.moments.now = le_antisymm c.loop-number.auto.number-end c.loop-number-test.false in
    subst (PolicesFirst c.args.core.now c.loop-number.core c.args.octets.now c.loop-number.octets c.args.stride c.args.moments.now c.args.answers.now
    c.loop-number.answers) all c.loop-number.invariant.policed
