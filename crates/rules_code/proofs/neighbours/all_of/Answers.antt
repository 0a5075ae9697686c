use Rattle.std.proofs.Common.{◌<◌, length, arith}
use Rattle.std.proofs.lemmas.Bool.Decides.{nat_tests}
use Rattle.rules_code.proofs.AllOf.{all_of_more, removed}
use Rattle.rules_code.proofs.neighbours.all_of.Goals as goal

pub returns : goal.returns
returns c =
    let tests = c.args.tests.items in
    let first = c.remove-first.result in
    let others = c.remove-first.new.self.items in
    let done = c.in_ok-operands.operands.items in
    let some : 0 < length tests = omega arith in
    let more : 0 < length done = grind (arith, nat_tests) in
    all_of_more tests first others done c.in_ok-operands.last c.push.new.self (removed tests first others some c.remove-first.ensures.value c.remove-first.ensures.by_index.2) c.in_ok-operands.ensures
    c.in_ok-push.ensures.items more
