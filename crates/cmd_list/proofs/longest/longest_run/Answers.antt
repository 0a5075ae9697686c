-- One place more, and the first place.
use Rattle.std.proofs.Common.{◌≡◌, ℕ, ◌-◌, ◌<◌, length, subst, arith}
use Rattle.cmd_list.proofs.LongestFound.{AreLongest, are_before, before_there, longest_found, longest_more, onward_small}
use Rattle.cmd_list.specs.inner.LongestRuns.{leads_within}
use Rattle.cmd_list.proofs.longest.longest_run.Goals as goal

pub loop-place-init : goal.loop-place-init
loop-place-init c = λ later le lt. absurd (omega (arith, le, lt))

pub longest_onward-requires : goal.longest_onward-requires
longest_onward-requires c next leads =
    let lt = leads_within c.args.code.now (c.loop-place.place - 1) _ next c.requires
    (before_there c.args.code.now c.loop-place.place _ c.loop-place-test.true c.loop-place.auto.place) leads in
    omega (arith, lt, c.requires.sized.most, c.loop-place-test.array_long)

pub overflow_add-longest : goal.overflow_add-longest
overflow_add-longest c =
    let are = are_before c.args.code.now c.loop-place.longest c.loop-place.place c.loop-place-test.true c.loop-place.invariant in
    let small = onward_small c.args.code.now c.requires c.loop-place.longest (c.loop-place.place - 1) _
    (before_there c.args.code.now c.loop-place.place _ c.loop-place-test.true c.loop-place.auto.place) are c.longest_onward.result c.longest_onward.ensures.reached in
    omega (arith, small)

pub loop-place-preserved : goal.loop-place-preserved
loop-place-preserved c =
    let are = are_before c.args.code.now c.loop-place.longest c.loop-place.place c.loop-place-test.true c.loop-place.invariant in
    let room : c.loop-place.place - 1 < length c.loop-place.longest =
    omega (arith, c.loop-place-test.true, c.loop-place.auto.place, c.requires.sized.most, c.loop-place-test.array_long) in
    longest_more c.args.code.now c.requires c.loop-place.longest (c.loop-place.place - 1) _
    (before_there c.args.code.now c.loop-place.place _ c.loop-place-test.true c.loop-place.auto.place) are c.longest_onward.result room c.longest_onward.ensures.reached c.longest_onward.ensures.most

pub returns : goal.returns
returns c =
    let none : c.loop-place.place ≡ 0 = omega (arith, c.loop-place-test.false) in
    longest_found c.args.code.now c.loop-place.longest c.requires (subst (λ (n : ℕ). AreLongest c.args.code.now c.loop-place.longest n) none c.loop-place.invariant)
