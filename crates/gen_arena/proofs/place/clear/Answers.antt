use Rattle.std.proofs.Common.{◌≡◌, ℕ, length, ◌∙◌, subst, arith}
use Rattle.gen_arena.proofs.PlaceLemmas.{ClearedTo, ClearedTo-next, ClearedTo-last}
use Rattle.gen_arena.proofs.place.clear.Goals as goal

pub loop-k-preserved : goal.loop-k-preserved
loop-k-preserved g c =
    let next = ClearedTo-next c.loop-k.boxes.held (length c.args.boxes.now.held) c.args.count c.loop-k.k c.loop-k-test.true c.loop-k.invariant.1 in
    (c.take.ensures.blank.0 ∙ c.loop-k.invariant.0, rw (c.take.ensures.blank.1, c.from.ensures) next)

pub returns-clause-blank : goal.returns-clause-blank
returns-clause-blank g c =
    let all : c.loop-k.k ≡ c.args.count = omega (arith, c.loop-k-test.false, c.loop-k.auto.k-end) in
    let room = length c.args.boxes.now.held in
    let P : ℕ → Type 0 = λ k. ClearedTo c.loop-k.boxes.held room c.args.count k in
    ClearedTo-last c.loop-k.boxes.held room c.args.count (subst P all c.loop-k.invariant.1)
