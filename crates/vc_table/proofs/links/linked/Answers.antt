use Rattle.std.proofs.Common.{◌≡◌, ℕ, slice_index, slice_set, subst, arith}
use Rattle.std.proofs.lemmas.Grind.{common_steps}
use Rattle.vc_table.specs.inner.Pool.{pool_of}
use Rattle.vc_table.specs.inner.Linked.{IsLinked}
use Rattle.vc_table.proofs.LinkLemmas.{IsLinked-linked}
use Rattle.vc_table.proofs.links.linked.Goals as goal

pub returns-clause-kept : goal.returns-clause-kept
returns-clause-kept c =
    let links = c.args.links.now.items in
    let pool = pool_of c.args.blocks.now in
    let next : slice_index pool.next pool.first ≡ c.index.result.now = grind (arith, common_steps) in
    let nowhere : slice_index links c.args.place ≡ 0 = grind (arith, common_steps) in
    subst (λ (first : ℕ). IsLinked (slice_set links c.args.place pool.first)
    (record { entries = pool.entries; next = pool.next; first = first })) next
    (IsLinked-linked links pool c.requires.linked c.args.place c.requires.within nowhere c.requires.ready)
