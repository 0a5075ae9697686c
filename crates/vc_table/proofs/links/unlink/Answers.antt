use Rattle.std.proofs.Common.{◌≡◌, ℕ, slice_index, slice_set, subst, arith}
use Rattle.std.proofs.lemmas.Grind.{common_steps}
use Rattle.vc_table.specs.inner.Pool.{pool_of}
use Rattle.vc_table.specs.inner.Linked.{IsLinked}
use Rattle.vc_table.proofs.LinkLemmas.{IsLinked-unlinked}
use Rattle.vc_table.proofs.links.unlink.Goals as goal

pub returns-clause-kept : goal.returns-clause-kept
returns-clause-kept c =
    let links = c.args.links.now.items in
    let pool = pool_of c.args.blocks.now in
    let gone : slice_index links c.args.place ≡ c.index-block.result.now = grind (arith, common_steps) in
    let from : slice_index links c.args.place ≡ c.from.result = grind (arith, common_steps) in
    subst (λ (block : ℕ). IsLinked (slice_set links c.args.place 0)
    (record { entries = pool.entries; next = slice_set pool.next c.from.result pool.first; first = block })) gone
    (subst (λ (block : ℕ). IsLinked (slice_set links c.args.place 0)
    (record { entries = pool.entries; next = slice_set pool.next block pool.first; first = slice_index links c.args.place })) from
    (IsLinked-unlinked links pool c.requires.linked c.args.place c.requires.within c.requires.somewhere c.requires.blank))
