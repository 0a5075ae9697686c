use Rattle.std.proofs.Common.{◌≡◌, ◌+◌, ◌*◌, ◌/◌, ◌%◌, ◌<◌, ℕ, List, slice_index, slice_set, length, sym, ap, subst, ◌∙◌, arith}
use Rattle.std.proofs.lemmas.List.{length-set}
use Rattle.vc_table.specs.inner.Pool.{pool_of}
use Rattle.vc_table.specs.inner.Linked.{IsLinked}
use Rattle.vc_table.proofs.LinkLemmas.{IsLinked-written}
use Rattle.vc_table.proofs.TableLemmas.{place_within}
use Rattle.vc_table.proofs.table.linked_place.Goals as goal

pub linked-block-requires-clause-within : goal.linked-block-requires-clause-within
linked-block-requires-clause-within c =
    let k = c.from-channel.result / 64 % 64 in
    let below : k < 64 = omega arith in
    let here = c.linked-group.ensures.here in
    let within = place_within c.linked-group.new.links.items (pool_of c.linked-group.new.blocks) c.linked-group.ensures.kept
    c.path_place.result k below in
    omega (arith, here, within)

pub returns-clause-kept : goal.returns-clause-kept
returns-clause-kept c =
    let row = c.linked-group.new.links.items in
    let groups = pool_of c.linked-group.new.blocks in
    let k = c.from-channel.result / 64 % 64 in
    let below : k < 64 = omega arith in
    let here = c.linked-group.ensures.here in
    let place : 64 * slice_index row c.path_place.result + k ≡ 64 * c.from.result + k = omega (arith, here) in
    let written = IsLinked-written row groups c.linked-group.ensures.kept c.path_place.result k c.linked-block.result
    (λ e. c.linked-group.ensures.somewhere (sym here ∙ e)) below in
    let entries : slice_set groups.entries (64 * slice_index row c.path_place.result + k) c.linked-block.result ≡ c.linked-block.new.links.items =
    ap (λ (i : ℕ). slice_set groups.entries i c.linked-block.result) place ∙ sym c.linked-block.ensures.links in
    record {
      rows = ap length c.linked-group.ensures.links
          ∙ length-set c.args.row.now.items c.path_place.result c.linked-group.result ∙ c.requires.table.rows;
      upper = subst (λ (numbers : List ℕ). IsLinked row (record { entries = numbers; next = groups.next; first = groups.first }))
          entries written;
      lower = c.linked-block.ensures.kept;
    }
