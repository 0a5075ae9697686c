use Rattle.std.proofs.Common.{◌≡◌, ◌+◌, ℕ, List, Option, Some, slice_set, sym, ap, subst, ◌∙◌, add-one}
use Rattle.vc_table.specs.Lines.{ConnectionTable, line_of_mark, HasSameLines, MovesTo}
use Rattle.vc_table.specs.inner.Pool.{pool_of}
use Rattle.vc_table.specs.inner.TableFields.{KeepsTable, table_of}
use Rattle.vc_table.proofs.TableLemmas.{KeepsTable-grown, HasSameLines-grown, KeepsTable-marked, MovesTo-marked, MovesTo-after}
use Rattle.vc_table.proofs.table.VcLines.put.Goals as goal

pub invariant_of-self : goal.invariant_of-self
invariant_of-self c =
    let t = c.self.inside in
    KeepsTable-grown t.row.items (pool_of t.groups) (pool_of t.lines) (pool_of c.ready_both.new.upper)
    (pool_of c.ready_both.new.lower) c.self.invariant c.ready_both.ensures.upper c.ready_both.ensures.lower

pub returns-in-Err-clause-unchanged : goal.returns-in-Err-clause-unchanged
returns-in-Err-clause-unchanged c =
    let t = c.self.inside in
    let groups = pool_of c.ready_both.new.upper in
    let lines = pool_of c.ready_both.new.lower in
    subst (λ (old : ConnectionTable). HasSameLines old (table_of t.row.items groups.entries lines.entries)) c.self.view_is
    (HasSameLines-grown t.row.items (pool_of t.groups) (pool_of t.lines) groups lines c.ready_both.ensures.upper
    c.ready_both.ensures.lower)

pub linked_place-place-requires-clause-table : goal.linked_place-place-requires-clause-table
linked_place-place-requires-clause-table c =
    let t = c.self.inside in
    KeepsTable-grown t.row.items (pool_of t.groups) (pool_of t.lines) (pool_of c.ready_both.new.upper)
    (pool_of c.ready_both.new.lower) c.self.invariant c.ready_both.ensures.upper c.ready_both.ensures.lower

pub invariant_of-self-2 : goal.invariant_of-self-2
invariant_of-self-2 c =
    let row = c.linked_place-place.new.row.items in
    let groups = pool_of c.linked_place-place.new.groups in
    let lines = pool_of c.linked_place-place.new.lines in
    let mark = c.args.line + 1 in
    subst (λ (i : ℕ). KeepsTable row groups
    (record { entries = slice_set lines.entries i mark; next = lines.next; first = lines.first }))
    (sym c.linked_place-place.ensures.place)
    (KeepsTable-marked row groups lines c.linked_place-place.ensures.kept c.args.vc mark
    c.linked_place-place.ensures.reached)

pub returns-clause-moved : goal.returns-clause-moved
returns-clause-moved c =
    let t = c.self.inside in
    let vc = c.args.vc in
    let line = c.args.line in
    let upper = pool_of c.ready_both.new.upper in
    let lower = pool_of c.ready_both.new.lower in
    let row = c.linked_place-place.new.row.items in
    let groups = pool_of c.linked_place-place.new.groups in
    let lines = pool_of c.linked_place-place.new.lines in
    let old = table_of t.row.items t.groups.entries.items t.lines.entries.items in
    let ready = table_of t.row.items upper.entries lower.entries in
    let linked = table_of row groups.entries lower.entries in
    let linked_too = table_of row groups.entries lines.entries in
    let new = table_of row groups.entries (slice_set lines.entries c.linked_place-place.result (line + 1)) in
    let grows : HasSameLines old ready =
    HasSameLines-grown t.row.items (pool_of t.groups) (pool_of t.lines) upper lower c.ready_both.ensures.upper
    c.ready_both.ensures.lower in
    let links : HasSameLines ready linked = λ other. ap line_of_mark (c.linked_place-place.ensures.same other) in
    let marks : lower.entries ≡ lines.entries = sym c.linked_place-place.ensures.marks in
    let links_too : HasSameLines ready linked_too =
    subst (λ (numbers : List ℕ). HasSameLines ready (table_of row groups.entries numbers)) marks links in
    let same : HasSameLines old linked_too = λ other. links_too other ∙ grows other in
    let marked = MovesTo-marked row groups lines c.linked_place-place.ensures.kept vc (line + 1)
    c.linked_place-place.ensures.reached in
    let is_line : line_of_mark (line + 1) ≡ Some line = ap line_of_mark (add-one line) in
    let moves : MovesTo linked_too vc (Some line) new =
    subst (λ (number : Option ℕ). MovesTo linked_too vc number new) is_line
    (subst (λ (i : ℕ). MovesTo linked_too vc (line_of_mark (line + 1))
    (table_of row groups.entries (slice_set lines.entries i (line + 1)))) (sym c.linked_place-place.ensures.place) marked) in
    subst (λ (before : ConnectionTable). MovesTo before vc (Some line) new) c.self.view_is
    (MovesTo-after old linked_too new vc (Some line) same moves)
