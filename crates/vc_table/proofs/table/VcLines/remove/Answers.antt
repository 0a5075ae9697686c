use Rattle.std.proofs.Common.{◌≡◌, ◌≢◌, ℕ, List, None, slice_index, slice_set, sym, ap, subst, arith}
use Rattle.std.proofs.lemmas.Grind.{common_steps}
use Rattle.vc_table.specs.Lines.{ConnectionTable, mark_place, line_of_mark, HasSameLines, MovesTo}
use Rattle.vc_table.specs.inner.Pool.{pool_of}
use Rattle.vc_table.specs.inner.TableFields.{table_of}
use Rattle.vc_table.proofs.TableLemmas.{MovesTo-marked, HasBlock-marked, MovesTo-before}
use Rattle.vc_table.proofs.table.VcLines.remove.Goals as goal

pub returns-clause-gone : goal.returns-clause-gone
returns-clause-gone c =
    let t = c.self.inside in
    let vc = c.args.vc in
    let row = t.row.items in
    let groups = pool_of t.groups in
    let lines = pool_of t.lines in
    let place = c.place_of-place.result in
    let place_is : place ≡ mark_place row groups.entries vc = c.place_of-place.ensures in
    let used : slice_index lines.entries place ≢ 0 = grind (arith, common_steps) in
    let reached = HasBlock-marked row groups lines c.self.invariant vc
    (subst (λ (i : ℕ). slice_index lines.entries i ≢ 0) place_is used) in
    let old = table_of row groups.entries lines.entries in
    let cleared = table_of row groups.entries (slice_set lines.entries place 0) in
    let tidied = table_of c.tidy.new.row.items c.tidy.new.groups.entries.items (slice_set lines.entries place 0) in
    let moves : MovesTo old vc None cleared =
    subst (λ (i : ℕ). MovesTo old vc None (table_of row groups.entries (slice_set lines.entries i 0))) (sym place_is)
    (MovesTo-marked row groups lines c.self.invariant vc 0 reached) in
    let same : HasSameLines cleared tidied = λ other. ap line_of_mark (c.tidy.ensures.same other) in
    let gone : MovesTo old vc None tidied = MovesTo-before old cleared tidied vc None moves same in
    subst (λ (before : ConnectionTable). MovesTo before vc None
    (table_of c.tidy.new.row.items c.tidy.new.groups.entries.items c.tidy.new.lines.entries.items)) c.self.view_is
    (subst (λ (numbers : List ℕ). MovesTo old vc None
    (table_of c.tidy.new.row.items c.tidy.new.groups.entries.items numbers)) (sym c.tidy.ensures.marks) gone)
