-- The marks of a table.
use Rattle.std.proofs.Common.{◌≡◌, ◌≢◌, ℕ, ◌+◌, ◌*◌, ◌/◌, ◌%◌, ◌<◌, ◌≤◌, Option, None, List, [], ◌∷◌, length, replicate, slice_index, slice_set, sym, ap, subst, ◌∙◌, arith}
use Rattle.std.proofs.lemmas.List.{get_or-set_same, get_or-set_other}
use Rattle.upc_cell.specs.declared.vc.Vc.{Vc}
use Rattle.upc_cell.proofs.Public.{vc_is}
use Rattle.vc_table.specs.Lines.{ConnectionTable, row_place, group_place, mark_place, line_of_mark, line_of, HasSameLines, MovesTo}
use Rattle.vc_table.specs.inner.Pool.{Pool, MayGrow, IsZeros}
use Rattle.vc_table.specs.inner.Linked.{IsLinked}
use Rattle.vc_table.specs.inner.TableFields.{KeepsTable, HasBlock, table_of}
use Rattle.vc_table.proofs.PoolLemmas.{at_zeros}
use Rattle.vc_table.proofs.LinkLemmas.{IsLinked-new, IsLinked-same, IsLinked-written, IsLinked-may_grow, at_grown, block-none}

-- The place of a number in the block at the end of a link.
pub place_within : (links : List ℕ) (pool : Pool) → IsLinked links pool → (place k : ℕ) → k < 64
    → 64 * slice_index links place + k < length pool.entries
place_within links pool is place k below = omega (arith, is.within place, is.sized)

-- Two connections with the same group and channel by 64 in it, and the same lower six bits, are the same.
same-place : (one other : Vc) → row_place one ≡ row_place other → one.vci / 64 % 64 ≡ other.vci / 64 % 64
    → one.vci % 64 ≡ other.vci % 64 → one ≡ other
same-place one other rows groups marks =
    let bound_one : one.vpi ≤ 4095 = one.of_an_interface in
    let bound_other : other.vpi ≤ 4095 = other.of_an_interface in
    let uppers : one.vci / 4096 ≡ other.vci / 4096 = omega (arith, rows) in
    let paths : one.vpi ≡ other.vpi = omega (arith, rows, uppers) in
    let channels : one.vci ≡ other.vci = omega (arith, uppers, groups, marks) in
    vc_is one other paths channels

module _ (row : List ℕ) (groups lines : Pool) (kept : KeepsTable row groups lines) where
  -- Where a connection's mark is, no other's is.
  marks-apart : (one other : Vc) → HasBlock row groups.entries one
      → mark_place row groups.entries other ≡ mark_place row groups.entries one → one ≡ other
  marks-apart one other reached same =
      let below_one : one.vci % 64 < 64 = omega arith in
      let below_other : other.vci % 64 < 64 = omega arith in
      let blocks : slice_index groups.entries (group_place row one) ≡ slice_index groups.entries (group_place row other)
      = omega (arith, same) in
      let marks : one.vci % 64 ≡ other.vci % 64 = omega (arith, same, blocks) in
      let places : group_place row one ≡ group_place row other =
      kept.lower.apart (group_place row one) (group_place row other) blocks reached.block in
      let within_one : one.vci / 64 % 64 < 64 = omega arith in
      let within_other : other.vci / 64 % 64 < 64 = omega arith in
      let found : slice_index row (row_place one) ≡ slice_index row (row_place other) = omega (arith, places) in
      let inner : one.vci / 64 % 64 ≡ other.vci / 64 % 64 = omega (arith, places, found) in
      same-place one other (kept.upper.apart (row_place one) (row_place other) found reached.group) inner marks

  pub KeepsTable-marked : (vc : Vc) (mark : ℕ) → HasBlock row groups.entries vc
      → KeepsTable row groups (record { entries = slice_set lines.entries (mark_place row groups.entries vc) mark; next = lines.next; first = lines.first })
  KeepsTable-marked vc mark reached = record {
    rows = kept.rows;
    upper = kept.upper;
    lower = IsLinked-written groups.entries lines kept.lower (group_place row vc) (vc.vci % 64) mark reached.block
        (omega arith);
  }

  pub MovesTo-marked : (vc : Vc) (mark : ℕ) → HasBlock row groups.entries vc
      → MovesTo (table_of row groups.entries lines.entries) vc (line_of_mark mark)
      (table_of row groups.entries (slice_set lines.entries (mark_place row groups.entries vc) mark))
  MovesTo-marked vc mark reached =
      let place = mark_place row groups.entries vc in
      let within = place_within groups.entries lines kept.lower (group_place row vc) (vc.vci % 64) (omega arith) in
      record {
        here = ap line_of_mark (get_or-set_same lines.entries place mark 0 within);
        others = λ other apart. ap line_of_mark
            (get_or-set_other lines.entries place (mark_place row groups.entries other) mark 0
            (λ e. apart (sym (marks-apart vc other reached e))));
      }

  -- A connection with a mark is reached.
  pub HasBlock-marked : (vc : Vc) → slice_index lines.entries (mark_place row groups.entries vc) ≢ 0
      → HasBlock row groups.entries vc
  HasBlock-marked vc marked =
      let at = λ (block : ℕ). slice_index lines.entries (64 * block + vc.vci % 64) in
      let nowhere : slice_index groups.entries (group_place row vc) ≢ 0 =
      λ e. marked (ap at e ∙ block-none groups.entries lines kept.lower (vc.vci % 64) (omega arith)) in
      record {
        group = λ e. nowhere (ap (λ (group : ℕ). slice_index groups.entries (64 * group + vc.vci / 64 % 64)) e
            ∙ block-none row groups kept.upper (vc.vci / 64 % 64) (omega arith));
        block = nowhere;
      }

-- Changes of the parts.

pub KeepsTable-new : (row : List ℕ) (groups lines : Pool) → IsZeros 65536 row
    → groups ≡ (record { entries = replicate 64 0; next = 0 ∷ []; first = 0 })
    → lines ≡ (record { entries = replicate 64 0; next = 0 ∷ []; first = 0 }) → KeepsTable row groups lines
KeepsTable-new row groups lines zeros upper lower = record {
  rows = zeros.counted;
  upper = subst (IsLinked row) (sym upper) (IsLinked-new row zeros.zeros);
  lower =
      let nowhere : (place : ℕ) → slice_index groups.entries place ≡ 0 =
      λ place. ap (λ (pool : Pool). slice_index pool.entries place) upper ∙ at_zeros 64 place in
      subst (IsLinked groups.entries) (sym lower) (IsLinked-new groups.entries nowhere);
}

pub no_lines : (row groups : List ℕ) (lines : Pool)
    → lines ≡ (record { entries = replicate 64 0; next = 0 ∷ []; first = 0 })
    → (vc : Vc) → line_of (table_of row groups lines.entries) vc ≡ None
no_lines row groups lines is vc =
    let place = mark_place row groups vc in
    ap line_of_mark (ap (λ (pool : Pool). slice_index pool.entries place) is ∙ at_zeros 64 place)

pub KeepsTable-grown : (row : List ℕ) (groups lines more_groups more_lines : Pool) → KeepsTable row groups lines
    → MayGrow groups more_groups → MayGrow lines more_lines → KeepsTable row more_groups more_lines
KeepsTable-grown row groups lines more_groups more_lines kept upper lower = record {
  rows = kept.rows;
  upper = IsLinked-may_grow row groups more_groups kept.upper upper;
  lower = IsLinked-same groups.entries more_groups.entries more_lines (at_grown groups more_groups upper)
      (IsLinked-may_grow groups.entries lines more_lines kept.lower lower);
}

pub HasSameLines-grown : (row : List ℕ) (groups lines more_groups more_lines : Pool)
    → MayGrow groups more_groups → MayGrow lines more_lines
    → HasSameLines (table_of row groups.entries lines.entries) (table_of row more_groups.entries more_lines.entries)
HasSameLines-grown row groups lines more_groups more_lines upper lower vc =
    let new_place = mark_place row more_groups.entries vc in
    let place : new_place ≡ mark_place row groups.entries vc =
    ap (λ (block : ℕ). 64 * block + vc.vci % 64) (at_grown groups more_groups upper (group_place row vc)) in
    ap line_of_mark (at_grown lines more_lines lower new_place ∙ ap (slice_index lines.entries) place)

pub MovesTo-after : (old mid new : ConnectionTable) (vc : Vc) (line : Option ℕ) → HasSameLines old mid
    → MovesTo mid vc line new → MovesTo old vc line new
MovesTo-after old mid new vc line same moves = record {
  here = moves.here;
  others = λ other apart. moves.others other apart ∙ same other;
}

pub MovesTo-before : (old mid new : ConnectionTable) (vc : Vc) (line : Option ℕ) → MovesTo old vc line mid
    → HasSameLines mid new → MovesTo old vc line new
MovesTo-before old mid new vc line moves same = record {
  here = same vc ∙ moves.here;
  others = λ other apart. same other ∙ moves.others other apart;
}
