-- The rows of a span count its cells.
use Rattle.std.proofs.Common.{◌≡◌, ◌≢◌, ℕ, suc, ◌+◌, ◌-◌, ◌^◌, ◌<◌, ◌==◌, min, Bool, true, false, cond, List, [], ◌∷◌, Option, Some, None, All, refl, sym, ap, ◌∙◌, subst, arith}
use Rattle.std.specs.BTreeMap.{insert_entry, is_at}
use Rattle.std.specs.Map.{lookup}
use Rattle.std.specs.Ordering.{is_eq, match_ordering, nat_cmp}
use Rattle.std.specs.declared.cmp.Ordering.{Ordering}
use Rattle.std.specs.declared.cmp.Ordering.TheVariants.{Less, Equal, Greater}
use Rattle.std.proofs.lemmas.Bool.{eq-eqb, le-ltb}
use Rattle.std.proofs.lemmas.Map.Lookups.{exact_unsigned}
use Rattle.leaky.specs.declared.verdict.Verdict.{Verdict}
use Rattle.leaky.specs.declared.verdict.Verdict.TheVariants.{Pass, Tag, Discard, Refuse}
use Rattle.line_record.specs.Tally.{counted, nothing, tally_of}
use Rattle.line_record.specs.declared.tally.Tally.{Tally}
use Rattle.upc_cell.specs.Connection.{is_same_vc}
use Rattle.upc_cell.specs.declared.vc.Vc.{Vc}
use Rattle.upc_cell.proofs.Public.{vc_is, vc_itself, vc_same}
use Rattle.cmd_setups.specs.OrderNumber.{order_number}
use Rattle.cmd_setups.specs.SpanCounts.{JudgedCell, counts_of_row, one_more_judged, span_rows, with_judged}
use Rattle.cmd_police.specs.SpanLaws.{RowsCountCells, in_a_word, in_words, row_of, verdicts_of}

-- Numbers in order.

cmp_itself : (x : ℕ) → nat_cmp x x ≡ Equal
cmp_itself x =
    ap (λ b. cond b Less (cond (x == x) Equal Greater)) (le-ltb x x (omega arith)) ∙ ap (λ b. cond b Equal Greater) (eq-eqb x x refl)

cmp_apart : (x y : ℕ) → x ≢ y → is_eq (nat_cmp x y) ≡ false
cmp_apart x y apart =
    let choice : (r : Ordering) → nat_cmp x y ≡ r → is_eq r ≡ false = elim [
      | Less ↦ λ e. refl
      | Equal ↦ λ e. absurd (apart (exact_unsigned x y e))
      | Greater ↦ λ e. refl
    ] in
    choice (nat_cmp x y) refl

is_equal : (x y : ℕ) → is_eq (nat_cmp x y) ≡ true → x ≡ y
is_equal x y is =
    let choice : (r : Ordering) → nat_cmp x y ≡ r → is_eq r ≡ true → x ≡ y = elim [
      | Less ↦ λ e no. absurd (let bad : false ≡ true = no in cc)
      | Equal ↦ λ e no. exact_unsigned x y e
      | Greater ↦ λ e no. absurd (let bad : false ≡ true = no in cc)
    ] in
    choice (nat_cmp x y) refl is

-- What a sorted list has at a key after an entry is put into it.

same_twice : {X : Type 0} (b : Bool) (v w : X) (found : Option X) → cond b (Some v) found ≡ cond b (Some v) (cond b (Some w) found)
same_twice true v w found = refl
same_twice false v w found = refl

find_put : (entries : List (ℕ × (Vc × Tally))) (k q : ℕ) (v : Vc × Tally)
    → lookup (is_at (nat_cmp q)) (insert_entry nat_cmp entries k v) ≡ cond (is_eq (nat_cmp q k)) (Some v) (lookup (is_at (nat_cmp q)) entries)
find_put [] k q v = refl
find_put (e ∷ entries) k q v =
    let At : List (ℕ × (Vc × Tally)) → Option (Vc × Tally) = λ es. lookup (is_at (nat_cmp q)) es in
    let wanted : Option (Vc × Tally) = cond (is_eq (nat_cmp q k)) (Some v) (At (e ∷ entries)) in
    let choice : (r : Ordering) → nat_cmp k e.0 ≡ r
    → At (match_ordering r ((k, v) ∷ e ∷ entries) ((e.0, v) ∷ entries) (e ∷ insert_entry nat_cmp entries k v)) ≡ wanted = elim [
      | Less ↦ λ r. refl
      | Equal ↦ λ r.
          let same : k ≡ e.0 = exact_unsigned k e.0 r in
          same_twice (is_eq (nat_cmp q e.0)) v e.1 (At entries)
          ∙ ap (λ n. cond (is_eq (nat_cmp q n)) (Some v) (At (e ∷ entries))) (sym same)
      | Greater ↦ λ r.
          let rest = find_put entries k q v in
          let by : (b : Bool) → is_eq (nat_cmp q k) ≡ b
          → cond (is_eq (nat_cmp q e.0)) (Some e.1) (cond b (Some v) (At entries)) ≡ cond b (Some v) (At (e ∷ entries)) = elim [
            | true ↦ λ is.
                let apart : q ≢ e.0 = λ same.
                let equal : nat_cmp k e.0 ≡ Equal = ap (λ n. nat_cmp k n) (sym same ∙ is_equal q k is) ∙ cmp_itself k in
                let no : Greater ≡ Equal = sym r ∙ equal in
                cc in
                ap (λ b. cond b (Some e.1) (Some v)) (cmp_apart q e.0 apart)
            | false ↦ λ is. refl
          ] in
          ap (λ (found : Option (Vc × Tally)). cond (is_eq (nat_cmp q e.0)) (Some e.1) found) rest
          ∙ by (is_eq (nat_cmp q k)) refl
    ] in
    choice (nat_cmp k e.0) refl

-- Counts of 64 bits.

word_more : (count : ℕ) → one_more_judged (in_a_word count) ≡ in_a_word (count + 1)
word_more count = omega arith

counts_more : (tally : Tally) (verdict : Verdict) → with_judged (in_words tally) verdict ≡ in_words (counted tally verdict)
counts_more tally Pass = ap (λ n. record (in_words tally) { passed = n }) (word_more tally.passed)
counts_more tally Tag = ap (λ n. record (in_words tally) { tagged = n }) (word_more tally.tagged)
counts_more tally Discard = ap (λ n. record (in_words tally) { discarded = n }) (word_more tally.discarded)
counts_more tally Refuse = ap (λ n. record (in_words tally) { refused = n }) (word_more tally.refused)

-- The counts of a row are those of its verdicts.
row_counts : (vc : Vc) (verdicts : List Verdict) → counts_of_row (row_of vc verdicts) ≡ in_words (tally_of verdicts)
row_counts vc [] = refl
row_counts vc (verdict ∷ earlier) = refl

numbers_apart : (one other : Vc) → one.vci < 2 ^ 16 → other.vci < 2 ^ 16 → one ≢ other → order_number one ≢ order_number other
numbers_apart one other small also apart same =
    let paths : one.vpi ≡ other.vpi = omega (arith, small, also, same) in
    let channels : one.vci ≡ other.vci = omega (arith, small, also, same) in
    apart (vc_is one other paths channels)

pub rows_count_cells : RowsCountCells
rows_count_cells [] small vc within = refl
rows_count_cells (cell ∷ earlier) small vc within =
    let At : Vc → Option (Vc × Tally) = λ v. lookup (is_at (nat_cmp (order_number v))) (span_rows earlier) in
    let first : cell.vc.vci < 2 ^ 16 = small 0 cell (omega arith) in
    let others : All (λ (it : JudgedCell). it.vc.vci < 2 ^ 16) earlier = λ k d h. small (suc k) d (omega (arith, h)) in
    let rest = rows_count_cells earlier others vc within in
    let own = rows_count_cells earlier others cell.vc first in
    let more : with_judged (counts_of_row (At cell.vc)) cell.verdict ≡ in_words (counted (tally_of (verdicts_of cell.vc earlier)) cell.verdict) =
    ap (λ (row : Option (Vc × Tally)). with_judged (counts_of_row row) cell.verdict) own
    ∙ ap (λ (tally : Tally). with_judged tally cell.verdict) (row_counts cell.vc (verdicts_of cell.vc earlier))
    ∙ counts_more (tally_of (verdicts_of cell.vc earlier)) cell.verdict in
    let put = find_put (span_rows earlier) (order_number cell.vc) (order_number vc) (cell.vc, with_judged (counts_of_row (At cell.vc)) cell.verdict) in
    let choice : (b : Bool) → is_same_vc vc cell.vc ≡ b
    → cond (is_eq (nat_cmp (order_number vc) (order_number cell.vc))) (Some (cell.vc, with_judged (counts_of_row (At cell.vc)) cell.verdict)) (At vc)
    ≡ row_of vc (cond b (cell.verdict ∷ verdicts_of vc earlier) (verdicts_of vc earlier)) = elim [
      | true ↦ λ e.
          let same : vc ≡ cell.vc = vc_same vc cell.vc e in
          let here : is_eq (nat_cmp (order_number vc) (order_number cell.vc)) ≡ true =
          ap (λ (v : Vc). is_eq (nat_cmp (order_number vc) (order_number v))) (sym same) ∙ ap is_eq (cmp_itself (order_number vc)) in
          ap (λ b. cond b (Some (cell.vc, with_judged (counts_of_row (At cell.vc)) cell.verdict)) (At vc)) here
          ∙ ap (λ (tally : Tally). Some (cell.vc, tally)) more
          ∙ ap (λ (v : Vc). Some (v, in_words (counted (tally_of (verdicts_of v earlier)) cell.verdict))) (sym same)
      | false ↦ λ e.
          let other : vc ≢ cell.vc = λ same.
          let itself : is_same_vc vc vc ≡ false = subst (λ (v : Vc). is_same_vc vc v ≡ false) (sym same) e in
          let no : true ≡ false = sym (vc_itself vc) ∙ itself in
          cc in
          ap (λ b. cond b (Some (cell.vc, with_judged (counts_of_row (At cell.vc)) cell.verdict)) (At vc))
          (cmp_apart (order_number vc) (order_number cell.vc) (numbers_apart vc cell.vc within first other))
          ∙ rest
    ] in
    put ∙ choice (is_same_vc vc cell.vc) refl
