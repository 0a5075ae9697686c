-- A span of numbers, bit by bit.
use Rattle.std.proofs.Common.{◌≡◌, ℕ, ◌+◌, ◌-◌, ◌*◌, ◌/◌, ◌%◌, ◌^◌, ◌≤◌, ◌<◌, ◌==◌, Bool, true, false, if◌then◌else◌, List, bit_and, refl, sym, ap, subst, ◌∙◌, arith}
use Rattle.std.proofs.lemmas.Bool.{eqb-true}
use Rattle.std.proofs.lemmas.Bool.Decides.{nat_tests}
use Rattle.std.proofs.lemmas.Nat.{pow_pos, shr-shr, shr_split, mod-pow-add, mod_below, and_le_l, and_comm, and_mask, and_mod, and_block}
use Rattle.std.proofs.Math.Nat.{mod-eq_of_lt}
use Rattle.rules_diagrams.specs.inner.CellBits.{is_set}
use Rattle.rules_diagrams.specs.inner.Values.{diagram_value, Keeps}
use Rattle.rules_diagrams.specs.inner.Spans.{bits_number, is_between, truth, IsSpan}
use Rattle.rules_diagrams.specs.inner.Store.{DecidesByBit}
use Rattle.rules_diagrams.specs.declared.diagram.Diagram.{Diagram}
use Rattle.rules_diagrams.specs.declared.diagram.Diagram.TheVariants.{Leaf}
use Rattle.rules_diagrams.specs.declared.diagram.Node.{Node}
use Rattle.rules_diagrams.specs.declared.span.Bits.{Bits}
use Rattle.rules_diagrams.specs.declared.span.Interval.{Interval}
use Rattle.rules_diagrams.proofs.Nodes.{keeps_both}

-- What the highest of some bits counts, if it is set.
abbrev part : Bool → ℕ → ℕ
part b half = if b then half else 0

bit_part : (x half : ℕ) → (x % 2) * half ≡ part (x % 2 == 1) half
bit_part x half =
    let cases : (b : Bool) → (x % 2 == 1) ≡ b → (x % 2) * half ≡ part b half = elim [
      | true ↦ λ e. let one = eqb-true (x % 2) 1 e in ap (λ n. n * half) one ∙ omega arith
      | false ↦ λ e. let none : x % 2 ≡ 0 = grind (arith, nat_tests) in ap (λ n. n * half) none ∙ omega arith
    ] in
    cases (x % 2 == 1) refl

bits_below : (cell bit width : ℕ) → bits_number cell bit width < 2 ^ width
unfolding bits_number
bits_below cell bit width = mod_below (cell / 2 ^ (416 - (bit + width))) (2 ^ width) (pow_pos width)

bits_more : (cell bit width : ℕ) → 0 < width → bit + width ≤ 416
    → bits_number cell bit width ≡ part (is_set cell bit) (2 ^ (width - 1)) + bits_number cell (bit + 1) (width - 1)
unfolding bits_number is_set
bits_more cell bit width pos fits =
    let place = 416 - (bit + width) in
    let rest = width - 1 in
    let whole : 1 + rest ≡ width = omega arith in
    let later : 416 - (bit + 1 + rest) ≡ place = omega arith in
    let first : place + rest ≡ 415 - bit = omega arith in
    let cut = mod-pow-add (cell / 2 ^ place) 1 rest in
    let highest : cell / 2 ^ place / 2 ^ rest ≡ cell / 2 ^ (415 - bit) = shr-shr cell place rest ∙ ap (λ n. cell / 2 ^ n) first in
    let counted : (cell / 2 ^ place / 2 ^ rest % 2 ^ 1) * 2 ^ rest ≡ part (cell / 2 ^ (415 - bit) % 2 == 1) (2 ^ rest) =
    ap (λ n. (n % 2) * 2 ^ rest) highest ∙ bit_part (cell / 2 ^ (415 - bit)) (2 ^ rest) in
    ap (λ n. cell / 2 ^ place % 2 ^ n) (sym whole)
    ∙ (cut ∙ (ap (λ n. n + cell / 2 ^ place % 2 ^ rest) counted ∙ ap (λ n. part (cell / 2 ^ (415 - bit) % 2 == 1) (2 ^ rest) + cell / 2 ^ n % 2 ^ rest) (sym later)))

-- ---- masks

and_low : (r mask w : ℕ) → r < 2 ^ w → bit_and r (mask % 2 ^ w) ≡ bit_and r mask
and_low r mask w lt =
    let kept : bit_and r mask < 2 ^ w = omega (arith, and_le_l r mask) in
    ap (λ n. bit_and n (mask % 2 ^ w)) (sym (mod-eq_of_lt lt)) ∙ (sym (and_mod r mask w) ∙ mod-eq_of_lt kept)

mask_parts : (a r mask w : ℕ) → r < 2 ^ w → bit_and (a * 2 ^ w + r) mask ≡ bit_and a (mask / 2 ^ w) * 2 ^ w + bit_and r mask
mask_parts a r mask w lt =
    ap (λ n. bit_and (a * 2 ^ w + r) n) (sym (shr_split mask w))
    ∙ (and_block w a (mask / 2 ^ w) r (mask % 2 ^ w) lt (mod_below mask (2 ^ w) (pow_pos w))
    ∙ ap (λ n. bit_and a (mask / 2 ^ w) * 2 ^ w + n) (and_low r mask w lt))

one_and : (m : ℕ) → bit_and 1 m ≡ m % 2
one_and m = and_comm 1 m ∙ and_mask m 1

-- The number that the mask keeps: its highest bit counts if the mask has it.
masked_more : (b : Bool) (r mask w : ℕ) → r < 2 ^ w → bit_and (part b (2 ^ w) + r) mask ≡ (if b then part (mask / 2 ^ w % 2 == 1) (2 ^ w) else 0) + bit_and r mask
masked_more true r mask w lt =
    let one : 2 ^ w + r ≡ 1 * 2 ^ w + r = omega arith in
    ap (λ n. bit_and n mask) one
    ∙ (mask_parts 1 r mask w lt
    ∙ (ap (λ n. n * 2 ^ w + bit_and r mask) (one_and (mask / 2 ^ w)) ∙ ap (λ n. n + bit_and r mask) (bit_part (mask / 2 ^ w) (2 ^ w))))
masked_more false r mask w lt = let e : 0 + r ≡ r = omega arith in ap (λ n. bit_and n mask) e ∙ sym (omega arith)

-- The bits of a cell that a mask keeps.
abbrev kept : ℕ → ℕ → ℕ → ℕ → ℕ
kept cell bit width mask = bit_and (bits_number cell bit width) mask

kept_below : (cell bit width mask : ℕ) → kept cell bit width mask < 2 ^ width
kept_below cell bit width mask = omega (arith, bits_below cell bit width, and_le_l (bits_number cell bit width) mask)

kept_more : (cell bit width mask : ℕ) → 0 < width → bit + width ≤ 416
    → kept cell bit width mask
    ≡ (if is_set cell bit then part (mask / 2 ^ (width - 1) % 2 == 1) (2 ^ (width - 1)) else 0) + kept cell (bit + 1) (width - 1) mask
kept_more cell bit width mask pos fits =
    ap (λ n. bit_and n mask) (bits_more cell bit width pos fits)
    ∙ masked_more (is_set cell bit) (bits_number cell (bit + 1) (width - 1)) mask (width - 1) (bits_below cell (bit + 1) (width - 1))

nothing_counts : (b : Bool) → part b 0 ≡ 0
nothing_counts true = refl
nothing_counts false = refl

-- ---- spans

between_no : (low end n : ℕ) → end ≤ low → truth (is_between low end n) ≡ 0
between_no low end n le = let e : is_between low end n ≡ false = grind (arith, nat_tests) in ap truth e

between_past : (low end n : ℕ) → n < low → truth (is_between low end n) ≡ 0
between_past low end n lt = let e : is_between low end n ≡ false = grind (arith, nat_tests) in ap truth e

between_all : (low end n : ℕ) → low ≡ 0 → n < end → truth (is_between low end n) ≡ 1
between_all low end n z lt = let e : is_between low end n ≡ true = grind (arith, nat_tests) in ap truth e

between_moved : (low end half n : ℕ) → is_between low end (half + n) ≡ is_between (low - half) (end - half) n
between_moved low end half n = grind (arith, nat_tests)

module _ (nodes : List Node) (bits : Bits) (mask : ℕ) (reach : Interval) (inside : bits.bit + bits.width ≤ 416) where
  pub span_empty : reach.end ≤ reach.low → IsSpan nodes bits mask reach (Leaf 0)
  span_empty le = record {
    within = tt;
    top = omega arith;
    value = λ cell. sym (between_no reach.low reach.end (kept cell bits.bit bits.width mask) le);
  }

  pub span_past : 2 ^ bits.width ≤ reach.low → IsSpan nodes bits mask reach (Leaf 0)
  span_past le = record {
    within = tt;
    top = omega arith;
    value = λ cell.
        let below = kept_below cell bits.bit bits.width mask in
        sym (between_past reach.low reach.end (kept cell bits.bit bits.width mask) (omega arith));
  }

  pub span_all : reach.low ≡ 0 → 2 ^ bits.width ≤ reach.end → IsSpan nodes bits mask reach (Leaf 1)
  span_all z le = record {
    within = tt;
    top = omega arith;
    value = λ cell.
        let below = kept_below cell bits.bit bits.width mask in
        sym (between_all reach.low reach.end (kept cell bits.bit bits.width mask) z (omega arith));
  }

  -- A bit that the mask hasn't decides nothing.
  pub span_skipped : (rest : Bits) (diagram : Diagram) → 0 < bits.width → rest.bit ≡ bits.bit + 1 → rest.width ≡ bits.width - 1 → (mask / 2 ^ rest.width % 2 == 1) ≡ false
      → IsSpan nodes rest mask reach diagram → IsSpan nodes bits mask reach diagram
  span_skipped rest diagram pos bit width lacks is = record {
    within = is.within;
    top = omega (arith, is.top);
    value = λ cell.
        let unset : (mask / 2 ^ (bits.width - 1) % 2 == 1) ≡ false = subst (λ n. (mask / 2 ^ n % 2 == 1) ≡ false) width lacks in
        let nothing : (if is_set cell bits.bit then part (mask / 2 ^ (bits.width - 1) % 2 == 1) (2 ^ (bits.width - 1)) else 0) ≡ 0 =
        ap (λ (b : Bool). if is_set cell bits.bit then part b (2 ^ (bits.width - 1)) else 0) unset
        ∙ nothing_counts (is_set cell bits.bit) in
        let same : kept cell rest.bit rest.width mask ≡ kept cell (bits.bit + 1) (bits.width - 1) mask =
        ap (λ n. kept cell n rest.width mask) bit ∙ ap (λ n. kept cell (bits.bit + 1) n mask) width in
        let whole : kept cell rest.bit rest.width mask ≡ kept cell bits.bit bits.width mask =
        omega (arith, same, nothing, kept_more cell bits.bit bits.width mask pos inside) in
        is.value cell ∙ ap (λ n. truth (is_between reach.low reach.end n)) whole;
  }

  pub span_joined : (low_done high_done : List Node) (rest : Bits) (less : Interval) (low high made : Diagram) → 0 < bits.width → rest.bit ≡ bits.bit + 1 → rest.width ≡ bits.width - 1
      → (mask / 2 ^ rest.width % 2 == 1) ≡ true → less.low ≡ reach.low - 2 ^ rest.width → less.end ≡ reach.end - 2 ^ rest.width
      → IsSpan low_done rest mask reach low → Keeps low_done high_done → IsSpan high_done rest mask less high → Keeps high_done nodes
      → DecidesByBit nodes bits.bit low high made → IsSpan nodes bits mask reach made
  span_joined low_done high_done rest less low high made pos bit width has less_low less_end low_is to_high high_is to_end is =
      let half = 2 ^ (bits.width - 1) in
      let set : (mask / half % 2 == 1) ≡ true = subst (λ n. (mask / 2 ^ n % 2 == 1) ≡ true) width has in
      let low_at = (keeps_both low_done high_done nodes to_high to_end).same low low_is.within in
      let high_at = to_end.same high high_is.within in
      let later : ℕ → ℕ = λ cell. kept cell (bits.bit + 1) (bits.width - 1) mask in
      let same : (cell : ℕ) → kept cell rest.bit rest.width mask ≡ later cell = λ cell.
      ap (λ n. kept cell n rest.width mask) bit ∙ ap (λ n. kept cell (bits.bit + 1) n mask) width in
      let whole : (cell : ℕ) → kept cell bits.bit bits.width mask ≡ (if is_set cell bits.bit then half else 0) + later cell = λ cell.
      kept_more cell bits.bit bits.width mask pos inside
      ∙ ap (λ (b : Bool). (if is_set cell bits.bit then part b half else 0) + later cell) set in
      let at : (cell : ℕ) (b : Bool) → diagram_value nodes (if b then high else low) cell ≡ truth (is_between reach.low reach.end ((if b then half else 0) + later cell)) = λ cell. elim [
        | true ↦ high_at.value cell
            ∙ (high_is.value cell
            ∙ (ap (λ n. truth (is_between less.low less.end n)) (same cell)
            ∙ (ap (λ n. truth (is_between n less.end (later cell))) (less_low ∙ ap (λ n. reach.low - 2 ^ n) width)
            ∙ (ap (λ n. truth (is_between (reach.low - half) n (later cell))) (less_end ∙ ap (λ n. reach.end - 2 ^ n) width)
            ∙ ap truth (sym (between_moved reach.low reach.end half (later cell)))))))
        | false ↦ low_at.value cell
            ∙ (low_is.value cell
            ∙ (ap (λ n. truth (is_between reach.low reach.end n)) (same cell) ∙ ap (λ n. truth (is_between reach.low reach.end n)) (sym (omega arith))))
      ] in
      record {
        within = is.within;
        top = is.top;
        value = λ cell.
            is.value cell ∙ (at cell (is_set cell bits.bit) ∙ ap (λ n. truth (is_between reach.low reach.end n)) (sym (whole cell)));
      }
