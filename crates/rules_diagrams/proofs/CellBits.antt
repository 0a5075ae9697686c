-- Bits of cells that are set one after another.
use Rattle.std.proofs.Common.{◌≡◌, ◌≢◌, ℕ, zero, suc, ◌+◌, ◌-◌, ◌*◌, ◌/◌, ◌%◌, ◌^◌, ◌≤◌, ◌<◌, ◌==◌, true, false, List, [], ◌∷◌, replicate, length, drop, get_or, slice_index, slice_set, refl, sym, ap, subst, ◌∙◌, ◌⊎◌, inl, inr, arith}
use Rattle.std.proofs.lemmas.Bool.{cases_eq}
use Rattle.std.proofs.lemmas.Bool.Decides.{nat_tests}
use Rattle.std.proofs.lemmas.Nat.{pow_pos, pow-add, shr-shr, div-mul-add, mod-mul-add, mod-pow-add, mod_below, mul-le, one_shl, div-add-mod'}
use Rattle.std.proofs.Math.Nat.{mod-eq_of_lt}
use Rattle.std.proofs.lemmas.List.{length-set, length-replicate, get_or-set_same, get_or-set_other, get_or-drop}
use Rattle.byteorder.specs.Endian.{big_number}
use Rattle.rules_cells.specs.Fields.{IsCell}
use Rattle.rules_diagrams.specs.CellNumbers.{octets_number}
use Rattle.rules_diagrams.specs.inner.CellBits.{is_set}
use Rattle.rules_diagrams.specs.inner.Walks.{IsClearFrom}
use Rattle.rules_diagrams.proofs.FieldBits.{octets_in, power_is}

-- ---- numbers

-- A number that is a multiple of a power of 2 is one of each smaller power.
pub clear_later : (n i j : ℕ) → i ≤ j → n % 2 ^ j ≡ 0 → n % 2 ^ i ≡ 0
clear_later n i j le clear =
    let whole : n / 2 ^ j * 2 ^ j ≡ n = omega (arith, div-add-mod' n (2 ^ j), clear) in
    let power : 2 ^ j ≡ 2 ^ (j - i) * 2 ^ i = let e : j ≡ j - i + i = omega arith in ap (λ m. 2 ^ m) e ∙ pow-add 2 (j - i) i in
    let parts : n ≡ n / 2 ^ j * 2 ^ (j - i) * 2 ^ i + 0 = sym whole ∙ (ap (λ m. n / 2 ^ j * m) power ∙ omega arith) in
    ap (λ m. m % 2 ^ i) parts ∙ mod-mul-add (n / 2 ^ j * 2 ^ (j - i)) (2 ^ i) 0 (pow_pos i)

module _ (bit at : ℕ) (lt : bit < 416) (clear : at % 2 ^ (416 - bit) ≡ 0) where
  abbrev unit : ℕ
  unit = 2 ^ (415 - bit)

  abbrev begin : ℕ
  begin = at / 2 ^ (416 - bit)

  -- The first bits of a number, up to this bit and with it.
  halved : (cell : ℕ) → cell / 2 ^ (415 - bit) / 2 ≡ cell / 2 ^ (416 - bit)
  halved cell =
      let e : 415 - bit + 1 ≡ 416 - bit = omega arith in
      shr-shr cell (415 - bit) 1 ∙ ap (λ n. cell / 2 ^ n) e

  at_is : at ≡ begin * 2 * unit
  at_is =
      let e : 416 - bit ≡ 1 + (415 - bit) = omega arith in
      let power : 2 ^ (416 - bit) ≡ 2 * unit = ap (λ n. 2 ^ n) e ∙ pow-add 2 1 (415 - bit) in
      let whole : begin * 2 ^ (416 - bit) ≡ at = omega (arith, div-add-mod' at (2 ^ (416 - bit)), clear) in
      sym whole ∙ (ap (λ n. begin * n) power ∙ omega arith)

  at_begins : at / unit ≡ begin * 2
  at_begins =
      let e : at ≡ begin * 2 * unit + 0 = at_is ∙ omega arith in
      ap (λ n. n / unit) e ∙ div-mul-add (begin * 2) unit 0 (pow_pos (415 - bit))

  next_begins : (at + unit) / unit ≡ begin * 2 + 1
  next_begins =
      let e : at + unit ≡ (begin * 2 + 1) * unit + 0 = ap (λ n. n + unit) at_is ∙ omega arith in
      ap (λ n. n / unit) e ∙ div-mul-add (begin * 2 + 1) unit 0 (pow_pos (415 - bit))

  of_low : (cell : ℕ) → cell / unit ≡ begin * 2 → (cell / 2 ^ (416 - bit) ≡ at / 2 ^ (416 - bit)) × (is_set cell bit ≡ false)
  unfolding is_set
  of_low cell e =
      let first : cell / 2 ^ (416 - bit) ≡ begin = sym (halved cell) ∙ (ap (λ n. n / 2) e ∙ omega arith) in
      let even : cell / 2 ^ (415 - bit) % 2 ≡ 0 = ap (λ n. n % 2) e ∙ omega arith in
      let unset : (cell / 2 ^ (415 - bit) % 2 == 1) ≡ false = grind (arith, nat_tests) in
      (first, unset)

  of_high : (cell : ℕ) → cell / unit ≡ begin * 2 + 1 → (cell / 2 ^ (416 - bit) ≡ at / 2 ^ (416 - bit)) × (is_set cell bit ≡ true)
  unfolding is_set
  of_high cell e =
      let first : cell / 2 ^ (416 - bit) ≡ begin = sym (halved cell) ∙ (ap (λ n. n / 2) e ∙ omega arith) in
      let odd : cell / 2 ^ (415 - bit) % 2 ≡ 1 = ap (λ n. n % 2) e ∙ omega arith in
      let set : (cell / 2 ^ (415 - bit) % 2 == 1) ≡ true = grind (arith, nat_tests) in
      (first, set)

  -- The cells before the next one.
  pub before_next : (cell : ℕ) → at ≤ cell → cell < at + 2 ^ (415 - bit) → (cell / 2 ^ (416 - bit) ≡ at / 2 ^ (416 - bit)) × (is_set cell bit ≡ false)
  before_next cell le less =
      let e : cell ≡ begin * 2 * unit + (cell - at) = let f : cell ≡ at + (cell - at) = omega arith in f ∙ ap (λ n. n + (cell - at)) at_is in
      of_low cell (ap (λ n. n / unit) e ∙ div-mul-add (begin * 2) unit (cell - at) (omega arith))

  -- What begins alike up to a later bit begins alike up to this one and with it.
  alike : (cell other later : ℕ) → bit < later → later ≤ 416 → cell / 2 ^ (416 - later) ≡ other / 2 ^ (416 - later) → cell / unit ≡ other / unit
  alike cell other later lt' le e =
      let sum : 416 - later + (later - bit - 1) ≡ 415 - bit = omega arith in
      let cut : (n : ℕ) → n / 2 ^ (416 - later) / 2 ^ (later - bit - 1) ≡ n / unit = λ n. shr-shr n (416 - later) (later - bit - 1) ∙ ap (λ m. n / 2 ^ m) sum in
      sym (cut cell) ∙ (ap (λ n. n / 2 ^ (later - bit - 1)) e ∙ cut other)

  pub leads_low : (cell later : ℕ) → bit < later → later ≤ 416 → cell / 2 ^ (416 - later) ≡ at / 2 ^ (416 - later)
      → (cell / 2 ^ (416 - bit) ≡ at / 2 ^ (416 - bit)) × (is_set cell bit ≡ false)
  leads_low cell later lt' le e = of_low cell (alike cell at later lt' le e ∙ at_begins)

  pub leads_high : (cell later : ℕ) → bit < later → later ≤ 416 → cell / 2 ^ (416 - later) ≡ (at + 2 ^ (415 - bit)) / 2 ^ (416 - later)
      → (cell / 2 ^ (416 - bit) ≡ at / 2 ^ (416 - bit)) × (is_set cell bit ≡ true)
  leads_high cell later lt' le e = of_high cell (alike cell (at + unit) later lt' le e ∙ next_begins)

  next_clear : (at + 2 ^ (415 - bit)) % 2 ^ (415 - bit) ≡ 0
  next_clear =
      let e : at + unit ≡ (begin * 2 + 1) * unit + 0 = ap (λ n. n + unit) at_is ∙ omega arith in
      ap (λ n. n % unit) e ∙ mod-mul-add (begin * 2 + 1) unit 0 (pow_pos (415 - bit))

-- ---- cells

zero_factor : (a b : ℕ) → 0 < b → a * b ≡ 0 → a ≡ 0
zero_factor zero b pos e = refl
zero_factor (suc a) b pos e = let f : suc a * b ≡ a * b + b = omega arith in absurd (omega arith)

pub clear_from : (bit later : ℕ) (cell : List ℕ) → bit ≤ later → IsClearFrom bit cell → IsClearFrom later cell
clear_from bit later cell le clear = record {
  is = clear.is;
  clear = clear_later (octets_number cell) (416 - later) (416 - bit) (omega arith) clear.clear;
}

set_adds : (octets : List ℕ) (i d : ℕ) → i < length octets
    → octets_number (slice_set octets i (slice_index octets i + d)) ≡ octets_number octets + d * 256 ^ (length octets - 1 - i)
unfolding octets_number
set_adds [] i d lt = absurd (omega arith)
set_adds (octet ∷ more) zero d lt =
    let e : suc (length more) - 1 - 0 ≡ length more = omega arith in
    let f : (octet + d) * 256 ^ length more + octets_number more ≡ octet * 256 ^ length more + octets_number more + d * 256 ^ length more = omega arith in
    f ∙ ap (λ n. octet * 256 ^ length more + octets_number more + d * 256 ^ n) (sym e)
set_adds (octet ∷ more) (suc i) d lt =
    let rest = set_adds more i d (omega arith) in
    let count : length (slice_set more i (slice_index more i + d)) ≡ length more = length-set more i (slice_index more i + d) in
    let e : length more - 1 - i ≡ suc (length more) - 1 - suc i = omega arith in
    ap (λ n. octet * 256 ^ n + octets_number (slice_set more i (slice_index more i + d))) count
    ∙ (ap (λ n. octet * 256 ^ length more + n) rest ∙ (ap (λ n. octet * 256 ^ length more + (octets_number more + d * 256 ^ n)) e ∙ omega arith))

module _ (bit : ℕ) (cell : List ℕ) (lt : bit < 416) (clear : IsClearFrom bit cell) where
  -- The octet that has the bit has none from it on.
  pub room : slice_index cell (bit / 8) + 2 ^ (7 - bit % 8) < 256
  room =
      let i = bit / 8 in
      let j = 7 - bit % 8 in
      let within : i + 1 ≤ 52 = omega arith in
      let octet : slice_index cell i ≡ octets_number cell / 2 ^ (8 * (52 - (i + 1))) % 2 ^ 8 =
      let e : slice_index cell i ≡ big_number 1 (drop i cell) =
      let f : get_or (drop i cell) 0 0 ≡ get_or cell (i + 0) 0 = get_or-drop i cell 0 0 in
      let g : i + 0 ≡ i = omega arith in
      ap (λ n. get_or cell n 0) (sym g) ∙ (sym f ∙ omega arith) in
      e ∙ octets_in i 1 cell clear.is within in
      let high = octets_number cell / 2 ^ (8 * (52 - (i + 1))) in
      let sum : j + 1 + 8 * (52 - (i + 1)) ≡ 416 - bit = omega arith in
      let low : high % 2 ^ (j + 1) ≡ 0 =
      let whole : octets_number cell % 2 ^ (j + 1 + 8 * (52 - (i + 1))) ≡ 0 = ap (λ n. octets_number cell % 2 ^ n) sum ∙ clear.clear in
      let cut = mod-pow-add (octets_number cell) (j + 1) (8 * (52 - (i + 1))) in
      let pos = pow_pos (8 * (52 - (i + 1))) in
      let product : high % 2 ^ (j + 1) * 2 ^ (8 * (52 - (i + 1))) ≡ 0 = omega arith in
      zero_factor (high % 2 ^ (j + 1)) (2 ^ (8 * (52 - (i + 1)))) pos product in
      let width : 7 - j + (j + 1) ≡ 8 = omega arith in
      let parts : high % 2 ^ 8 ≡ high / 2 ^ (j + 1) % 2 ^ (7 - j) * 2 ^ (j + 1) =
      ap (λ n. high % 2 ^ n) (sym width) ∙ (mod-pow-add high (7 - j) (j + 1) ∙ omega arith) in
      let upper = high / 2 ^ (j + 1) % 2 ^ (7 - j) in
      let below : upper < 2 ^ (7 - j) = mod_below (high / 2 ^ (j + 1)) (2 ^ (7 - j)) (pow_pos (7 - j)) in
      let fits : (upper + 1) * 2 ^ (j + 1) ≤ 2 ^ (7 - j) * 2 ^ (j + 1) = mul-le (upper + 1) (2 ^ (j + 1)) (2 ^ (7 - j)) (2 ^ (j + 1)) (omega arith) (omega arith) in
      let all : 2 ^ (7 - j) * 2 ^ (j + 1) ≡ 256 = sym (pow-add 2 (7 - j) (j + 1)) ∙ ap (λ n. 2 ^ n) width in
      let twice : 2 ^ (j + 1) ≡ 2 ^ j * 2 = pow-add 2 j 1 in
      let pos = pow_pos j in
      omega arith

  pub bit_added : octets_number (slice_set cell (bit / 8) (slice_index cell (bit / 8) + 2 ^ (7 - bit % 8))) ≡ octets_number cell + 2 ^ (415 - bit)
  bit_added =
      let i = bit / 8 in
      let j = 7 - bit % 8 in
      let within : i < length cell = omega (arith, clear.is.whole) in
      let place : length cell - 1 - i ≡ 51 - i = omega (arith, clear.is.whole) in
      let sum : j + 8 * (51 - i) ≡ 415 - bit = omega arith in
      let power : 2 ^ j * 256 ^ (length cell - 1 - i) ≡ 2 ^ (415 - bit) =
      ap (λ n. 2 ^ j * 256 ^ n) place ∙ (ap (λ n. 2 ^ j * n) (power_is (51 - i)) ∙ (sym (pow-add 2 j (8 * (51 - i))) ∙ ap (λ n. 2 ^ n) sum)) in
      set_adds cell i (2 ^ j) within ∙ ap (λ n. octets_number cell + n) power

  pub bit_cell : IsCell (slice_set cell (bit / 8) (slice_index cell (bit / 8) + 2 ^ (7 - bit % 8)))
  bit_cell =
      let i = bit / 8 in
      let octet = slice_index cell i + 2 ^ (7 - bit % 8) in
      let within : i < length cell = omega (arith, clear.is.whole) in
      record {
        whole = length-set cell i octet ∙ clear.is.whole;
        octets = λ place.
            let cases : (place ≡ i) ⊎ (place ≢ i) → slice_index (slice_set cell i octet) place < 256 = elim [
              | inl e ↦ subst (λ n. get_or (slice_set cell i octet) n 0 < 256) (sym e) (subst (λ n. n < 256) (sym (get_or-set_same cell i octet 0 within)) room)
              | inr e ↦ subst (λ n. n < 256) (sym (get_or-set_other cell i place octet 0 e)) (clear.is.octets place)
            ] in
            cases (cases_eq place i);
      }

  pub bit_clear : IsClearFrom (bit + 1) (slice_set cell (bit / 8) (slice_index cell (bit / 8) + 2 ^ (7 - bit % 8)))
  bit_clear =
      let e : 415 - bit ≡ 416 - (bit + 1) = omega arith in
      record {
        is = bit_cell;
        clear = ap (λ n. n % 2 ^ (416 - (bit + 1))) bit_added
            ∙ (ap (λ n. (octets_number cell + 2 ^ (415 - bit)) % 2 ^ n) (sym e) ∙ next_clear bit (octets_number cell) lt clear.clear);
      }

  -- The octet and the octets that the code makes.
  pub octet_after : (octets : List ℕ) (from : ℕ) → octets ≡ cell → from ≡ bit / 8
      → get_or octets from 0 + 1 * 2 ^ (7 - bit % 8) % 256 ≡ slice_index cell (bit / 8) + 2 ^ (7 - bit % 8)
  octet_after octets from e f =
      ap (λ (os : List ℕ). get_or os from 0 + 1 * 2 ^ (7 - bit % 8) % 256) e
      ∙ (ap (λ n. get_or cell n 0 + 1 * 2 ^ (7 - bit % 8) % 256) f ∙ ap (λ n. get_or cell (bit / 8) 0 + n) (one_shl (7 - bit % 8) 8 (omega arith)))

  pub octets_after : (octets : List ℕ) (from : ℕ) → octets ≡ cell → from ≡ bit / 8
      → slice_set octets from (get_or octets from 0 + 1 * 2 ^ (7 - bit % 8) % 256) ≡ slice_set cell (bit / 8) (slice_index cell (bit / 8) + 2 ^ (7 - bit % 8))
  octets_after octets from e f =
      ap (λ n. slice_set octets from n) (octet_after octets from e f)
      ∙ (ap (λ (os : List ℕ). slice_set os from (slice_index cell (bit / 8) + 2 ^ (7 - bit % 8))) e
      ∙ ap (λ n. slice_set cell n (slice_index cell (bit / 8) + 2 ^ (7 - bit % 8))) f)

-- ---- the least cell

zeros_number : (n : ℕ) → octets_number (replicate n 0) ≡ 0
unfolding octets_number
zeros_number zero = refl
zeros_number (suc n) = omega (arith, zeros_number n)

zeros_octets : (n place : ℕ) → slice_index (replicate n 0) place < 256
zeros_octets zero place = omega arith
zeros_octets (suc n) zero = omega arith
zeros_octets (suc n) (suc place) = zeros_octets n place

pub zero_number : (cell : List ℕ) → cell ≡ replicate 52 0 → octets_number cell ≡ 0
zero_number cell e = ap octets_number e ∙ zeros_number 52

pub zero_clear : (cell : List ℕ) → cell ≡ replicate 52 0 → (bit : ℕ) → IsClearFrom bit cell
zero_clear cell e bit =
    let power = pow_pos (416 - bit) in
    record {
      is = record {
        whole = ap (λ (os : List ℕ). length os) e ∙ length-replicate {A = ℕ} 52 0;
        octets = λ place. subst (λ (os : List ℕ). slice_index os place < 256) (sym e) (zeros_octets 52 place);
      };
      clear = ap (λ n. n % 2 ^ (416 - bit)) (zero_number cell e) ∙ mod-eq_of_lt power;
    }
