-- The fields of a cell are bits of its number.
use Rattle.std.proofs.Common.{◌≡◌, ℕ, zero, suc, ◌+◌, ◌-◌, ◌*◌, ◌/◌, ◌%◌, ◌^◌, ◌≤◌, ◌<◌, List, [], ◌∷◌, length, take, drop, slice_index, refl, sym, ap, subst, ◌∙◌, arith}
use Rattle.std.proofs.lemmas.Nat.{pow-add, shr-shr, div-mul-add, mod-mul-add, mul-add-lt}
use Rattle.std.proofs.lemmas.List.{length-take, length-drop}
use Rattle.byteorder.specs.Endian.{big_from, big_number}
use Rattle.upc_cell.specs.Header.{header_number}
use Rattle.upc_cell.specs.declared.side.Side.{Side}
use Rattle.upc_cell.specs.declared.side.Side.TheVariants.{Uni, Nni, UniPaths, NniPaths}
use Rattle.rules_cells.specs.Fields.{IsCell}
use Rattle.rules_cells.specs.declared.field.Field.{Field}
use Rattle.rules_cells.specs.declared.field.Field.TheVariants.{Vpi}
use Rattle.rules_cells.specs.declared.field.Field.TheVariants as field
use Rattle.rules_cells.specs.declared.field.Octets.{Octets}
use Rattle.bpf_interp.specs.Packet.{octets_loaded}
use Rattle.rules_cells.proofs.Bits.{IsInHeader}
use Rattle.rules_diagrams.specs.CellNumbers.{octets_number}
use Rattle.rules_diagrams.specs.inner.Spans.{bits_number}
use Rattle.rules_diagrams.specs.inner.Fields.{AreBitsOf}

-- A power of 256 is one of 2.
pub power_is : (n : ℕ) → 256 ^ n ≡ 2 ^ (8 * n)
power_is zero = refl
power_is (suc n) =
    let e : 8 * suc n ≡ 8 * n + 8 = omega arith in
    let f : suc n ≡ n + 1 = omega arith in
    ap (λ m. 256 ^ m) f ∙ (pow-add 256 n 1 ∙ (ap (λ m. m * 256) (power_is n) ∙ (sym (pow-add 2 (8 * n) 8) ∙ ap (λ m. 2 ^ m) (sym e))))

-- Octets, as a list by recursion.
abbrev pub AreOctets : List ℕ → Type 0
AreOctets [] = Unit {0}
AreOctets (octet ∷ more) = (octet < 256) × AreOctets more

pub octets_are : (octets : List ℕ) → ((place : ℕ) → slice_index octets place < 256) → AreOctets octets
octets_are [] each = tt
octets_are (octet ∷ more) each = (each 0, octets_are more (λ place. each (suc place)))

front_are : (n : ℕ) (octets : List ℕ) → AreOctets octets → AreOctets (take n octets)
front_are zero octets are = tt
front_are (suc n) [] are = tt
front_are (suc n) (octet ∷ more) are = (are.0, front_are n more are.1)

back_are : (n : ℕ) (octets : List ℕ) → AreOctets octets → AreOctets (drop n octets)
back_are zero octets are = are
back_are (suc n) [] are = tt
back_are (suc n) (octet ∷ more) are = back_are n more are.1

length_parts : (n : ℕ) (octets : List ℕ) → length octets ≡ length (take n octets) + length (drop n octets)
length_parts zero octets = omega arith
length_parts (suc n) [] = refl
length_parts (suc n) (octet ∷ more) = omega (arith, length_parts n more)

one_power : (n : ℕ) → 256 * 256 ^ n ≡ 256 ^ suc n
one_power n = let e : 1 + n ≡ suc n = omega arith in sym (pow-add 256 1 n) ∙ ap (λ m. 256 ^ m) e

pub octets_below : (octets : List ℕ) → AreOctets octets → octets_number octets < 256 ^ length octets
unfolding octets_number
octets_below [] are = omega arith
octets_below (octet ∷ more) are =
    let below = octets_below more are.1 in
    let lt : octet * 256 ^ length more + octets_number more < 256 ^ length more * 256 = mul-add-lt octet (256 ^ length more) (octets_number more) 256 are.0 below in
    let turned : 256 ^ length more * 256 ≡ 256 ^ suc (length more) = omega (arith, one_power (length more)) in
    subst (λ n. octet * 256 ^ length more + octets_number more < n) turned lt

-- The number of octets in two parts.
pub octets_split : (n : ℕ) (octets : List ℕ) → octets_number octets ≡ octets_number (take n octets) * 256 ^ length (drop n octets) + octets_number (drop n octets)
unfolding octets_number
octets_split zero octets = omega arith
octets_split (suc n) [] = omega arith
octets_split (suc n) (octet ∷ more) =
    let rest = octets_split n more in
    let counts : length more ≡ length (take n more) + length (drop n more) = length_parts n more in
    let powers : 256 ^ length more ≡ 256 ^ length (take n more) * 256 ^ length (drop n more) =
    ap (λ m. 256 ^ m) counts ∙ pow-add 256 (length (take n more)) (length (drop n more)) in
    ap (λ m. octet * 256 ^ length more + m) rest ∙ (ap (λ m. octet * m + (octets_number (take n more) * 256 ^ length (drop n more) + octets_number (drop n more))) powers ∙ omega arith)

-- ---- numbers of octets from an offset

from_later : (i n x : ℕ) (octets : List ℕ) → big_from (suc i) n (x ∷ octets) ≡ big_from i n octets
from_later i zero x octets = refl
from_later i (suc n) x octets = ap (λ m. slice_index octets i * 256 ^ n + m) (from_later (suc i) n x octets)

big_is : (n : ℕ) (octets : List ℕ) → n ≤ length octets → big_from 0 n octets ≡ octets_number (take n octets)
unfolding octets_number
big_is zero octets le = refl
big_is (suc n) [] le = absurd (omega arith)
big_is (suc n) (octet ∷ more) le =
    let rest = big_is n more (omega arith) in
    let count : n ≡ length (take n more) = omega (arith, length-take n more) in
    ap (λ m. octet * 256 ^ n + m) (from_later 0 n octet more ∙ rest) ∙ ap (λ m. octet * 256 ^ m + octets_number (take n more)) count

-- The number of some octets of a cell.
pub octets_in : (at many : ℕ) (cell : List ℕ) → IsCell cell → at + many ≤ 52
    → big_number many (drop at cell) ≡ octets_number cell / 2 ^ (8 * (52 - (at + many))) % 2 ^ (8 * many)
octets_in at many cell is fits =
    let are = octets_are cell is.octets in
    let back = drop at cell in
    let front = octets_number (take at cell) in
    let middle = octets_number (take many back) in
    let last = octets_number (drop many back) in
    let after = 256 ^ length (drop many back) in
    let back_length : length back ≡ 52 - at = omega (arith, length-drop at cell, is.whole) in
    let middle_length : length (take many back) ≡ many = omega (arith, length-take many back, back_length) in
    let last_length : length (drop many back) ≡ 52 - (at + many) = omega (arith, length-drop many back, back_length) in
    let back_power : 256 ^ length back ≡ 256 ^ many * after =
    ap (λ n. 256 ^ n) (length_parts many back) ∙ (pow-add 256 (length (take many back)) (length (drop many back)) ∙ ap (λ n. 256 ^ n * after) middle_length) in
    let whole : octets_number cell ≡ (front * 256 ^ many + middle) * after + last =
    octets_split at cell ∙ (ap (λ n. front * 256 ^ length back + n) (octets_split many back) ∙ (ap (λ n. front * n + (middle * after + last)) back_power ∙ omega arith)) in
    let last_below : last < after = octets_below (drop many back) (back_are many back (back_are at cell are)) in
    let middle_below : middle < 256 ^ many =
    subst (λ n. middle < 256 ^ n) middle_length (octets_below (take many back) (front_are many back (back_are at cell are))) in
    let shifted : octets_number cell / after ≡ front * 256 ^ many + middle =
    ap (λ n. n / after) whole ∙ div-mul-add (front * 256 ^ many + middle) after last last_below in
    let cut : octets_number cell / after % 256 ^ many ≡ middle = ap (λ n. n % 256 ^ many) shifted ∙ mod-mul-add front (256 ^ many) middle middle_below in
    let after_is : after ≡ 2 ^ (8 * (52 - (at + many))) = power_is (length (drop many back)) ∙ ap (λ n. 2 ^ (8 * n)) last_length in
    big_is many back (omega (arith, back_length))
    ∙ (sym cut ∙ (ap (λ n. octets_number cell / n % 256 ^ many) after_is ∙ ap (λ n. octets_number cell / 2 ^ (8 * (52 - (at + many))) % n) (power_is many)))

-- The bits of the octets from an offset.
pub octets_bits : (at many : ℕ) (cell : List ℕ) → IsCell cell → at + many ≤ 52 → big_number many (drop at cell) ≡ bits_number (octets_number cell) (8 * at) (8 * many)
unfolding bits_number
octets_bits at many cell is fits =
    let place : 8 * (52 - (at + many)) ≡ 416 - (8 * at + 8 * many) = omega arith in
    octets_in at many cell is fits ∙ ap (λ n. octets_number cell / 2 ^ n % 2 ^ (8 * many)) place

-- ---- the header

header_in : (cell : List ℕ) → IsCell cell → header_number cell ≡ octets_number cell / 2 ^ 384
header_in cell is =
    let are = octets_are cell is.octets in
    let first : header_number cell ≡ octets_number (take 4 cell) =
    let e : header_number cell ≡ big_from 0 4 cell = omega arith in e ∙ big_is 4 cell (omega (arith, is.whole)) in
    let last_length : length (drop 4 cell) ≡ 48 = omega (arith, length-drop 4 cell, is.whole) in
    let power : 256 ^ length (drop 4 cell) ≡ 2 ^ 384 = power_is (length (drop 4 cell)) ∙ ap (λ n. 2 ^ (8 * n)) last_length in
    let below = octets_below (drop 4 cell) (back_are 4 cell are) in
    first
    ∙ (sym (div-mul-add (octets_number (take 4 cell)) (256 ^ length (drop 4 cell)) (octets_number (drop 4 cell)) below)
    ∙ (ap (λ n. n / 256 ^ length (drop 4 cell)) (sym (octets_split 4 cell)) ∙ ap (λ n. octets_number cell / n) power))

pub header_bits : (side : Side) (field : Field) (s w bit : ℕ) → IsInHeader side field s w → bit + w + s ≡ 32 → AreBitsOf side field (record { bit = bit; width = w })
unfolding bits_number
header_bits side field s w bit in_header sum = record {
  width = omega arith;
  inside = omega arith;
  number = λ cell is.
      let place : 384 + s ≡ 416 - (bit + w) = omega arith in
      in_header.number cell is
      ∙ (ap (λ n. n / 2 ^ s % 2 ^ w) (header_in cell is)
      ∙ (ap (λ n. n % 2 ^ w) (shr-shr (octets_number cell) 384 s) ∙ ap (λ n. octets_number cell / 2 ^ n % 2 ^ w) place));
}

-- ---- fields

header_below : (cell : List ℕ) → IsCell cell → header_number cell < 2 ^ 32
header_below cell is =
    let a = is.octets 0 in let b = is.octets 1 in let c = is.octets 2 in let d = is.octets 3 in omega arith

pub path_uni : IsInHeader Uni Vpi 20 8
path_uni = record { size = refl; at = refl; most = refl; unit = refl; fits = omega arith; number = λ cell is. refl }

pub path_nni : IsInHeader Nni Vpi 20 12
path_nni = record {
  size = refl;
  at = refl;
  most = refl;
  unit = refl;
  fits = omega arith;
  number = λ cell is. let h = header_below cell is in omega arith;
}

pub path_uni_paths : IsInHeader UniPaths Vpi 20 8
path_uni_paths = record { size = refl; at = refl; most = refl; unit = refl; fits = omega arith; number = λ cell is. refl }

pub path_nni_paths : IsInHeader NniPaths Vpi 20 12
path_nni_paths = record {
  size = refl;
  at = refl;
  most = refl;
  unit = refl;
  fits = omega arith;
  number = λ cell is. let h = header_below cell is in omega arith;
}

pub octets_place : (side : Side) (octets : Octets) (many bit width : ℕ) → many ≡ octets_loaded octets.size → bit ≡ 8 * octets.at → width ≡ 8 * many → many ≤ 4
    → AreBitsOf side (field.Octets octets) (record { bit = bit; width = width })
octets_place side octets many bit width e at wide le =
    let inside : octets.at + many ≤ 52 = omega (arith, octets.inside, e) in
    record {
      width = omega arith;
      inside = omega arith;
      number = λ cell is.
          ap (λ n. big_number n (drop octets.at cell)) (sym e)
          ∙ (octets_bits octets.at many cell is inside
          ∙ (ap (λ n. bits_number (octets_number cell) n (8 * many)) (sym at) ∙ ap (λ n. bits_number (octets_number cell) bit n) (sym wide)));
    }
