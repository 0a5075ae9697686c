-- The fields of the header, in their places in its word.
use Rattle.std.proofs.Common.{◌≡◌, ℕ, zero, suc, ◌+◌, ◌-◌, ◌*◌, ◌/◌, ◌%◌, ◌^◌, ◌≤◌, ◌<◌, List, [], ◌∷◌, drop, slice_index, Option, Some, None, refl, sym, ap, ◌∙◌, arith, add-zero, bit_and}
use Rattle.std.proofs.lemmas.Nat.{shr_split, and_block, and_comm, and_assoc, and_mask, and_le_l, and_le_r, mod_below, pow_pos, mul-le}
use Rattle.byteorder.specs.Endian.{big_number}
use Rattle.bpf_interp.specs.Packet.{octets_loaded}
use Rattle.rules_code.specs.Bounds.{most_in}
use Rattle.rules_code.specs.PlainTests.{kept_bits, number_of}
use Rattle.rules_code.specs.declared.packet_part.Part.{Part}
use Rattle.bpf_code.specs.declared.instr.Size.{Size}
use Rattle.bpf_code.specs.declared.instr.Size.TheVariants.{Word, Half, Octet}
use Rattle.upc_cell.specs.Header.{header_number}
use Rattle.upc_cell.specs.declared.side.Side.{Side}
use Rattle.upc_cell.specs.declared.side.Side.TheVariants.{Uni, Nni, UniPaths, NniPaths}
use Rattle.rules_cells.specs.Fields.{IsCell, number_in}
use Rattle.rules_cells.specs.declared.field.Field.{Field}
use Rattle.rules_cells.specs.declared.field.Field.TheVariants.{Gfc, Vpi, Vci, Pti, Clp}
use Rattle.rules_cells.specs.PlainOf.{IsPartOf, at_of, in_place, most_of, placed_mask, size_of, unit_of}

-- ---- bits

zero_and : (n : ℕ) → bit_and n 0 ≡ 0
zero_and n = and_comm n 0

pub and_unit : (h m s : ℕ) → bit_and h (m * 2 ^ s) ≡ bit_and (h / 2 ^ s) m * 2 ^ s
and_unit h m s =
    let high = h / 2 ^ s in
    let low = h % 2 ^ s in
    let whole : bit_and h (m * 2 ^ s) ≡ bit_and (high * 2 ^ s + low) (m * 2 ^ s + 0) =
    ap (λ x. bit_and x (m * 2 ^ s)) (sym (shr_split h s)) ∙ ap (λ y. bit_and (high * 2 ^ s + low) y) (sym (add-zero (m * 2 ^ s))) in
    let parts = and_block s high m low 0 (mod_below h (2 ^ s) (pow_pos s)) (pow_pos s) in
    whole ∙ (parts ∙ (ap (λ z. bit_and high m * 2 ^ s + z) (zero_and low) ∙ add-zero (bit_and high m * 2 ^ s)))

masked_field : (x w m : ℕ) → bit_and x (bit_and m (2 ^ w - 1)) ≡ bit_and (x % 2 ^ w) m
masked_field x w m = ap (λ y. bit_and x y) (and_comm m (2 ^ w - 1)) ∙ (sym (and_assoc m x (2 ^ w - 1)) ∙ ap (λ y. bit_and y m) (and_mask x w))

in_place_whole : (unit most n : ℕ) → n ≤ most → most * unit < 2 ^ 32 → in_place unit n ≡ n * unit
in_place_whole unit most n le fits =
    let small = mul-le n unit most unit le (omega arith) in
    omega arith

-- The bits of a field, kept in the word.
pub field_bits : (h s w : ℕ) (mask : Option ℕ) → (2 ^ w - 1) * 2 ^ s < 2 ^ 32 → kept_bits (placed_mask (Some (2 ^ w - 1)) (2 ^ s) mask) h ≡ kept_bits mask (h / 2 ^ s % 2 ^ w) * 2 ^ s
field_bits h s w None fits =
    ap (λ m. bit_and h m) (in_place_whole (2 ^ s) (2 ^ w - 1) (2 ^ w - 1) (omega arith) fits) ∙ (and_unit h (2 ^ w - 1) s ∙ ap (λ x. x * 2 ^ s) (and_mask (h / 2 ^ s) w))
field_bits h s w (Some mask) fits =
    ap (λ m. bit_and h m) (in_place_whole (2 ^ s) (2 ^ w - 1) (bit_and mask (2 ^ w - 1)) (and_le_r mask (2 ^ w - 1)) fits)
    ∙ (and_unit h (bit_and mask (2 ^ w - 1)) s ∙ ap (λ x. x * 2 ^ s) (masked_field (h / 2 ^ s) w mask))

kept_le : (mask : Option ℕ) (n : ℕ) → kept_bits mask n ≤ n
kept_le None n = omega arith
kept_le (Some mask) n = and_le_l n mask

-- ---- the header

header_is : (cell : List ℕ) → header_number cell ≡ big_number 4 (drop 0 cell)
header_is cell = omega arith

-- The octets from an offset on are octets.
octets_from : (at : ℕ) (cell : List ℕ) → ((place : ℕ) → slice_index cell place < 256) → (place : ℕ) → slice_index (drop at cell) place < 256
octets_from zero cell each place = each place
octets_from (suc at) [] each place = each place
octets_from (suc at) (octet ∷ cell) each place = octets_from at cell (λ k. each (suc k)) place

number_fits : (size : Size) (octets : List ℕ) → ((place : ℕ) → slice_index octets place < 256) → big_number (octets_loaded size) octets ≤ most_in size
number_fits Word octets each =
    let a = each 0 in let b = each 1 in let c = each 2 in let d = each 3 in omega arith
number_fits Half octets each =
    let a = each 0 in let b = each 1 in omega arith
number_fits Octet octets each = let a = each 0 in omega arith

-- Octets of a cell are at most the largest number of so many octets.
pub part_fits : (part : Part) (cell : List ℕ) → IsCell cell → big_number (octets_loaded part.size) (drop part.at cell) ≤ most_in part.size
part_fits part cell is = number_fits part.size (drop part.at cell) (octets_from part.at cell is.octets)

header_fits : (cell : List ℕ) → IsCell cell → header_number cell < 2 ^ 32
header_fits cell is =
    let a = is.octets 0 in let b = is.octets 1 in let c = is.octets 2 in let d = is.octets 3 in omega arith

-- A field of the header is some bits of its word.
pub record IsInHeader (side : Side) (field : Field) (s w : ℕ) : Type 0 where
  pub size : size_of field ≡ Word
  pub at : at_of field ≡ 0
  pub most : most_of side field ≡ Some (2 ^ w - 1)
  pub unit : unit_of field ≡ 2 ^ s
  pub fits : (2 ^ w - 1) * 2 ^ s < 2 ^ 32
  pub number : (cell : List ℕ) → IsCell cell → number_in side field cell ≡ header_number cell / 2 ^ s % 2 ^ w

pub gfc_in : (side : Side) → IsInHeader side Gfc 28 4
gfc_in side = record {
  size = refl;
  at = refl;
  most = refl;
  unit = refl;
  fits = omega arith;
  number = λ cell is. let h = header_fits cell is in omega arith;
}

pub vpi_in : (side : Side) → (w : ℕ) × IsInHeader side Vpi 20 w
vpi_in Uni = (8, record { size = refl; at = refl; most = refl; unit = refl; fits = omega arith; number = λ cell is. refl })
vpi_in Nni = (
  12,
  record {
    size = refl;
    at = refl;
    most = refl;
    unit = refl;
    fits = omega arith;
    number = λ cell is. let h = header_fits cell is in omega arith;
  },
)
vpi_in UniPaths = (8, record { size = refl; at = refl; most = refl; unit = refl; fits = omega arith; number = λ cell is. refl })
vpi_in NniPaths = (
  12,
  record {
    size = refl;
    at = refl;
    most = refl;
    unit = refl;
    fits = omega arith;
    number = λ cell is. let h = header_fits cell is in omega arith;
  },
)

pub vci_in : (side : Side) → IsInHeader side Vci 4 16
vci_in side = record { size = refl; at = refl; most = refl; unit = refl; fits = omega arith; number = λ cell is. refl }

pub pti_in : (side : Side) → IsInHeader side Pti 1 3
pti_in side = record { size = refl; at = refl; most = refl; unit = refl; fits = omega arith; number = λ cell is. refl }

pub clp_in : (side : Side) → IsInHeader side Clp 0 1
clp_in side = record { size = refl; at = refl; most = refl; unit = refl; fits = omega arith; number = λ cell is. omega arith }

module _ (side : Side) (field : Field) (s w : ℕ) (in_header : IsInHeader side field s w) (mask : Option ℕ) (cell : List ℕ) (is : IsCell cell) where
  -- The number that is compared is at most the largest of the field.
  pub number_le : kept_bits mask (number_in side field cell) ≤ 2 ^ w - 1
  number_le =
      let le = kept_le mask (number_in side field cell) in
      let e = in_header.number cell is in
      let span_below = mod_below (header_number cell / 2 ^ s) (2 ^ w) (pow_pos w) in
      omega arith

  -- The part is the number in its place.
  pub number_placed : (part : Part) → IsPartOf side field mask part → number_of part cell ≡ kept_bits mask (number_in side field cell) * 2 ^ s
  number_placed part of =
      let size = of.size_is ∙ in_header.size in
      let at = of.at_is ∙ in_header.at in
      let masks = of.mask_is ∙ (ap (λ (m : Option ℕ). placed_mask m (unit_of field) mask) in_header.most ∙ ap (λ u. placed_mask (Some (2 ^ w - 1)) u mask) in_header.unit) in
      let load : big_number (octets_loaded part.size) (drop part.at cell) ≡ header_number cell =
      ap (λ (z : Size). big_number (octets_loaded z) (drop part.at cell)) size ∙ (ap (λ n. big_number 4 (drop n cell)) at ∙ sym (header_is cell)) in
      ap (λ n. kept_bits part.mask n) load
      ∙ (ap (λ (m : Option ℕ). kept_bits m (header_number cell)) masks
      ∙ (field_bits (header_number cell) s w mask in_header.fits
      ∙ ap (λ n. kept_bits mask n * 2 ^ s) (sym (in_header.number cell is))))
