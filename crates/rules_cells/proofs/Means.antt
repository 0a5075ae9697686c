-- The test on the numbers in a packet that a test of cells becomes holds of the same cells.
use Rattle.std.proofs.Common.{◌≡◌, ℕ, ◌-◌, ◌*◌, ◌/◌, ◌^◌, ◌<◌, ◌==◌, Bool, not, ◌&&◌, ◌||◌, nat_le, List, [], ◌∷◌, map, Option, Some, refl, ap, ◌∙◌, arith, bit_and}
use Rattle.std.proofs.lemmas.Bool.{agree_below_at}
use Rattle.std.proofs.lemmas.Nat.{pow_pos, mod_below}
use Rattle.byteorder.specs.Endian.{big_number}
use Rattle.bpf_code.specs.declared.instr.Size.{Size}
use Rattle.bpf_interp.specs.Packet.{octets_loaded}
use Rattle.std.proofs.Common.{drop}
use Rattle.rules_code.proofs.Public.{all_of_holds, any_of_holds, comparison_holds}
use Rattle.rules_code.specs.Bounds.{IsNotOf}
use Rattle.rules_code.specs.inner.Chains.{each_holds, some_holds}
use Rattle.rules_code.specs.PlainTests.{kept_bits, number_of, is_among, holds}
use Rattle.rules_code.specs.declared.packet_part.Part.{Part}
use Rattle.rules_code.specs.declared.packet_part.Span.{Span}
use Rattle.rules_code.specs.declared.plain_test.PlainTest.{PlainTest}
use Rattle.rules_code.specs.declared.plain_test.PlainTest as plain
use Rattle.upc_cell.specs.Header.{header_number, pti_of}
use Rattle.upc_cell.specs.declared.side.Side.{Side}
use Rattle.rules_cells.specs.Fields.{IsCell, number_in, is_so}
use Rattle.rules_cells.specs.Tests.{is_met, all_are_met, one_is_met}
use Rattle.rules_cells.specs.declared.field.Field.{Field}
use Rattle.rules_cells.specs.declared.field.Field.TheVariants.{Gfc, Vpi, Vci, Pti, Clp, Octets}
use Rattle.rules_cells.specs.declared.relation.Relation.{Relation}
use Rattle.rules_cells.specs.declared.relation.Relation.TheVariants.{Equal, Unequal, Less, AtMost, Greater, AtLeast, In}
use Rattle.rules_cells.specs.declared.test.Test.{Test, Any, F5, User, Compare, Not', AllOf', AnyOf', Row_of-Test, end_of-Test, more_of-Test}
use Rattle.rules_cells.specs.PlainOf.{IsPartOf, IsAmongOf, IsAnyOf, IsCompareOf, IsPlainOf, ArePlainOf, most_of, unit_of, placed_span, span_of_one, span_below, span_up_to, some_spans}
use Rattle.rules_cells.proofs.Bits.{IsInHeader, gfc_in, vpi_in, vci_in, pti_in, clp_in, number_le, number_placed, part_fits}
use Rattle.rules_cells.proofs.Spans.{among_placed, among_there, only_is, below_is, up_to_is, above_is, at_least_is, some_is}

module _ (side : Side) (cell : List ℕ) (is : IsCell cell) where
  -- ---- a field in spans
  header_means : (field : Field) (s w : ℕ) → IsInHeader side field s w → (mask : Option ℕ) (part : Part) (spans : List Span) → IsPartOf side field mask part
      → is_among (map (placed_span (most_of side field) (unit_of field)) spans) (number_of part cell) ≡ is_among spans (kept_bits mask (number_in side field cell))
  header_means field s w h mask part spans of =
      let number = kept_bits mask (number_in side field cell) in
      ap (λ n. is_among (map (placed_span (most_of side field) (unit_of field)) spans) n) (number_placed side field s w h mask cell is part of)
      ∙ (ap (λ (m : Option ℕ). is_among (map (placed_span m (unit_of field)) spans) (number * 2 ^ s)) h.most
      ∙ (ap (λ u. is_among (map (placed_span (Some (2 ^ w - 1)) u) spans) (number * 2 ^ s)) h.unit
      ∙ among_placed (2 ^ w - 1) (2 ^ s) number (pow_pos s) (number_le side field s w h mask cell is) h.fits spans))

  octets_mean : (field : Field) (mask : Option ℕ) (part : Part) (spans : List Span) (size : Size) (at : ℕ) → part.size ≡ size → part.at ≡ at → part.mask ≡ mask
      → is_among spans (number_of part cell) ≡ is_among spans (kept_bits mask (big_number (octets_loaded size) (drop at cell)))
  octets_mean field mask part spans size at p q r =
      ap (λ n. is_among spans n)
      (ap (λ (z : Size). kept_bits part.mask (big_number (octets_loaded z) (drop part.at cell))) p
      ∙ (ap (λ n. kept_bits part.mask (big_number (octets_loaded size) (drop n cell))) q
      ∙ ap (λ (m : Option ℕ). kept_bits m (big_number (octets_loaded size) (drop at cell))) r))

  field_means : (field : Field) (mask : Option ℕ) (part : Part) (spans : List Span) → IsPartOf side field mask part
      → is_among (map (placed_span (most_of side field) (unit_of field)) spans) (number_of part cell) ≡ is_among spans (kept_bits mask (number_in side field cell))
  field_means Gfc mask part spans of = header_means Gfc 28 4 (gfc_in side) mask part spans of
  field_means Vpi mask part spans of = header_means Vpi 20 (vpi_in side).0 (vpi_in side).1 mask part spans of
  field_means Vci mask part spans of = header_means Vci 4 16 (vci_in side) mask part spans of
  field_means Pti mask part spans of = header_means Pti 1 3 (pti_in side) mask part spans of
  field_means Clp mask part spans of = header_means Clp 0 1 (clp_in side) mask part spans of
  field_means (Octets octets) mask part spans of =
      among_there 1 (number_of part cell) spans ∙ octets_mean (Octets octets) mask part spans octets.size octets.at of.size_is of.at_is of.mask_is

  among_means : (field : Field) (mask : Option ℕ) (spans : List Span) (test : PlainTest) → IsAmongOf side field mask spans test → holds test cell ≡ is_among spans (kept_bits mask (number_in side field cell))
  among_means field mask spans test of =
      comparison_holds of.part of.first of.others test cell (part_fits of.part cell is) of.compares
      ∙ (ap (λ (ss : List Span). is_among ss (number_of of.part cell)) of.spans_are ∙ field_means field mask of.part spans of.part_is)

  -- ---- not, and one of several
  not_means : (Is : PlainTest → Type 0) (b : Bool) → ((t : PlainTest) → Is t → holds t cell ≡ b) → (test : PlainTest) → IsNotOf Is test → holds test cell ≡ not b
  not_means Is b each (plain.Not' p test) of = ap not (each test of)
  not_means Is b each _ of = absurd of

  any_means : (tests : List PlainTest) (test : PlainTest) → IsAnyOf tests test → holds test cell ≡ some_holds tests cell
  any_means tests test of = ap (λ (t : PlainTest). holds t cell) of.test_is ∙ (any_of_holds of.parts cell ∙ ap (λ (ts : List PlainTest). some_holds ts cell) of.parts_are)

  -- ---- comparisons
  compare_means : (field : Field) (mask : Option ℕ) (relation : Relation) (test : PlainTest) → IsCompareOf side field mask relation test → holds test cell ≡ is_so relation (kept_bits mask (number_in side field cell))
  compare_means field mask (Equal k) test of = among_means field mask (span_of_one k ∷ []) test of ∙ only_is k (kept_bits mask (number_in side field cell))
  compare_means field mask (Unequal k) test of =
      not_means (IsAmongOf side field mask (span_of_one k ∷ [])) (is_among (span_of_one k ∷ []) (kept_bits mask (number_in side field cell))) (among_means field mask (span_of_one k ∷ [])) test of
      ∙ ap not (only_is k (kept_bits mask (number_in side field cell)))
  compare_means field mask (Less k) test of = among_means field mask (span_below k ∷ []) test of ∙ below_is k (kept_bits mask (number_in side field cell))
  compare_means field mask (AtMost k) test of = among_means field mask (span_up_to k ∷ []) test of ∙ up_to_is k (kept_bits mask (number_in side field cell))
  compare_means field mask (Greater k) test of =
      not_means (IsAmongOf side field mask (span_up_to k ∷ [])) (is_among (span_up_to k ∷ []) (kept_bits mask (number_in side field cell))) (among_means field mask (span_up_to k ∷ [])) test of
      ∙ (ap not (up_to_is k (kept_bits mask (number_in side field cell))) ∙ above_is k (kept_bits mask (number_in side field cell)))
  compare_means field mask (AtLeast k) test of =
      not_means (IsAmongOf side field mask (span_below k ∷ [])) (is_among (span_below k ∷ []) (kept_bits mask (number_in side field cell))) (among_means field mask (span_below k ∷ [])) test of
      ∙ (ap not (below_is k (kept_bits mask (number_in side field cell))) ∙ at_least_is k (kept_bits mask (number_in side field cell)))
  compare_means field mask (In first others) test of =
      let number = kept_bits mask (number_in side field cell) in
      among_means field mask (some_spans of.0) test of.2 ∙ (some_is of.0 number ∙ of.1.same number)

  -- ---- the payload types of OAM cells and of user data
  pti_below : pti_of cell < 8
  pti_below = mod_below (header_number cell / 2) 8 (omega arith)

  oam_is : (bit_and (pti_of cell) 6 == 4) ≡ ((pti_of cell == 4) || (pti_of cell == 5))
  oam_is = agree_below_at (λ n. bit_and n 6 == 4) (λ n. (n == 4) || (n == 5)) 8 (pti_of cell) refl pti_below

  user_is : (bit_and (pti_of cell) 4 == 0) ≡ nat_le (pti_of cell) 3
  user_is = agree_below_at (λ n. bit_and n 4 == 0) (λ n. nat_le n 3) 8 (pti_of cell) refl pti_below

  -- ---- tests
  mutual
    pub plain_means : (of : Test) (test : PlainTest) → IsPlainOf side of test → holds test cell ≡ is_met side of cell
    plain_means Any test so = ap (λ (t : PlainTest). holds t cell) so
    plain_means F5 test so = among_means Pti (Some 6) (span_of_one 4 ∷ []) test so ∙ (only_is 4 (bit_and (pti_of cell) 6) ∙ oam_is)
    plain_means User test so = among_means Pti (Some 4) (span_of_one 0 ∷ []) test so ∙ (only_is 0 (bit_and (pti_of cell) 4) ∙ user_is)
    plain_means (Compare field mask relation) test so = compare_means field mask relation test so
    plain_means (Not' p of) test so = not_means (IsPlainOf side of) (is_met side of cell) (plain_means of) test so
    plain_means (AllOf' shape of) test so = all_of_holds so.0 test cell so.2 ∙ all_mean of so.0 so.1
    plain_means (AnyOf' shape of) test so = any_means so.0 test so.2 ∙ one_means of so.0 so.1

    all_mean : {n : _} (of : Row_of-Test n) (tests : List PlainTest) → ArePlainOf side of tests → each_holds tests cell ≡ all_are_met side of cell
    all_mean end_of-Test tests so = ap (λ (ts : List PlainTest). each_holds ts cell) so
    all_mean (more_of-Test of more) [] so = absurd so
    all_mean (more_of-Test of more) (test ∷ tests) so =
        ap (λ b. b && each_holds tests cell) (plain_means of test so.0) ∙ ap (λ b. is_met side of cell && b) (all_mean more tests so.1)

    one_means : {n : _} (of : Row_of-Test n) (tests : List PlainTest) → ArePlainOf side of tests → some_holds tests cell ≡ one_is_met side of cell
    one_means end_of-Test tests so = ap (λ (ts : List PlainTest). some_holds ts cell) so
    one_means (more_of-Test of more) [] so = absurd so
    one_means (more_of-Test of more) (test ∷ tests) so =
        ap (λ b. b || some_holds tests cell) (plain_means of test so.0) ∙ ap (λ b. is_met side of cell || b) (one_means more tests so.1)
