-- The test of masked octets that a test of cells becomes. A field of the header is compared inside the header's word, its first four
-- octets: a mask keeps the bits of the field, and the numbers are shifted to the field's place, by multiplication.
use Rattle.std.specs.Prelude.{◌≡◌, ℕ, ◌-◌, ◌*◌, ◌%◌, ◌^◌, ◌==◌, min, nat_le, bit_and, if◌then◌else◌, List, [], ◌∷◌, map, Option, Some, None}
use Rattle.std.specs.Global.{Vec}
use Rattle.bpf_code.specs.declared.instr.Size.{Size}
use Rattle.bpf_code.specs.declared.instr.Size.TheVariants.{Word}
use Rattle.rules_code.specs.Bounds.{IsComparison, IsNotOf}
use Rattle.rules_code.specs.Neighbours.{IsAllOf}
use Rattle.rules_code.specs.Order.{IsOrderOf}
use Rattle.rules_code.specs.declared.lines.Line.{Line}
use Rattle.rules_code.specs.declared.lines.Line.TheVariants as line
use Rattle.rules_code.specs.declared.packet_part.Part.{Part}
use Rattle.rules_code.specs.declared.packet_part.Span.{Span}
use Rattle.rules_code.specs.declared.plain_test.PlainTest.{PlainTest}
use Rattle.rules_code.specs.declared.plain_test.PlainTest as plain
use Rattle.upc_cell.specs.Side.{last_vpi}
use Rattle.upc_cell.specs.declared.side.Side.{Side}
use Rattle.rules_cells.specs.declared.field.Field.{Field}
use Rattle.rules_cells.specs.declared.field.Field.TheVariants.{Gfc, Vpi, Vci, Pti, Clp, Octets}
use Rattle.rules_cells.specs.declared.relation.Relation.{Relation}
use Rattle.rules_cells.specs.declared.relation.Relation.TheVariants.{Equal, Unequal, Less, AtMost, Greater, AtLeast, In}
use Rattle.rules_cells.specs.declared.rules.RuleLine.{RuleLine}
use Rattle.rules_cells.specs.declared.rules.RuleLine.TheVariants.{Rule, Block, End}
use Rattle.rules_cells.specs.declared.test.Test.{Test, Row_of-Test, end_of-Test, more_of-Test}
use Rattle.rules_cells.specs.declared.test.Test as asked

-- The largest number of a field of the header.
abbrev pub most_of : Side → Field → Option ℕ
most_of side Gfc = Some 15
most_of side Vpi = Some (last_vpi side)
most_of side Vci = Some 65535
most_of side Pti = Some 7
most_of side Clp = Some 1
most_of side (Octets octets) = None

-- The lowest bit of a field as a number in the header's word.
abbrev pub unit_of : Field → ℕ
unit_of Gfc = 268435456
unit_of Vpi = 1048576
unit_of Vci = 16
unit_of Pti = 2
unit_of Clp = 1
unit_of (Octets octets) = 1

-- A field's number, shifted to the place of the field in the header's word, modulo 2^32.
abbrev pub in_place : ℕ → ℕ → ℕ
in_place unit number = (number * unit) % 2 ^ 32

-- The mask of a field in the header's word: of the field's bits those that a mask keeps, or all of them.
abbrev pub placed_mask : Option ℕ → ℕ → Option ℕ → Option ℕ
placed_mask None unit mask = mask
placed_mask (Some most) unit None = Some (in_place unit most)
placed_mask (Some most) unit (Some mask) = Some (in_place unit (bit_and mask most))

-- A span of a field's numbers, shifted to the place of the field. Numbers that the field can't have are cut off; if none is left, the span
-- is empty.
abbrev pub placed_span : Option ℕ → ℕ → Span → Span
placed_span None unit span = span
placed_span (Some most) unit span =
    if nat_le span.low most then record { low = in_place unit span.low; high = in_place unit (min span.high most) } else record { low = 1; high = 0 }

-- How many octets a field is read from: the header's word, or the octets themselves.
abbrev pub size_of : Field → Size
size_of (Octets octets) = octets.size
size_of _ = Word

-- The offset of the first of these octets.
abbrev pub at_of : Field → ℕ
at_of (Octets octets) = octets.at
at_of _ = 0

-- The part is the masked octets in which the field is, of which a mask may keep some bits.
pub record IsPartOf (side : Side) (field : Field) (mask : Option ℕ) (part : Part) : Type 0 where
  pub size_is : part.size ≡ size_of field
  pub at_is : part.at ≡ at_of field
  pub mask_is : part.mask ≡ placed_mask (most_of side field) (unit_of field) mask

-- The test is that the field is in one of these spans: the masked octets of the field are compared with the spans, shifted to the field's
-- place.
pub record IsAmongOf (side : Side) (field : Field) (mask : Option ℕ) (spans : List Span) (test : PlainTest) : Type 0 where
  pub part : Part
  pub first : Span
  pub others : List Span
  pub part_is : IsPartOf side field mask part
  pub spans_are : first ∷ others ≡ map (placed_span (most_of side field) (unit_of field)) spans
  pub compares : IsComparison part first others test

-- The span of one number.
abbrev pub span_of_one : ℕ → Span
span_of_one k = record { low = k; high = k }

-- The span of the numbers less than this one. It is empty for 0.
abbrev pub span_below : ℕ → Span
span_below k = if k == 0 then record { low = 1; high = 0 } else record { low = 0; high = k - 1 }

-- The span of the numbers up to this one.
abbrev pub span_up_to : ℕ → Span
span_up_to k = record { low = 0; high = k }

-- The first of these tests is as the first condition says, and the others are as the second says.
abbrev pub IsFirst : (PlainTest → Type 0) → (List PlainTest → Type 0) → List PlainTest → Type 0
IsFirst Is Are [] = ⊥
IsFirst Is Are (test ∷ more) = Is test × Are more

-- The test is that at least one of these holds.
pub record IsAnyOf (tests : List PlainTest) (test : PlainTest) : Type 0 where
  pub parts : Vec PlainTest
  pub test_is : test ≡ plain.AnyOf parts
  pub parts_are : parts.items ≡ tests

-- Spans of which there is at least one: an empty one where there is none.
abbrev pub some_spans : List Span → List Span
some_spans [] = record { low = 1; high = 0 } ∷ []
some_spans (span ∷ more) = span ∷ more

-- The test is that the field is in spans with the numbers of these, in order and as few as there can be.
abbrev pub IsListOf : Side → Field → Option ℕ → List Span → PlainTest → Type 0
IsListOf side field mask spans test = (ordered : List Span) × IsOrderOf spans ordered × IsAmongOf side field mask (some_spans ordered) test

-- The test of a field that is compared.
abbrev pub IsCompareOf : Side → Field → Option ℕ → Relation → PlainTest → Type 0
IsCompareOf side field mask (Equal k) test = IsAmongOf side field mask (span_of_one k ∷ []) test
IsCompareOf side field mask (Unequal k) test = IsNotOf (IsAmongOf side field mask (span_of_one k ∷ [])) test
IsCompareOf side field mask (Less k) test = IsAmongOf side field mask (span_below k ∷ []) test
IsCompareOf side field mask (AtMost k) test = IsAmongOf side field mask (span_up_to k ∷ []) test
IsCompareOf side field mask (Greater k) test = IsNotOf (IsAmongOf side field mask (span_up_to k ∷ [])) test
IsCompareOf side field mask (AtLeast k) test = IsNotOf (IsAmongOf side field mask (span_below k ∷ [])) test
IsCompareOf side field mask (In first others) test = IsListOf side field mask (first ∷ others.items) test

abbrev mutual
  -- The test that a test of cells becomes. In the test that each of several holds, two comparisons of neighbouring bits become one.
  pub IsPlainOf : Side → Test → PlainTest → Type 0
  IsPlainOf side asked.Any test = test ≡ plain.Always
  IsPlainOf side asked.F5 test = IsAmongOf side Pti (Some 6) (span_of_one 4 ∷ []) test
  IsPlainOf side asked.User test = IsAmongOf side Pti (Some 4) (span_of_one 0 ∷ []) test
  IsPlainOf side (asked.Compare field mask relation) test = IsCompareOf side field mask relation test
  IsPlainOf side (asked.Not' p of) test = IsNotOf (IsPlainOf side of) test
  IsPlainOf side (asked.AllOf' shape of) test = (tests : List PlainTest) × ArePlainOf side of tests × IsAllOf tests test
  IsPlainOf side (asked.AnyOf' shape of) test = (tests : List PlainTest) × ArePlainOf side of tests × IsAnyOf tests test

  -- The tests that these tests of cells become.
  pub ArePlainOf : {n : _} → Side → Row_of-Test n → List PlainTest → Type 0
  ArePlainOf side end_of-Test tests = tests ≡ []
  ArePlainOf side (more_of-Test of more) tests = IsFirst (IsPlainOf side of) (ArePlainOf side more) tests

-- The line that a line of rules becomes.
abbrev pub IsPlainLine : Side → RuleLine → Line → Type 0
IsPlainLine side (Rule test value) (line.Rule plain other) = IsPlainOf side test plain × (other ≡ value)
IsPlainLine side (Block test) (line.Block plain) = IsPlainOf side test plain
IsPlainLine side End line.End = Unit {0}
IsPlainLine side _ _ = ⊥

-- The lines that lines of rules become.
abbrev pub ArePlainLines : Side → List RuleLine → List Line → Type 0
ArePlainLines side [] [] = Unit {0}
ArePlainLines side (one ∷ more) (other ∷ others) = IsPlainLine side one other × ArePlainLines side more others
ArePlainLines side _ _ = ⊥
