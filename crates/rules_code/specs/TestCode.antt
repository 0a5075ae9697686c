-- The code that decides a test.
use Rattle.std.specs.Prelude.{ℕ, Bool, true, false, ◌&&◌, ◌==◌, nat_le, bit_and, if◌then◌else◌, List, [], ◌∷◌, length, Option, Some, None}
use Rattle.bpf_code.specs.declared.instr.By.TheVariants.{Imm}
use Rattle.bpf_code.specs.declared.instr.Instr.{Instr}
use Rattle.bpf_code.specs.declared.instr.Instr.TheVariants.{LoadAbs, Alu}
use Rattle.bpf_code.specs.declared.instr.Op.TheVariants.{And}
use Rattle.bpf_code.specs.declared.instr.Test.TheVariants.{Eq, Gt, Ge, Set}
use Rattle.bpf_interp.specs.Packet.{octets_loaded}
use Rattle.rules_code.specs.Labels.{Tested, branched}
use Rattle.rules_code.specs.BitTests.{bits_of}
use Rattle.rules_code.specs.declared.bits.BitTest.{BitTest}
use Rattle.rules_code.specs.declared.packet_part.KnownOnBranches.{KnownOnBranches}
use Rattle.rules_code.specs.declared.packet_part.Part.{Part}
use Rattle.rules_code.specs.declared.packet_part.Span.{Span}
use Rattle.rules_code.specs.declared.plain_test.PlainTest.{PlainTest, Row_of-PlainTest, end_of-PlainTest, more_of-PlainTest}
use Rattle.rules_code.specs.declared.plain_test.PlainTest as plain

-- Whether two masks are the same.
abbrev pub is_same_mask : Option ℕ → Option ℕ → Bool
is_same_mask None None = true
is_same_mask None (Some other) = false
is_same_mask (Some one) None = false
is_same_mask (Some one) (Some other) = one == other

-- Whether two parts are of the same octets.
abbrev pub is_same_load : Part → Part → Bool
is_same_load one other = (octets_loaded one.size == octets_loaded other.size) && (one.at == other.at)

-- Whether two parts are the same number in every packet, seen from their fields.
abbrev pub is_same_part : Part → Part → Bool
is_same_part one other = is_same_load one other && is_same_mask one.mask other.mask

-- Whether the register A is known to hold the part. `held` is what A holds, if that is known.
abbrev pub is_held : Option Part → Part → Bool
is_held None part = false
is_held (Some held) part = is_same_part held part

-- Whether the first mask keeps each bit that the second keeps.
abbrev pub is_covered : Option ℕ → Option ℕ → Bool
is_covered None other = true
is_covered (Some mask) None = false
is_covered (Some mask) (Some other) = bit_and mask other == other

-- Whether A is known to hold the octets of the part, and in them each bit that the part's mask keeps.
abbrev pub is_loaded : Option Part → Part → Bool
is_loaded None part = false
is_loaded (Some held) part = is_same_load held part && is_covered held.mask part.mask

-- The part without its mask.
abbrev pub whole_of : Part → Part
whole_of part = record { size = part.size; at = part.at; mask = None; inside = part.inside }

-- What A holds at a test of bits of the part: what it held before, if these bits are in it, and otherwise the octets, which are loaded.
abbrev pub held_for_bits : Option Part → Part → Option Part
held_for_bits held part = if is_loaded held part then held else Some (whole_of part)

-- What A holds at a comparison of the part. A test of bits doesn't change what is loaded.
abbrev pub held_to_compare : Option BitTest → Option Part → Part → Option Part
held_to_compare None held part = Some part
held_to_compare (Some bits) held part = held_for_bits held part

-- What is known of A where two paths join. Each says what A holds at its end, if that is known.
abbrev pub known_at_join : Option Part → Option Part → Option Part
known_at_join None other = None
known_at_join (Some one) None = None
known_at_join (Some one) (Some other) = if is_same_part one other then Some one else None

-- What is known of A after a test, with its two sides swapped.
abbrev pub turned_known : KnownOnBranches → KnownOnBranches
turned_known known = record { met = known.unmet; unmet = known.met }

-- What is known of A after an operand of a chain: as `met` where the chain goes on, as `unmet` where it ends. A chain of `and` goes on
-- where an operand is met, one of `or` where it isn't: `on` is that outcome.
abbrev pub turned_known_unless : Bool → KnownOnBranches → KnownOnBranches
turned_known_unless true known = known
turned_known_unless false known = turned_known known

-- What is known of A after one more operand of a chain, where it goes on and where it ended at this operand or before.
abbrev pub known_with_operand : KnownOnBranches → KnownOnBranches → KnownOnBranches
known_with_operand before known = record { met = known.met; unmet = known_at_join before.unmet known.unmet }

abbrev mutual
  -- What is known of A after a test.
  pub known_after : PlainTest → Option Part → KnownOnBranches
  known_after plain.Always held = record { met = held; unmet = held }
  known_after (plain.Among part first others) held =
      let there = held_to_compare (bits_of part.mask first others.items) held part in record { met = there; unmet = there }
  known_after (plain.Not' p test) held = turned_known (known_after test held)
  known_after (plain.AllOf' shape tests) held = known_after_chain true tests held
  known_after (plain.AnyOf' shape tests) held = turned_known (known_after_chain false tests held)

  -- What is known of A after a chain of these operands.
  pub known_after_chain : {n : _} → Bool → Row_of-PlainTest n → Option Part → KnownOnBranches
  known_after_chain on end_of-PlainTest held = record { met = held; unmet = held }
  known_after_chain on (more_of-PlainTest test more) held = known_after_more on more (turned_known_unless on (known_after test held))

  -- What is known of A after these further operands of a chain.
  pub known_after_more : {n : _} → Bool → Row_of-PlainTest n → KnownOnBranches → KnownOnBranches
  known_after_more on end_of-PlainTest before = before
  known_after_more on (more_of-PlainTest test more) before =
      known_after_more on more (known_with_operand before (turned_known_unless on (known_after test before.met)))

-- The mask of a part put in front of code.
abbrev pub masked : Option ℕ → List Instr → List Instr
masked None code = code
masked (Some mask) code = Alu And (Imm mask) ∷ code

-- The load of a part put in front of code, unless A holds it.
abbrev pub loaded : Option Part → Part → List Instr → List Instr
loaded held part code =
    if is_held held part then code else (
    if is_loaded held part then masked part.mask code else LoadAbs part.size part.at ∷ masked part.mask code)

-- The same code, with the two sides swapped.
abbrev pub turned : Tested → Tested
turned t = record { code = t.code; ways = record { entry = t.ways.entry; met = t.ways.unmet; unmet = t.ways.met } }

-- A comparison with the lower bound put in front of the comparison with the upper one.
abbrev pub bounded_from : Tested → Tested → Tested
bounded_from upper lower = record {
  code = lower.code;
  ways = record { entry = lower.ways.entry; met = upper.ways.met; unmet = lower.ways.unmet };
}

-- The lower bound in front of the code for the upper one.
abbrev pub with_lower : ℕ → Tested → Tested
with_lower low upper = bounded_from upper (branched Ge low upper.code upper.ways.entry upper.ways.unmet)

-- Whether no number that this mask keeps is above this one. False without a mask, as nothing is known then.
abbrev pub is_top : Option ℕ → ℕ → Bool
is_top None high = false
is_top (Some mask) high = nat_le mask high

-- The test of a span put in front of code, for a number of which a mask may keep some bits: one comparison where the span is
-- one number, begins at 0 or ends with the largest number that there can be, otherwise two.
unfoldable pub span_code : Option ℕ → Span → List Instr → ℕ → ℕ → Tested
span_code mask span code met unmet =
    if span.low == span.high then branched Eq span.low code met unmet else (
    if span.low == 0 then turned (branched Gt span.high code unmet met) else (
    if is_top mask span.high then branched Ge span.low code met unmet else
    with_lower span.low (turned (branched Gt span.high code unmet met))))

-- The labels of a span in front of the test of further spans.
abbrev pub before_spans : Tested → Tested → Tested
before_spans more first = record {
  code = first.code;
  ways = record {
    entry = first.ways.entry;
    met = first.ways.met;
    unmet = if more.ways.entry == more.ways.unmet then first.ways.unmet else more.ways.unmet;
  };
}

-- A span in front of the test of further spans: where it doesn't hold the number, they are tried.
unfoldable pub spans_from : Option ℕ → Span → Tested → Tested
spans_from mask span more = before_spans more (span_code mask span more.code more.ways.met more.ways.entry)

-- The test of spans put in front of code.
unfoldable pub spans_code : Option ℕ → List Span → List Instr → ℕ → ℕ → Tested
spans_code mask [] code met unmet = record { code = code; ways = record { entry = unmet; met = met; unmet = unmet } }
spans_code mask (span ∷ more) code met unmet = spans_from mask span (spans_code mask more code met unmet)

-- The load of a part in front of a test of it.
unfoldable pub with_load : Option Part → Part → Tested → Tested
with_load held part t = record {
  code = loaded held part t.code;
  ways = record { entry = length (loaded held part t.code); met = t.ways.met; unmet = t.ways.unmet };
}

-- The test of bits put in front of code: one branch that changes nothing.
unfoldable pub bits_code : BitTest → List Instr → ℕ → ℕ → Tested
bits_code test code met unmet =
    if test.set then branched Set test.bits code met unmet else turned (branched Set test.bits code unmet met)

-- The load of the octets in front of a test of bits of the part, unless A holds the bits.
abbrev pub bits_loaded : Option Part → Part → List Instr → List Instr
bits_loaded held part code = if is_loaded held part then code else LoadAbs part.size part.at ∷ code

-- The load of the octets in front of a test of bits of the part.
unfoldable pub with_octets : Option Part → Part → Tested → Tested
with_octets held part t = record {
  code = bits_loaded held part t.code;
  ways = record { entry = length (bits_loaded held part t.code); met = t.ways.met; unmet = t.ways.unmet };
}

-- A comparison of the part put in front of code: a test of bits where it is one.
unfoldable pub among_code : Option BitTest → Option Part → Part → List Span → List Instr → ℕ → ℕ → Tested
among_code None held part spans code met unmet = with_load held part (spans_code part.mask spans code met unmet)
among_code (Some test) held part spans code met unmet = with_octets held part (bits_code test code met unmet)

-- The test of an operand of a chain: the side at which the chain goes on counts as met.
abbrev pub turned_unless : Bool → Tested → Tested
turned_unless true t = t
turned_unless false t = turned t

-- An operand of a chain in front of the operands after it.
abbrev pub before_operands : Tested → Tested → Tested
before_operands later first = record {
  code = first.code;
  ways = record {
    entry = first.ways.entry;
    met = if later.ways.entry == later.ways.met then first.ways.met else later.ways.met;
    unmet = first.ways.unmet;
  };
}

unfoldable mutual
  -- The code of a test put in front of code, where A holds this if anything is known of it, with the labels of its two
  -- sides.
  pub test_code : PlainTest → Option Part → List Instr → ℕ → ℕ → Tested
  test_code plain.Always held code met unmet = record { code = code; ways = record { entry = met; met = met; unmet = unmet } }
  test_code (plain.Among part first others) held code met unmet =
      among_code (bits_of part.mask first others.items) held part (first ∷ others.items) code met unmet
  test_code (plain.Not' p test) held code met unmet = turned (test_code test held code unmet met)
  test_code (plain.AllOf' shape tests) held code met unmet = operands_code true tests held code met unmet
  test_code (plain.AnyOf' shape tests) held code met unmet = turned (operands_code false tests held code unmet met)

  -- The code of the operands of a chain, with the label after its last operand and the label of its end. Where the chain goes on
  -- after an operand, the next is tried.
  pub operands_code : {n : _} → Bool → Row_of-PlainTest n → Option Part → List Instr → ℕ → ℕ → Tested
  operands_code on end_of-PlainTest held code next end = record { code = code; ways = record { entry = next; met = next; unmet = end } }
  operands_code on (more_of-PlainTest test more) held code next end =
      let later = operands_code on more (turned_known_unless on (known_after test held)).met code next end in
      before_operands later (turned_unless on
      (test_code test held later.code (if on then later.ways.entry else later.ways.unmet) (if on then later.ways.unmet else later.ways.entry)))
