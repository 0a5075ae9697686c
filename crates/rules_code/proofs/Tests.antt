-- The code of a test: where it leads, and with what in A.
use Rattle.std.proofs.Common.{◌≡◌, ℕ, Bool, true, false, not, ◌&&◌, ◌||◌, ◌==◌, if◌then◌else◌, List, ◌∷◌, length, drop, Option, Some, None, refl, sym, ap, subst, ◌∙◌, arith}
use Rattle.std.proofs.lemmas.Bool.{eqb-true}
use Rattle.std.proofs.lemmas.Nat.{and_le_r}
use Rattle.byteorder.specs.Endian.{big_number}
use Rattle.bpf_code.specs.declared.instr.Instr.{Instr}
use Rattle.bpf_interp.specs.Packet.{octets_loaded}
use Rattle.rules_code.specs.Labels.{Tested}
use Rattle.rules_code.specs.inner.Suffixes.{suffix_at}
use Rattle.rules_code.specs.PlainTests.{kept_bits, number_of, is_among, holds, all_hold, one_holds}
use Rattle.rules_code.specs.TestCode.{turned, spans_code, turned_known_unless, known_with_operand, known_after, known_after_chain, known_after_more, held_for_bits, held_to_compare, loaded, with_load, bits_code, bits_loaded, with_octets, among_code, turned_unless, before_operands, test_code, operands_code}
use Rattle.rules_code.specs.BitTests.{bits_of}
use Rattle.rules_code.specs.declared.bits.BitTest.{BitTest}
use Rattle.rules_code.specs.declared.packet_part.KnownOnBranches.{KnownOnBranches}
use Rattle.rules_code.specs.declared.packet_part.Part.{Part}
use Rattle.rules_code.specs.declared.packet_part.Span.{Span}
use Rattle.rules_code.specs.declared.plain_test.PlainTest.{PlainTest, Always, Among, Not', AllOf', AnyOf', Row_of-PlainTest, end_of-PlainTest, more_of-PlainTest}
use Rattle.rules_code.proofs.Suffixes.{Gives, gives_whole, gives_from_whole}
use Rattle.rules_code.proofs.Growing.{IsLabel, IsWell, Extends, extends_self, extends_more, gives_kept, label_kept}
use Rattle.rules_code.proofs.Spans.{IsBelow, turned_well, as_side, spans_well, spans_front, spans_gives}
use Rattle.rules_code.proofs.Loads.{IsHeld, joined_left, joined_right, loaded_extends, loaded_gives, bits_loaded_extends, bits_loaded_gives}
use Rattle.rules_code.proofs.BitTests.{bits_say, bits_well, bits_front, bits_give}

-- A test with this outcome, begun with this in A, goes on at the label of its side, with that in A.
pub record IsRight (packet : List ℕ) (held : Option Part) (outcome : Bool) (left : Option Part) (code : List Instr) (met unmet : ℕ) (t : Tested) : Type 0 where
  pub gives : (a value : ℕ) → IsHeld packet held a → ((b : ℕ) → IsHeld packet left b → Gives packet (suffix_at code (if outcome then met else unmet)) b value) → Gives packet (suffix_at t.code t.ways.entry) a value

-- ---- leaves

module _ (held : Option Part) (part : Part) (code : List Instr) (met unmet : ℕ) (t : Tested) (w : IsWell code met unmet t) where
  -- A load in front of a test.
  front_well : (new : List Instr) → Extends t.code new → IsWell code met unmet (record { code = new; ways = record { entry = length new; met = t.ways.met; unmet = t.ways.unmet } })
  front_well new e =
      let more = e.within in
      let some = w.entry.positive in
      let there = w.entry.within in
      record {
        extends = extends_more code t.code new w.extends e;
        entry = record { positive = omega arith; within = omega arith };
        met_is = label_kept t.code new t.ways.met e w.met_is;
        unmet_is = label_kept t.code new t.ways.unmet e w.unmet_is;
        met_leads = λ packet a value given. gives_kept packet t.code new t.ways.met a value e w.met_is (w.met_leads packet a value given);
        unmet_leads = λ packet a value given. gives_kept packet t.code new t.ways.unmet a value e w.unmet_is (w.unmet_leads packet a value given);
      }

  pub with_load_well : IsWell code met unmet (with_load held part t)
  unfolding with_load
  with_load_well = front_well (loaded held part t.code) (loaded_extends held part t.code)

  pub with_octets_well : IsWell code met unmet (with_octets held part t)
  unfolding with_octets
  with_octets_well = front_well (bits_loaded held part t.code) (bits_loaded_extends held part t.code)

  pub with_octets_right : (packet : List ℕ) → length packet ≡ 52 → (outcome : Bool) → t.ways.entry ≡ length t.code
      → ((a value : ℕ) → kept_bits part.mask a ≡ number_of part packet → Gives packet (suffix_at code (if outcome then met else unmet)) a value → Gives packet (suffix_at t.code t.ways.entry) a value)
      → (left : Option Part) → ((a : ℕ) → IsHeld packet (held_for_bits held part) a → IsHeld packet left a) → IsRight packet held outcome left code met unmet (with_octets held part t)
  unfolding with_octets
  with_octets_right packet whole outcome front leads left h = record {
    gives = λ a value begun on.
        gives_whole packet (bits_loaded held part t.code) a value
        (bits_loaded_gives held part t.code packet whole a value begun
        (λ c kept there.
        gives_from_whole packet t.code c value (subst (λ (label : ℕ). Gives packet (suffix_at t.code label) c value) front (leads c value kept (on c (h c there))))));
  }

  pub with_load_right : (packet : List ℕ) → length packet ≡ 52 → (outcome : Bool) → t.ways.entry ≡ length t.code
      → ((value : ℕ) → Gives packet (suffix_at code (if outcome then met else unmet)) (number_of part packet) value → Gives packet (suffix_at t.code t.ways.entry) (number_of part packet) value)
      → (left : Option Part) → IsHeld packet left (number_of part packet) → IsRight packet held outcome left code met unmet (with_load held part t)
  unfolding with_load
  with_load_right packet whole outcome front leads left h = record {
    gives = λ a value begun on.
        let number = number_of part packet in
        let there = subst (λ (label : ℕ). Gives packet (suffix_at t.code label) number value) front (leads value (on number h)) in
        gives_whole packet (loaded held part t.code) a value (loaded_gives held part t.code packet whole a value begun (gives_from_whole packet t.code number value there));
  }

held_either : (outcome : Bool) (left : Option Part) (packet : List ℕ) (a : ℕ) → IsHeld packet left a → IsHeld packet (if outcome then left else left) a
held_either true left packet a h = h
held_either false left packet a h = h

-- ---- comparisons

-- A number with bits of a mask is at most the mask.
below : (mask : Option ℕ) (n : ℕ) → IsBelow mask (kept_bits mask n)
below None n = tt
below (Some mask) n = and_le_r n mask

module _ (part : Part) (first : Span) (others : List Span) (held : Option Part) (code : List Instr) (met unmet : ℕ) (p : IsLabel code met) (q : IsLabel code unmet) where
  among_well : (test : Option BitTest) → IsWell code met unmet (among_code test held part (first ∷ others) code met unmet)
  unfolding among_code
  among_well None =
      with_load_well held part code met unmet (spans_code part.mask (first ∷ others) code met unmet) (spans_well part.mask code met unmet p q (first ∷ others))
  among_well (Some test) =
      with_octets_well held part code met unmet (bits_code test code met unmet) (bits_well test code met unmet p q)

  among_right : (packet : List ℕ) → length packet ≡ 52 → (test : Option BitTest) → bits_of part.mask first others ≡ test → (outcome : Bool) → is_among (first ∷ others) (number_of part packet) ≡ outcome
      → IsRight packet held outcome (if outcome then held_to_compare test held part else held_to_compare test held part) code met unmet (among_code test held part (first ∷ others) code met unmet)
  unfolding among_code
  among_right packet whole None is outcome e =
      with_load_right held part code met unmet (spans_code part.mask (first ∷ others) code met unmet) (spans_well part.mask code met unmet p q (first ∷ others)) packet whole outcome
      (spans_front part.mask code met unmet p q first others)
      (λ value given. spans_gives part.mask code met unmet p q (first ∷ others) packet (number_of part packet) value (below part.mask (big_number (octets_loaded part.size) (drop part.at packet))) (as_side packet (number_of part packet) value outcome (is_among (first ∷ others) (number_of part packet)) code met unmet (sym e) given))
      (if outcome then Some part else Some part) (held_either outcome (Some part) packet (number_of part packet) refl)
  among_right packet whole (Some test) is outcome e =
      with_octets_right held part code met unmet (bits_code test code met unmet) (bits_well test code met unmet p q) packet whole outcome
      (bits_front test code met unmet p q)
      (λ a value kept given.
      bits_give test code met unmet p q packet a value outcome (sym e ∙ (ap (λ n. is_among (first ∷ others) n) (sym kept) ∙ bits_say part.mask first others test is a)) given)
      (if outcome then held_for_bits held part else held_for_bits held part) (λ a h. held_either outcome (held_for_bits held part) packet a h)

-- ---- not

turned_right : (packet : List ℕ) (held : Option Part) (x : Bool) (one other : Option Part) (code : List Instr) (met unmet : ℕ) (t : Tested)
    → IsRight packet held x (if x then one else other) code unmet met t → IsRight packet held (not x) (if not x then other else one) code met unmet (turned t)
turned_right packet held true one other code met unmet t r = record { gives = r.gives }
turned_right packet held false one other code met unmet t r = record { gives = r.gives }

-- ---- chains

-- Whether a chain goes on after a part with this outcome.
abbrev outcome_on : Bool → Bool → Bool
outcome_on true x = x
outcome_on false x = not x

-- Whether a chain goes on after each of these parts.
abbrev goes_on : {n : _} → Bool → Row_of-PlainTest n → List ℕ → Bool
goes_on on end_of-PlainTest packet = true
goes_on on (more_of-PlainTest test more) packet = outcome_on on (holds test packet) && goes_on on more packet

all_go : (n : _) (row : Row_of-PlainTest n) (packet : List ℕ) → goes_on true row packet ≡ all_hold row packet
all_go n end_of-PlainTest packet = refl
all_go n (more_of-PlainTest test more) packet = ap (λ b. holds test packet && b) (all_go _ more packet)

not_and : (x y : Bool) → not (not x && y) ≡ (x || not y)
not_and true y = refl
not_and false y = refl

one_stops : (n : _) (row : Row_of-PlainTest n) (packet : List ℕ) → not (goes_on false row packet) ≡ one_holds row packet
one_stops n end_of-PlainTest packet = refl
one_stops n (more_of-PlainTest test more) packet = not_and (holds test packet) (goes_on false more packet) ∙ ap (λ b. holds test packet || b) (one_stops _ more packet)

module _ (test : PlainTest) (held : Option Part) (code : List Instr) (next end : ℕ) (p : IsLabel code next) (q : IsLabel code end) where
  -- A part of a chain: where it goes on counts as met.
  part_well : (on : Bool) → ((met unmet : ℕ) → IsLabel code met → IsLabel code unmet → IsWell code met unmet (test_code test held code met unmet))
      → IsWell code next end (turned_unless on (test_code test held code (if on then next else end) (if on then end else next)))
  part_well true w = w next end p q
  part_well false w = turned_well code end next (test_code test held code end next) (w end next q p)

  part_right : (packet : List ℕ) (on : Bool)
      → ((met unmet : ℕ) → IsLabel code met → IsLabel code unmet
      → IsRight packet held (holds test packet) (if holds test packet then (known_after test held).met else (known_after test held).unmet) code met unmet (test_code test held code met unmet))
      → IsRight packet held (outcome_on on (holds test packet)) (if outcome_on on (holds test packet) then (turned_known_unless on (known_after test held)).met else (turned_known_unless on (known_after test held)).unmet)
      code next end (turned_unless on (test_code test held code (if on then next else end) (if on then end else next)))
  part_right packet true r = r next end p q
  part_right packet false r =
      turned_right packet held (holds test packet) (known_after test held).met (known_after test held).unmet code next end (test_code test held code end next) (r end next q p)

-- A part in front of the parts after it.
module _ (code : List Instr) (next end : ℕ) (later first : Tested) (v : IsWell code next end later) where
  module _ (w : IsWell later.code later.ways.entry later.ways.unmet first) where
    met_is_by : (b : Bool) → IsLabel first.code (if b then first.ways.met else later.ways.met)
    met_is_by true = w.met_is
    met_is_by false = label_kept later.code first.code later.ways.met w.extends v.met_is

    met_leads_by : (b : Bool) → (b ≡ true → later.ways.entry ≡ later.ways.met) → (packet : List ℕ) (a value : ℕ) → Gives packet (suffix_at code next) a value
        → Gives packet (suffix_at first.code (if b then first.ways.met else later.ways.met)) a value
    met_leads_by true e packet a value given =
        w.met_leads packet a value (subst (λ (label : ℕ). Gives packet (suffix_at later.code label) a value) (sym (e refl)) (v.met_leads packet a value given))
    met_leads_by false e packet a value given = gives_kept packet later.code first.code later.ways.met a value w.extends v.met_is (v.met_leads packet a value given)

    before_well : IsWell code next end (before_operands later first)
    before_well = record {
      extends = extends_more code later.code first.code v.extends w.extends;
      entry = w.entry;
      met_is = met_is_by (later.ways.entry == later.ways.met);
      unmet_is = w.unmet_is;
      met_leads = met_leads_by (later.ways.entry == later.ways.met) (eqb-true later.ways.entry later.ways.met);
      unmet_leads = λ packet a value given. w.unmet_leads packet a value (v.unmet_leads packet a value given);
    }

  before_right : (packet : List ℕ) (held : Option Part) (x y : Bool) (one : KnownOnBranches) (on out : Option Part)
      → IsRight packet one.met y (if y then on else out) code next end later
      → IsRight packet held x (if x then one.met else one.unmet) later.code later.ways.entry later.ways.unmet first
      → ((a : ℕ) → IsHeld packet one.unmet a → IsHeld packet out a)
      → IsRight packet held (x && y) (if x && y then on else out) code next end (before_operands later first)
  before_right packet held true y one on out r s kept = record {
    gives = λ a value h goes. s.gives a value h (λ b hb. r.gives b value hb goes);
  }
  before_right packet held false y one on out r s kept = record {
    gives = λ a value h goes. s.gives a value h (λ b hb. v.unmet_leads packet b value (goes b (kept b hb)));
  }

-- What A holds where a chain ends at a part, it holds where the chain ends at this part or a later one.
kept_more : {n : _} (packet : List ℕ) (on : Bool) (row : Row_of-PlainTest n) (before : KnownOnBranches) (a : ℕ) → IsHeld packet before.unmet a → IsHeld packet (known_after_more on row before).unmet a
kept_more packet on end_of-PlainTest before a h = h
kept_more packet on (more_of-PlainTest test more) before a h =
    let left = turned_known_unless on (known_after test before.met) in
    kept_more packet on more (known_with_operand before left) a (joined_left before.unmet left.unmet packet a h)

-- ---- tests

mutual
  unfolding test_code

  pub test_well : (test : PlainTest) (held : Option Part) (code : List Instr) (met unmet : ℕ) → IsLabel code met → IsLabel code unmet → IsWell code met unmet (test_code test held code met unmet)
  test_well Always held code met unmet p q = record {
    extends = extends_self code;
    entry = p;
    met_is = p;
    unmet_is = q;
    met_leads = λ packet a value given. given;
    unmet_leads = λ packet a value given. given;
  }
  test_well (Among part first others) held code met unmet p q =
      among_well part first others.items held code met unmet p q (bits_of part.mask first others.items)
  test_well (Not' at test) held code met unmet p q = turned_well code unmet met (test_code test held code unmet met) (test_well test held code unmet met q p)
  test_well (AllOf' shape tests) held code met unmet p q = parts_well true tests held code met unmet p q
  test_well (AnyOf' shape tests) held code met unmet p q = turned_well code unmet met (operands_code false tests held code unmet met) (parts_well false tests held code unmet met q p)

  parts_well : {n : _} (on : Bool) (row : Row_of-PlainTest n) (held : Option Part) (code : List Instr) (next end : ℕ) → IsLabel code next → IsLabel code end → IsWell code next end (operands_code on row held code next end)
  parts_well on end_of-PlainTest held code next end p q = record {
    extends = extends_self code;
    entry = p;
    met_is = p;
    unmet_is = q;
    met_leads = λ packet a value given. given;
    unmet_leads = λ packet a value given. given;
  }
  parts_well on (more_of-PlainTest test more) held code next end p q =
      let known = (turned_known_unless on (known_after test held)).met in
      let later = operands_code on more known code next end in
      let v = parts_well on more known code next end p q in
      let t = test_code test held later.code (if on then later.ways.entry else later.ways.unmet) (if on then later.ways.unmet else later.ways.entry) in
      before_well code next end later (turned_unless on t) v
      (part_well test held later.code later.ways.entry later.ways.unmet v.entry v.unmet_is on (λ m u a b. test_well test held later.code m u a b))

module _ (packet : List ℕ) (whole : length packet ≡ 52) where
  mutual
    unfolding test_code

    pub test_right : (test : PlainTest) (held : Option Part) (code : List Instr) (met unmet : ℕ) → IsLabel code met → IsLabel code unmet
        → IsRight packet held (holds test packet) (if holds test packet then (known_after test held).met else (known_after test held).unmet) code met unmet (test_code test held code met unmet)
    test_right Always held code met unmet p q = record { gives = λ a value h on. on a h }
    test_right (Among part first others) held code met unmet p q =
        among_right part first others.items held code met unmet p q packet whole (bits_of part.mask first others.items) refl (is_among (first ∷ others.items) (number_of part packet)) refl
    test_right (Not' at test) held code met unmet p q =
        turned_right packet held (holds test packet) (known_after test held).met (known_after test held).unmet code met unmet (test_code test held code unmet met) (test_right test held code unmet met q p)
    test_right (AllOf' shape tests) held code met unmet p q =
        subst (λ (x : Bool). IsRight packet held x (if x then (known_after_chain true tests held).met else (known_after_chain true tests held).unmet) code met unmet (operands_code true tests held code met unmet))
        (all_go _ tests packet) (chain_right true tests held code met unmet p q)
    test_right (AnyOf' shape tests) held code met unmet p q =
        let left = known_after_chain false tests held in
        subst (λ (x : Bool). IsRight packet held x (if x then left.unmet else left.met) code met unmet (turned (operands_code false tests held code unmet met))) (one_stops _ tests packet)
        (turned_right packet held (goes_on false tests packet) left.met left.unmet code met unmet (operands_code false tests held code unmet met) (chain_right false tests held code unmet met q p))

    chain_right : {n : _} (on : Bool) (row : Row_of-PlainTest n) (held : Option Part) (code : List Instr) (next end : ℕ) → IsLabel code next → IsLabel code end
        → IsRight packet held (goes_on on row packet) (if goes_on on row packet then (known_after_chain on row held).met else (known_after_chain on row held).unmet) code next end (operands_code on row held code next end)
    chain_right on end_of-PlainTest held code next end p q = record { gives = λ a value h goes. goes a h }
    chain_right on (more_of-PlainTest test more) held code next end p q =
        let left = turned_known_unless on (known_after test held) in
        let later = operands_code on more left.met code next end in
        let v = parts_well on more left.met code next end p q in
        let t = test_code test held later.code (if on then later.ways.entry else later.ways.unmet) (if on then later.ways.unmet else later.ways.entry) in
        before_right code next end later (turned_unless on t) v packet held (outcome_on on (holds test packet)) (goes_on on more packet) left (known_after_more on more left).met (known_after_more on more left).unmet
        (more_right on more left code next end p q)
        (part_right test held later.code later.ways.entry later.ways.unmet v.entry v.unmet_is packet on (λ m u a b. test_right test held later.code m u a b))
        (λ a h. kept_more packet on more left a h)

    more_right : {n : _} (on : Bool) (row : Row_of-PlainTest n) (before : KnownOnBranches) (code : List Instr) (next end : ℕ) → IsLabel code next → IsLabel code end
        → IsRight packet before.met (goes_on on row packet) (if goes_on on row packet then (known_after_more on row before).met else (known_after_more on row before).unmet) code next end (operands_code on row before.met code next end)
    more_right on end_of-PlainTest before code next end p q = record { gives = λ a value h goes. goes a h }
    more_right on (more_of-PlainTest test more) before code next end p q =
        let left = turned_known_unless on (known_after test before.met) in
        let both = known_with_operand before left in
        let later = operands_code on more left.met code next end in
        let v = parts_well on more left.met code next end p q in
        let t = test_code test before.met later.code (if on then later.ways.entry else later.ways.unmet) (if on then later.ways.unmet else later.ways.entry) in
        before_right code next end later (turned_unless on t) v packet before.met (outcome_on on (holds test packet)) (goes_on on more packet) left (known_after_more on more both).met (known_after_more on more both).unmet
        (more_right on more both code next end p q)
        (part_right test before.met later.code later.ways.entry later.ways.unmet v.entry v.unmet_is packet on (λ m u a b. test_right test before.met later.code m u a b))
        (λ a h. kept_more packet on more both a (joined_right before.unmet left.unmet packet a h))
