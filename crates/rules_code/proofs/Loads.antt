-- What A holds, and the load of a part.
use Rattle.std.proofs.Common.{◌≡◌, ℕ, ◌+◌, ◌≤◌, ◌==◌, Bool, true, false, if◌then◌else◌, List, ◌∷◌, length, drop, Option, Some, None, refl, sym, ap, subst, ◌∙◌, arith, bit_and}
use Rattle.std.proofs.lemmas.Bool.{eqb-true, and_parts, le-leb}
use Rattle.std.proofs.lemmas.Nat.{and_assoc}
use Rattle.byteorder.specs.Endian.{big_number}
use Rattle.bpf_code.specs.declared.instr.By.TheVariants.{Imm}
use Rattle.bpf_code.specs.declared.instr.Instr.{Instr}
use Rattle.bpf_code.specs.declared.instr.Instr.TheVariants.{LoadAbs, Alu}
use Rattle.bpf_code.specs.declared.instr.Op.TheVariants.{And}
use Rattle.bpf_interp.specs.Packet.{octets_loaded, number_at}
use Rattle.bpf_interp.specs.State.{State, At}
use Rattle.bpf_interp.specs.Step.{LoadsNumber}
use Rattle.rules_code.specs.PlainTests.{kept_bits, number_of}
use Rattle.rules_code.specs.TestCode.{is_same_mask, is_same_load, is_same_part, is_held, is_covered, is_loaded, whole_of, held_for_bits, bits_loaded, known_at_join, masked, loaded}
use Rattle.rules_code.specs.declared.packet_part.Part.{Part}
use Rattle.rules_code.proofs.Suffixes.{Gives, gives_next}
use Rattle.rules_code.proofs.Growing.{Extends, extends_self, extends_more, extends_one}

-- A holds the part, if one is known.
abbrev pub IsHeld : List ℕ → Option Part → ℕ → Type 0
IsHeld packet None a = Unit {0}
IsHeld packet (Some part) a = a ≡ number_of part packet

mask_is : (one other : Option ℕ) → is_same_mask one other ≡ true → one ≡ other
mask_is None None e = refl
mask_is None (Some other) e = absurd cc
mask_is (Some one) None e = absurd cc
mask_is (Some one) (Some other) e = ap Some (eqb-true one other e)

pub octets_are : (one other : Part) (packet : List ℕ) → is_same_load one other ≡ true → big_number (octets_loaded one.size) (drop one.at packet) ≡ big_number (octets_loaded other.size) (drop other.at packet)
octets_are one other packet e =
    let parts = and_parts (octets_loaded one.size == octets_loaded other.size) (one.at == other.at) e in
    let many = eqb-true (octets_loaded one.size) (octets_loaded other.size) parts.0 in
    let place = eqb-true one.at other.at parts.1 in
    ap (λ n. big_number n (drop one.at packet)) many ∙ ap (λ n. big_number (octets_loaded other.size) (drop n packet)) place

number_is : (one other : Part) (packet : List ℕ) → is_same_part one other ≡ true → number_of one packet ≡ number_of other packet
number_is one other packet e =
    let parts = and_parts (is_same_load one other) (is_same_mask one.mask other.mask) e in
    ap (λ n. kept_bits one.mask n) (octets_are one other packet parts.0) ∙ ap (λ (m : Option ℕ). kept_bits m (big_number (octets_loaded other.size) (drop other.at packet))) (mask_is one.mask other.mask parts.1)

-- ---- where two ways join

joined_by : (b : Bool) (one other : Part) (packet : List ℕ) (a : ℕ) → (b ≡ true → number_of one packet ≡ number_of other packet) → IsHeld packet (Some other) a → IsHeld packet (if b then Some one else None) a
joined_by true one other packet a e h = h ∙ sym (e refl)
joined_by false one other packet a e h = tt

first_of_two : (b : Bool) (one : Part) (packet : List ℕ) (a : ℕ) → IsHeld packet (Some one) a → IsHeld packet (if b then Some one else None) a
first_of_two true one packet a h = h
first_of_two false one packet a h = tt

pub joined_left : (one other : Option Part) (packet : List ℕ) (a : ℕ) → IsHeld packet one a → IsHeld packet (known_at_join one other) a
joined_left None other packet a h = tt
joined_left (Some one) None packet a h = tt
joined_left (Some one) (Some other) packet a h = first_of_two (is_same_part one other) one packet a h

pub joined_right : (one other : Option Part) (packet : List ℕ) (a : ℕ) → IsHeld packet other a → IsHeld packet (known_at_join one other) a
joined_right None other packet a h = tt
joined_right (Some one) None packet a h = tt
joined_right (Some one) (Some other) packet a h = joined_by (is_same_part one other) one other packet a (number_is one other packet) h

-- ---- loads

held_number : (held : Option Part) (part : Part) (packet : List ℕ) (a : ℕ) → IsHeld packet held a → is_held held part ≡ true → a ≡ number_of part packet
held_number None part packet a h e = absurd cc
held_number (Some held) part packet a h e = h ∙ number_is held part packet e

-- Bits that the first mask keeps are there for the second.
covered : (one other : Option ℕ) (n : ℕ) → is_covered one other ≡ true → kept_bits other (kept_bits one n) ≡ kept_bits other n
covered None other n e = refl
covered (Some mask) None n e = absurd cc
covered (Some mask) (Some other) n e = and_assoc other n mask ∙ ap (λ m. bit_and n m) (eqb-true (bit_and mask other) other e)

loaded_number : (held : Option Part) (part : Part) (packet : List ℕ) (a : ℕ) → IsHeld packet held a → is_loaded held part ≡ true → kept_bits part.mask a ≡ number_of part packet
loaded_number None part packet a h e = absurd cc
loaded_number (Some held) part packet a h e =
    let parts = and_parts (is_same_load held part) (is_covered held.mask part.mask) e in
    ap (λ n. kept_bits part.mask n) h
    ∙ (covered held.mask part.mask (big_number (octets_loaded held.size) (drop held.at packet)) parts.1 ∙ ap (λ n. kept_bits part.mask n) (octets_are held part packet parts.0))

masked_extends : (mask : Option ℕ) (code : List Instr) → Extends code (masked mask code)
masked_extends None code = extends_self code
masked_extends (Some mask) code = extends_one (Alu And (Imm mask)) code tt

masked_gives : (mask : Option ℕ) (packet : List ℕ) (code : List Instr) (a value : ℕ) → Gives packet code (kept_bits mask a) value → Gives packet (masked mask code) a value
masked_gives None packet code a value given = given
masked_gives (Some mask) packet code a value given = gives_next packet (Alu And (Imm mask)) code a (kept_bits (Some mask) a) value (λ pc x m. refl) given

choose_code : (P : List Instr → Type 0) (b : Bool) (t u : List Instr) → (b ≡ true → P t) → (b ≡ false → P u) → P (if b then t else u)
choose_code P true t u p q = p refl
choose_code P false t u p q = q refl

reads : (number : Option ℕ) (n : ℕ) (on : ℕ → State) → number ≡ Some n → LoadsNumber number on (on n)
reads number n on e = subst (λ (o : Option ℕ). LoadsNumber o on (on n)) (sym e) refl

number_there : (part : Part) (packet : List ℕ) → length packet ≡ 52 → number_at packet part.at (octets_loaded part.size) ≡ Some (big_number (octets_loaded part.size) (drop part.at packet))
number_there part packet whole =
    let inside = part.inside in
    let within : part.at + octets_loaded part.size ≤ length packet = omega arith in
    let e = le-leb (part.at + octets_loaded part.size) (length packet) within in
    let P : Bool → Type 0 = λ b. (if b then Some (big_number (octets_loaded part.size) (drop part.at packet)) else None) ≡ Some (big_number (octets_loaded part.size) (drop part.at packet)) in
    subst P (sym e) refl

module _ (held : Option Part) (part : Part) (code : List Instr) where
  pub loaded_extends : Extends code (loaded held part code)
  loaded_extends =
      choose_code (λ c. Extends code c) (is_held held part) code (if is_loaded held part then masked part.mask code else LoadAbs part.size part.at ∷ masked part.mask code)
      (λ e. extends_self code)
      (λ e. choose_code (λ c. Extends code c) (is_loaded held part) (masked part.mask code) (LoadAbs part.size part.at ∷ masked part.mask code)
      (λ e. masked_extends part.mask code)
      (λ e. extends_more code (masked part.mask code) (LoadAbs part.size part.at ∷ masked part.mask code) (masked_extends part.mask code) (extends_one (LoadAbs part.size part.at) (masked part.mask code) tt)))

  pub loaded_gives : (packet : List ℕ) → length packet ≡ 52 → (a value : ℕ) → IsHeld packet held a → Gives packet code (number_of part packet) value → Gives packet (loaded held part code) a value
  loaded_gives packet whole a value h given =
      let n = big_number (octets_loaded part.size) (drop part.at packet) in
      choose_code (λ c. Gives packet c a value) (is_held held part) code (if is_loaded held part then masked part.mask code else LoadAbs part.size part.at ∷ masked part.mask code)
      (λ e. subst (λ b. Gives packet code b value) (sym (held_number held part packet a h e)) given)
      (λ e. choose_code (λ c. Gives packet c a value) (is_loaded held part) (masked part.mask code) (LoadAbs part.size part.at ∷ masked part.mask code)
      (λ e. masked_gives part.mask packet code a value (subst (λ b. Gives packet code b value) (sym (loaded_number held part packet a h e)) given))
      (λ e. gives_next packet (LoadAbs part.size part.at) (masked part.mask code) a n value
      (λ pc x m. reads (number_at packet part.at (octets_loaded part.size)) n (λ b. At (pc + 1) b x m) (number_there part packet whole))
      (masked_gives part.mask packet code n value given)))

  -- ---- the load before a test of bits

  pub bits_loaded_extends : Extends code (bits_loaded held part code)
  bits_loaded_extends =
      choose_code (λ c. Extends code c) (is_loaded held part) code (LoadAbs part.size part.at ∷ code) (λ e. extends_self code) (λ e. extends_one (LoadAbs part.size part.at) code tt)

  octets_on : (b : Bool) → is_loaded held part ≡ b → (packet : List ℕ) → length packet ≡ 52 → (a value : ℕ) → IsHeld packet held a
      → ((c : ℕ) → kept_bits part.mask c ≡ number_of part packet → IsHeld packet (if b then held else Some (whole_of part)) c → Gives packet code c value)
      → Gives packet (if b then code else LoadAbs part.size part.at ∷ code) a value
  octets_on true e packet whole a value h on = on a (loaded_number held part packet a h e) h
  octets_on false e packet whole a value h on =
      let n = big_number (octets_loaded part.size) (drop part.at packet) in
      gives_next packet (LoadAbs part.size part.at) code a n value
      (λ pc x m. reads (number_at packet part.at (octets_loaded part.size)) n (λ b. At (pc + 1) b x m) (number_there part packet whole))
      (on n refl refl)

  pub bits_loaded_gives : (packet : List ℕ) → length packet ≡ 52 → (a value : ℕ) → IsHeld packet held a
      → ((c : ℕ) → kept_bits part.mask c ≡ number_of part packet → IsHeld packet (held_for_bits held part) c → Gives packet code c value) → Gives packet (bits_loaded held part code) a value
  bits_loaded_gives packet whole a value h on = octets_on (is_loaded held part) refl packet whole a value h on
