-- What one instruction makes of what is known of a machine.
use Rattle.std.proofs.Common.{◌≡◌, ℕ, ◌+◌, ◌*◌, ◌/◌, ◌%◌, ◌^◌, ◌≤◌, ◌<◌, ◌==◌, nat_lt, nat_le, true, false, if◌then◌else◌, List, length, drop, Option, Some, None, refl, sym, ap, subst, ◌∙◌, arith}
use Rattle.byteorder.specs.Endian.{big_number}
use Rattle.std.proofs.lemmas.Bool.Decides.{nat_tests}
use Rattle.bpf_code.specs.declared.instr.By.{By}
use Rattle.bpf_code.specs.declared.instr.By.TheVariants.{Imm, X}
use Rattle.bpf_code.specs.declared.instr.Instr.{Instr}
use Rattle.bpf_code.specs.declared.instr.Instr.TheVariants.{Alu, LdxMsh}
use Rattle.bpf_code.specs.declared.instr.Op.{Op}
use Rattle.bpf_code.specs.declared.instr.Size.{Size}
use Rattle.bpf_code.specs.declared.instr.Op.TheVariants.{Add, Sub, Mul, Div, Or, And, Lsh, Rsh, Mod, Xor}
use Rattle.bpf_interp.specs.Arithmetic.{result_of}
use Rattle.bpf_interp.specs.Operand.{operand_of}
use Rattle.bpf_interp.specs.Packet.{number_at, octets_loaded}
use Rattle.bpf_interp.specs.State.{State, At, Ended}
use Rattle.bpf_interp.specs.Step.{Does, LoadsNumber}
use Rattle.rules_cells.specs.Fields.{IsCell}
use Rattle.rules_diagrams.specs.CellNumbers.{octets_number}
use Rattle.rules_diagrams.specs.inner.Following.{AreContents, AreLoaded, AreOperand, IsCalculable, IsComputed, IsFollowed, IsOperand, LoadsAt, PutsInto}
use Rattle.rules_diagrams.specs.inner.Registers.{contents_with}
use Rattle.rules_diagrams.specs.inner.Spans.{bits_number}
use Rattle.rules_diagrams.specs.inner.Words.{word_number, AreResult, IsBitwise}
use Rattle.rules_diagrams.specs.declared.contents.Contents.{Contents}
use Rattle.rules_diagrams.specs.declared.contents.Followed.TheVariants.{Continues}
use Rattle.rules_diagrams.specs.declared.contents.Register.{Register}
use Rattle.rules_diagrams.specs.declared.contents.Register.TheVariants.{A as InA, X as InX}
use Rattle.rules_diagrams.specs.declared.word.Bit.{Bit}
use Rattle.rules_diagrams.proofs.FieldBits.{octets_bits}

-- ---- registers

-- What an instruction makes of a register, at the next place.
pub made_follows : (register : Register) (i : Instr) (place : ℕ) (contents : Contents) (bits : List Bit) → PutsInto register i contents bits
    → IsFollowed i place contents (Continues (place + 1) (contents_with register contents bits))
made_follows InA i place contents bits makes = λ cell there a x m are. record {
  new_a = word_number bits (octets_number cell);
  new_x = x;
  new_m = m;
  does = makes place cell there a x m are;
  contents = record { a_is = refl; x_is = are.x_is; scratch = are.scratch };
}
made_follows InX i place contents bits makes = λ cell there a x m are. record {
  new_a = a;
  new_x = word_number bits (octets_number cell);
  new_m = m;
  does = makes place cell there a x m are;
  contents = record { a_is = are.a_is; x_is = refl; scratch = are.scratch };
}

-- ---- operations

-- What is said of the operand is so for the X of a machine with these contents.
operand_is : (by : By) (contents : Contents) (cell a x : ℕ) (m : List (ℕ × ℕ)) (k : ℕ) → IsOperand by contents k → AreContents contents cell a x m → operand_of by x ≡ k
operand_is by contents cell a x m k is are = ap (λ n. operand_of by n) (sym are.x_is) ∙ is cell

by_bits : (op : Op) (by : By) (cell : List ℕ) (place a x n : ℕ) (m : List (ℕ × ℕ)) → IsBitwise op → n ≡ result_of op a (operand_of by x) → Does cell (Alu op by) place a x m (At (place + 1) n x m)
by_bits And by cell place a x n m is e = ap (λ v. At (place + 1) v x m) e
by_bits Or by cell place a x n m is e = ap (λ v. At (place + 1) v x m) e
by_bits Xor by cell place a x n m is e = ap (λ v. At (place + 1) v x m) e
by_bits Add by cell place a x n m is e = absurd is
by_bits Sub by cell place a x n m is e = absurd is
by_bits Mul by cell place a x n m is e = absurd is
by_bits Div by cell place a x n m is e = absurd is
by_bits Lsh by cell place a x n m is e = absurd is
by_bits Rsh by cell place a x n m is e = absurd is
by_bits Mod by cell place a x n m is e = absurd is

pub bits_make : (op : Op) (by : By) (contents : Contents) (other bits : List Bit) → IsBitwise op → AreOperand by contents other → AreResult op contents.a other bits
    → PutsInto InA (Alu op by) contents bits
bits_make op by contents other bits is operand result = λ place cell there a x m are.
    let number = octets_number cell in
    by_bits op by cell place a x (word_number bits number) m is
    (result number
    ∙ (ap (λ n. result_of op n (word_number other number)) are.a_is ∙ ap (λ n. result_of op a n) (operand number ∙ ap (λ n. operand_of by n) are.x_is)))

-- A division that isn't by 0.
not_none : (x : ℕ) (one other : State) → 0 < x → (if x == 0 then one else other) ≡ other
not_none x one other some = let e : (x == 0) ≡ false = grind (arith, nat_tests) in ap (λ b. if b then one else other) e

calculated_does : (op : Op) (by : By) (cell : List ℕ) (place a x n : ℕ) (m : List (ℕ × ℕ)) → IsCalculable op (operand_of by x) → n ≡ result_of op a (operand_of by x)
    → Does cell (Alu op by) place a x m (At (place + 1) n x m)
calculated_does Add by cell place a x n m is e = ap (λ v. At (place + 1) v x m) e
calculated_does Sub by cell place a x n m is e = ap (λ v. At (place + 1) v x m) e
calculated_does Mul by cell place a x n m is e = ap (λ v. At (place + 1) v x m) e
calculated_does Div (Imm k) cell place a x n m is e = (is, ap (λ v. At (place + 1) v x m) e)
calculated_does Div X cell place a x n m is e = ap (λ v. At (place + 1) v x m) e ∙ sym (not_none x (Ended 0) (At (place + 1) (result_of Div a x) x m) is)
calculated_does Mod (Imm k) cell place a x n m is e = (is, ap (λ v. At (place + 1) v x m) e)
calculated_does Mod X cell place a x n m is e = ap (λ v. At (place + 1) v x m) e ∙ sym (not_none x (Ended 0) (At (place + 1) (result_of Mod a x) x m) is)
calculated_does And by cell place a x n m is e = absurd is
calculated_does Or by cell place a x n m is e = absurd is
calculated_does Xor by cell place a x n m is e = absurd is
calculated_does Lsh by cell place a x n m is e = absurd is
calculated_does Rsh by cell place a x n m is e = absurd is

pub number_makes : (op : Op) (by : By) (contents : Contents) (one k number : ℕ) (bits : List Bit) → ((cell : ℕ) → word_number contents.a cell ≡ one) → IsOperand by contents k
    → IsComputed op one k number → ((cell : ℕ) → word_number bits cell ≡ number) → PutsInto InA (Alu op by) contents bits
number_makes op by contents one k number bits first operand computed are_bits = λ place cell there a x m are.
    let at = octets_number cell in
    let is = operand_is by contents at a x m k operand are in
    let same : one ≡ a = sym (first at) ∙ are.a_is in
    calculated_does op by cell place a x (word_number bits at) m (subst (λ n. IsCalculable op n) (sym is) computed.calculable)
    (are_bits at ∙ (computed.is ∙ (ap (λ n. result_of op n k) same ∙ ap (λ n. result_of op a n) (sym is))))

-- ---- shifts

-- A shift by less than 32.
near : (k n : ℕ) → k < 32 → (if nat_lt k 32 then n else 0) ≡ n
near k n lt = let e : nat_lt k 32 ≡ true = grind (arith, nat_tests) in ap (λ b. if b then n else 0) e

-- A shift by more.
out : (k n : ℕ) → 32 ≤ k → (if nat_lt k 32 then n else 0) ≡ 0
out k n far = let e : nat_lt k 32 ≡ false = grind (arith, nat_tests) in ap (λ b. if b then n else 0) e

left_does : (by : By) (cell : List ℕ) (place a x n : ℕ) (m : List (ℕ × ℕ)) → operand_of by x < 32 → n ≡ (a * 2 ^ operand_of by x) % 2 ^ 32 → Does cell (Alu Lsh by) place a x m (At (place + 1) n x m)
left_does (Imm k) cell place a x n m lt e = (lt, ap (λ v. At (place + 1) v x m) (e ∙ sym (near k ((a * 2 ^ k) % 2 ^ 32) lt)))
left_does X cell place a x n m lt e = ap (λ v. At (place + 1) v x m) (e ∙ sym (near x ((a * 2 ^ x) % 2 ^ 32) lt))

right_does : (by : By) (cell : List ℕ) (place a x n : ℕ) (m : List (ℕ × ℕ)) → operand_of by x < 32 → n ≡ a / 2 ^ operand_of by x → Does cell (Alu Rsh by) place a x m (At (place + 1) n x m)
right_does (Imm k) cell place a x n m lt e = (lt, ap (λ v. At (place + 1) v x m) (e ∙ sym (near k (a / 2 ^ k) lt)))
right_does X cell place a x n m lt e = ap (λ v. At (place + 1) v x m) (e ∙ sym (near x (a / 2 ^ x) lt))

pub left_makes : (by : By) (k : ℕ) (contents : Contents) (bits : List Bit) → IsOperand by contents k → k < 32 → ((cell : ℕ) → word_number bits cell ≡ (word_number contents.a cell * 2 ^ k) % 2 ^ 32)
    → PutsInto InA (Alu Lsh by) contents bits
left_makes by k contents bits operand lt shifted = λ place cell there a x m are.
    let at = octets_number cell in
    let is = operand_is by contents at a x m k operand are in
    left_does by cell place a x (word_number bits at) m (subst (λ n. n < 32) (sym is) lt)
    (shifted at ∙ (ap (λ n. (n * 2 ^ k) % 2 ^ 32) are.a_is ∙ ap (λ n. (a * 2 ^ n) % 2 ^ 32) (sym is)))

pub right_makes : (by : By) (k : ℕ) (contents : Contents) (bits : List Bit) → IsOperand by contents k → k < 32 → ((cell : ℕ) → word_number bits cell ≡ word_number contents.a cell / 2 ^ k)
    → PutsInto InA (Alu Rsh by) contents bits
right_makes by k contents bits operand lt shifted = λ place cell there a x m are.
    let at = octets_number cell in
    let is = operand_is by contents at a x m k operand are in
    right_does by cell place a x (word_number bits at) m (subst (λ n. n < 32) (sym is) lt)
    (shifted at ∙ (ap (λ n. n / 2 ^ k) are.a_is ∙ ap (λ n. a / 2 ^ n) (sym is)))

pub far_left : (k : ℕ) (contents : Contents) (bits : List Bit) → IsOperand X contents k → 32 ≤ k → ((cell : ℕ) → word_number bits cell ≡ 0) → PutsInto InA (Alu Lsh X) contents bits
far_left k contents bits operand far none = λ place cell there a x m are.
    let at = octets_number cell in
    let is : x ≡ k = operand_is X contents at a x m k operand are in
    ap (λ v. At (place + 1) v x m) (none at ∙ sym (out x ((a * 2 ^ x) % 2 ^ 32) (subst (λ n. 32 ≤ n) (sym is) far)))

pub far_right : (k : ℕ) (contents : Contents) (bits : List Bit) → IsOperand X contents k → 32 ≤ k → ((cell : ℕ) → word_number bits cell ≡ 0) → PutsInto InA (Alu Rsh X) contents bits
far_right k contents bits operand far none = λ place cell there a x m are.
    let at = octets_number cell in
    let is : x ≡ k = operand_is X contents at a x m k operand are in
    ap (λ v. At (place + 1) v x m) (none at ∙ sym (out x (a / 2 ^ x) (subst (λ n. 32 ≤ n) (sym is) far)))

pub far_makes_left : (op : Op) (by : By) (k : ℕ) (contents : Contents) (bits : List Bit) → op ≡ Lsh → by ≡ X → IsOperand by contents k → 32 ≤ k → ((cell : ℕ) → word_number bits cell ≡ 0)
    → PutsInto InA (Alu op by) contents bits
far_makes_left op by k contents bits left by_x operand far none =
    subst (λ (o : Op). PutsInto InA (Alu o by) contents bits) (sym left)
    (subst (λ (b : By). PutsInto InA (Alu Lsh b) contents bits) (sym by_x) (far_left k contents bits (subst (λ (b : By). IsOperand b contents k) by_x operand) far none))

pub far_makes_right : (op : Op) (by : By) (k : ℕ) (contents : Contents) (bits : List Bit) → op ≡ Rsh → by ≡ X → IsOperand by contents k → 32 ≤ k → ((cell : ℕ) → word_number bits cell ≡ 0)
    → PutsInto InA (Alu op by) contents bits
far_makes_right op by k contents bits right by_x operand far none =
    subst (λ (o : Op). PutsInto InA (Alu o by) contents bits) (sym right)
    (subst (λ (b : By). PutsInto InA (Alu Rsh b) contents bits) (sym by_x) (far_right k contents bits (subst (λ (b : By). IsOperand b contents k) by_x operand) far none))

-- ---- loads

pub some_loaded : (cell : List ℕ) (at many first width : ℕ) (bits : List Bit) → IsCell cell → at + many ≤ 52 → first ≡ 8 * at → width ≡ 8 * many
    → ((number : ℕ) → word_number bits number ≡ bits_number number first width) → number_at cell at many ≡ Some (word_number bits (octets_number cell))
some_loaded cell at many first width bits there fits e f spelled =
    let size : length cell ≡ 52 = there.whole in
    let here : nat_le (at + many) (length cell) ≡ true = grind (arith, nat_tests) in
    ap (λ b. if b then Some (big_number many (drop at cell)) else None) here
    ∙ ap (λ n. Some n) (octets_bits at many cell there fits ∙ (ap (λ n. bits_number (octets_number cell) n (8 * many)) (sym e) ∙ (ap (λ n. bits_number (octets_number cell) first n) (sym f) ∙ sym (spelled (octets_number cell)))))

pub some_loaded_of : (cell : List ℕ) (at many first width : ℕ) (size : Size) (bits : List Bit) → IsCell cell → at + many ≤ 52 → first ≡ 8 * at → width ≡ 8 * many → many ≡ octets_loaded size
    → ((number : ℕ) → word_number bits number ≡ bits_number number first width) → number_at cell at (octets_loaded size) ≡ Some (word_number bits (octets_number cell))
some_loaded_of cell at many first width size bits there fits e f is spelled =
    ap (λ n. number_at cell at n) (sym is) ∙ some_loaded cell at many first width bits there fits e f spelled

pub none_loaded : (cell : List ℕ) (at many : ℕ) → IsCell cell → 52 < at + many → number_at cell at many ≡ None
none_loaded cell at many there out_of =
    let size : length cell ≡ 52 = there.whole in
    let here : nat_le (at + many) (length cell) ≡ false = grind (arith, nat_tests) in
    ap (λ b. if b then Some (big_number many (drop at cell)) else None) here

loads_some : (number : Option ℕ) (n : ℕ) (on : ℕ → State) → number ≡ Some n → LoadsNumber number on (on n)
loads_some number n on e = subst (λ (o : Option ℕ). LoadsNumber o on (on n)) (sym e) refl

pub loads_made : (i : Instr) (at many : ℕ) (contents : Contents) (bits : List Bit) → LoadsAt i at many contents → AreLoaded at many (Some bits) → PutsInto InA i contents bits
loads_made i at many contents bits loads are_loaded = λ place cell there a x m are.
    loads cell there a x m are place (At (place + 1) (word_number bits (octets_number cell)) x m)
    (loads_some (number_at cell at many) (word_number bits (octets_number cell)) (λ n. At (place + 1) n x m) (are_loaded cell there))

quarter : (n : ℕ) → (((n * 2 ^ 0) % 2 ^ 4) * 2 ^ 2) % 2 ^ 32 ≡ 4 * (n % 16)
quarter n = omega arith

pub quarter_made : (k : ℕ) (contents : Contents) (octet octet_now low low_now bits : List Bit) → AreLoaded k 1 (Some octet) → octet_now ≡ octet
    → ((cell : ℕ) → word_number low cell ≡ (word_number octet_now cell * 2 ^ 0) % 2 ^ 4) → low_now ≡ low
    → ((cell : ℕ) → word_number bits cell ≡ (word_number low_now cell * 2 ^ 2) % 2 ^ 32) → PutsInto InX (LdxMsh k) contents bits
quarter_made k contents octet octet_now low low_now bits are_loaded one first other second = λ place cell there a x m are.
    let at = octets_number cell in
    let n = word_number octet at in
    let low_is : word_number low_now at ≡ (n * 2 ^ 0) % 2 ^ 4 =
    ap (λ (all : List Bit). word_number all at) other ∙ (first at ∙ ap (λ (all : List Bit). (word_number all at * 2 ^ 0) % 2 ^ 4) one) in
    let is : word_number bits at ≡ 4 * (n % 16) = second at ∙ (ap (λ v. (v * 2 ^ 2) % 2 ^ 32) low_is ∙ quarter n) in
    subst (λ v. Does cell (LdxMsh k) place a x m (At (place + 1) a v m)) (sym is)
    (loads_some (number_at cell k 1) n (λ v. At (place + 1) a (4 * (v % 16)) m) (are_loaded cell there))
