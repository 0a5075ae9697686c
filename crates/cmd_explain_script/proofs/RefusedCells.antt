-- A connection whose code names none of its contracts refuses each cell.
use Rattle.std.proofs.Common.{◌≡◌, ℕ, zero, suc, ◌+◌, ◌-◌, ◌≤◌, ◌==◌, ◌&&◌, Bool, true, false, if◌then◌else◌, List, [], ◌∷◌, Option, Some, None, length, slice_get, nat_le, refl, sym, ap, subst, arith}
use Rattle.std.proofs.lemmas.Bool.Decides.{nat_tests}
use Rattle.std.proofs.lemmas.Option.{slice_get_past}
use Rattle.bpf_code.specs.Flow.{IsInstrAt}
use Rattle.bpf_code.specs.declared.instr.By.TheVariants as operand
use Rattle.bpf_code.specs.declared.instr.Instr.{Instr}
use Rattle.bpf_code.specs.declared.instr.Instr.TheVariants as instr
use Rattle.bpf_code.specs.declared.instr.Op.TheVariants as op
use Rattle.bpf_interp.specs.Packet.{number_at, octets_loaded}
use Rattle.bpf_interp.specs.State.{State, At, Ended}
use Rattle.bpf_interp.specs.Step.{Does, LoadsNumber, Step}
use Rattle.bpf_interp.specs.Value.{EndsIn}
use Rattle.leaky.specs.declared.contract.Contract.{Contract}
use Rattle.line_record.specs.History.{buckets_after_cells, named_verdict, numbered}
use Rattle.cmd_explain_script.specs.ContractNumbers.{RefusesEachCell, is_contract_number, may_name, names_no_contract}

module _ (count : ℕ) (packet : List ℕ) where
  -- The machine goes on, or has ended with a value that names no contract.
  abbrev NamesNoneYet : State → Type 0
  NamesNoneYet (At pc a x m) = Unit {0}
  NamesNoneYet (Ended value) = is_contract_number count value ≡ false

  goes_on : (next : State) (pc a x : ℕ) (m : List (ℕ × ℕ)) → next ≡ At pc a x m → NamesNoneYet next
  goes_on next pc a x m is = subst NamesNoneYet (sym is) tt

  ends_with : (next : State) (value : ℕ) → is_contract_number count value ≡ false → next ≡ Ended value → NamesNoneYet next
  ends_with next value none is = subst NamesNoneYet (sym is) none

  -- A load ends with 0, or goes on.
  loads : (number : Option ℕ) (on : ℕ → State) (next : State) → ((n : ℕ) → NamesNoneYet (on n)) → LoadsNumber number on next → NamesNoneYet next
  loads None on next each is = ends_with next 0 refl is
  loads (Some n) on next each is = subst NamesNoneYet (sym is) (each n)

  -- A division by an X of 0 ends with 0.
  divides : (b : Bool) (next : State) (pc a x : ℕ) (m : List (ℕ × ℕ)) → next ≡ (if b then Ended 0 else At pc a x m) → NamesNoneYet next
  divides true next pc a x m is = ends_with next 0 refl is
  divides false next pc a x m is = goes_on next pc a x m is

  does : (i : Instr) (pc a x : ℕ) (m : List (ℕ × ℕ)) (next : State) → may_name count i ≡ false → Does packet i pc a x m next → NamesNoneYet next
  does (instr.LoadAbs size k) pc a x m next none is = loads (number_at packet k (octets_loaded size)) _ next (λ n. tt) is
  does (instr.LoadInd size k) pc a x m next none is = loads (number_at packet (x + k) (octets_loaded size)) _ next (λ n. tt) is
  does (instr.LoadImm k) pc a x m next none is = goes_on next _ _ _ _ is
  does (instr.LoadMem k) pc a x m next none is = goes_on next _ _ _ _ is.2
  does instr.LoadLen pc a x m next none is = goes_on next _ _ _ _ is
  does (instr.LdxImm k) pc a x m next none is = goes_on next _ _ _ _ is
  does (instr.LdxMem k) pc a x m next none is = goes_on next _ _ _ _ is.2
  does instr.LdxLen pc a x m next none is = goes_on next _ _ _ _ is
  does (instr.LdxMsh k) pc a x m next none is = loads (number_at packet k 1) _ next (λ n. tt) is
  does (instr.Store k) pc a x m next none is = goes_on next _ _ _ _ is.1
  does (instr.StoreX k) pc a x m next none is = goes_on next _ _ _ _ is.1
  does (instr.Alu op.Add by) pc a x m next none is = goes_on next _ _ _ _ is
  does (instr.Alu op.Sub by) pc a x m next none is = goes_on next _ _ _ _ is
  does (instr.Alu op.Mul by) pc a x m next none is = goes_on next _ _ _ _ is
  does (instr.Alu op.Div (operand.Imm k)) pc a x m next none is = goes_on next _ _ _ _ is.1
  does (instr.Alu op.Div operand.X) pc a x m next none is = divides (x == 0) next _ _ _ _ is
  does (instr.Alu op.Or by) pc a x m next none is = goes_on next _ _ _ _ is
  does (instr.Alu op.And by) pc a x m next none is = goes_on next _ _ _ _ is
  does (instr.Alu op.Lsh (operand.Imm k)) pc a x m next none is = goes_on next _ _ _ _ is.1
  does (instr.Alu op.Lsh operand.X) pc a x m next none is = goes_on next _ _ _ _ is
  does (instr.Alu op.Rsh (operand.Imm k)) pc a x m next none is = goes_on next _ _ _ _ is.1
  does (instr.Alu op.Rsh operand.X) pc a x m next none is = goes_on next _ _ _ _ is
  does (instr.Alu op.Mod (operand.Imm k)) pc a x m next none is = goes_on next _ _ _ _ is.1
  does (instr.Alu op.Mod operand.X) pc a x m next none is = divides (x == 0) next _ _ _ _ is
  does (instr.Alu op.Xor by) pc a x m next none is = goes_on next _ _ _ _ is
  does instr.Neg pc a x m next none is = goes_on next _ _ _ _ is
  does (instr.Jump k) pc a x m next none is = goes_on next _ _ _ _ is
  does (instr.Branch test by jt jf) pc a x m next none is = goes_on next _ _ _ _ is
  does (instr.RetK k) pc a x m next none is = ends_with next k none is
  does instr.RetA pc a x m next none is = let no = none in absurd cc
  does instr.Tax pc a x m next none is = goes_on next _ _ _ _ is
  does instr.Txa pc a x m next none is = goes_on next _ _ _ _ is

  -- Each instruction of the code names none.
  first_none : (b later : Bool) → (if b then false else later) ≡ true → (b ≡ false) × (later ≡ true)
  first_none true later is = let no : false ≡ true = is in absurd cc
  first_none false later is = (refl, is)

  each_none : (code : List Instr) (place : ℕ) (i : Instr) → names_no_contract code count ≡ true → IsInstrAt code place i → may_name count i ≡ false
  each_none [] place i none there = let no = there in absurd cc
  each_none (first ∷ code) zero i none there =
      let same : first ≡ i = let e = there in cc in
      subst (λ (i : Instr). may_name count i ≡ false) same (first_none (may_name count first) (names_no_contract code count) none).0
  each_none (first ∷ code) (suc place) i none there =
      each_none code place i (first_none (may_name count first) (names_no_contract code count) none).1 there

  module _ (code : List Instr) (none : names_no_contract code count ≡ true) where
    steps_on : (state next : State) → Step code packet state next → NamesNoneYet next
    steps_on (At pc a x m) next (i, there, is) = does i pc a x m next (each_none code pc i none there) is
    steps_on (Ended value) next is = absurd is

    value_none : (steps : ℕ) (state : State) (value : ℕ) → NamesNoneYet state → EndsIn code packet state value steps → is_contract_number count value ≡ false
    value_none zero state value yet is = subst NamesNoneYet is yet
    value_none (suc steps) state value yet (next, step, ends) = value_none steps next value (steps_on state next step) ends

-- The test of a hint.
chosen_none : (code : List Instr) (count : ℕ) (one two three four : Bool) → (count == 1) ≡ one → (count == 2) ≡ two → (count == 3) ≡ three → (count == 4) ≡ four
    → (if one then names_no_contract code 1 else (if two then names_no_contract code 2 else (if three then names_no_contract code 3 else (four && names_no_contract code 4)))) ≡ true
    → names_no_contract code count ≡ true
chosen_none code count true two three four p q r s is =
    let e : count ≡ 1 = grind (arith, nat_tests) in subst (λ (n : ℕ). names_no_contract code n ≡ true) (sym e) is
chosen_none code count false true three four p q r s is =
    let e : count ≡ 2 = grind (arith, nat_tests) in subst (λ (n : ℕ). names_no_contract code n ≡ true) (sym e) is
chosen_none code count false false true four p q r s is =
    let e : count ≡ 3 = grind (arith, nat_tests) in subst (λ (n : ℕ). names_no_contract code n ≡ true) (sym e) is
chosen_none code count false false false true p q r s is =
    let e : count ≡ 4 = grind (arith, nat_tests) in subst (λ (n : ℕ). names_no_contract code n ≡ true) (sym e) is
chosen_none code count false false false false p q r s is = let no : false ≡ true = is in absurd cc

-- No contract has a number that isn't one of theirs.
module _ (contracts : List Contract) (value : ℕ) (none : (nat_le 1 value && nat_le value (length contracts)) ≡ false) where
  none_at : (b : Bool) → (value == 0) ≡ b → (if b then None else slice_get contracts (value - 1)) ≡ None
  none_at true is = refl
  none_at false is =
      let past : length contracts ≤ value - 1 = grind (arith, nat_tests) in
      slice_get_past contracts (value - 1) past

  none_numbered : numbered contracts value ≡ None
  none_numbered = none_at (value == 0) refl

pub refuses_each_cell : RefusesEachCell
refuses_each_cell code contracts opening history cell packet steps hint gives =
    let count = length contracts in
    let none : names_no_contract code count ≡ true = chosen_none code count (count == 1) (count == 2) (count == 3) (count == 4) refl refl refl refl hint in
    let unnamed = value_none count packet code none steps (At 0 0 0 []) cell.value tt gives in
    ap (λ (found : Option Contract). named_verdict found (buckets_after_cells contracts opening history cell.value) cell) (none_numbered contracts cell.value unnamed)
