-- The contracts that the values of a program name. The contracts of a connection have the numbers from 1. Any other value names none.
use Rattle.std.specs.Prelude.{◌≡◌, ℕ, ◌==◌, ◌&&◌, nat_le, Bool, true, false, if◌then◌else◌, List, [], ◌∷◌, length}
use Rattle.bpf_code.specs.declared.instr.Instr.{Instr}
use Rattle.bpf_code.specs.declared.instr.Instr.TheVariants.{RetK, RetA}
use Rattle.bpf_interp.specs.Value.{Value}
use Rattle.leaky.specs.Contract.{Buckets}
use Rattle.leaky.specs.declared.contract.Contract.{Contract}
use Rattle.leaky.specs.declared.verdict.Verdict.TheVariants.{Refuse}
use Rattle.line_record.specs.History.{NamedCell, verdict_after}
use Rattle.cmd_explain_script.specs.declared.contract_numbers.NamesNoContract.{NamesNoContract}

-- Whether a value is the number of one of this many contracts.
abbrev pub is_contract_number : ℕ → ℕ → Bool
is_contract_number count value = nat_le 1 value && nat_le value count

-- Whether an instruction may return such a number: a return of this constant does, and a return of the register A may.
abbrev pub may_name : ℕ → Instr → Bool
may_name count (RetK k) = is_contract_number count k
may_name count RetA = true
may_name count _ = false

-- Whether no instruction of a code may return such a number.
abbrev pub names_no_contract : List Instr → ℕ → Bool
names_no_contract [] count = true
names_no_contract (i ∷ code) count = if may_name count i then false else names_no_contract code count

-- For one, two, three and four contracts: whether a code names none of them.
abbrev pub names_none : List Instr → NamesNoContract
names_none code = record {
  one = names_no_contract code 1;
  two = names_no_contract code 2;
  three = names_no_contract code 3;
  four = names_no_contract code 4;
}

-- Whether the code names none of this many contracts. A connection has one to four.
abbrev pub names_none_of : NamesNoContract → ℕ → Bool
names_none_of none count =
    if count == 1 then none.one else (if count == 2 then none.two else (if count == 3 then none.three else ((count == 4) && none.four)))

-- A connection whose code names none of its contracts refuses each cell, whatever came before it.
abbrev pub RefusesEachCell : Type 0
RefusesEachCell =
    (code : List Instr) (contracts : List Contract) (opening : ℕ → Buckets) (history : List NamedCell) (cell : NamedCell) (packet : List ℕ) (steps : ℕ)
    → names_none_of (names_none code) (length contracts) ≡ true → Value code packet cell.value steps
    → verdict_after contracts opening history cell ≡ Refuse
