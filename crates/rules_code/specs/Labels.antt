-- Labels, and instructions that jump to them. Code is made from its end to its front, so a label is the number of
-- instructions from its instruction to the end: what is put in front changes no label.
use Rattle.std.specs.Prelude.{ℕ, suc, ◌-◌, nat_le, if◌then◌else◌, List, ◌∷◌, length}
use Rattle.bpf_code.specs.declared.instr.By.TheVariants.{Imm}
use Rattle.bpf_code.specs.declared.instr.Instr.{Instr}
use Rattle.bpf_code.specs.declared.instr.Instr.TheVariants.{Jump, Branch}
use Rattle.bpf_code.specs.declared.instr.Test.{Test}
use Rattle.rules_code.specs.declared.draft.Ways.{Ways}

-- A code with the labels of a test in it: where the test begins, and for each of its sides the label that was asked for, or a nearer one
-- whose `ja` leads there.
pub record Tested : Type 0 where
  pub code : List Instr
  pub ways : Ways

-- The code in which a branch can name the label: if it is more than 250 instructions away, `ja` to it is put in front.
abbrev pub near_code : List Instr → ℕ → List Instr
near_code code label = if nat_le (length code - label) 250 then code else Jump (length code - label) ∷ code

-- The label that a branch names then.
abbrev pub near_label : List Instr → ℕ → ℕ
near_label code label = if nat_le (length code - label) 250 then label else suc (length code)

-- The branch to two labels that are near, put in front of the code.
abbrev pub branch_to : Test → ℕ → List Instr → ℕ → ℕ → Tested
branch_to test k code met unmet = record {
  code = Branch test (Imm k) (length code - met) (length code - unmet) ∷ code;
  ways = record { entry = suc (length code); met = met; unmet = unmet };
}

-- The branch to the label for a test that is met and the label for one that isn't.
unfoldable pub branched : Test → ℕ → List Instr → ℕ → ℕ → Tested
branched test k code met unmet =
    branch_to test k (near_code (near_code code met) unmet) (near_label code met) (near_label (near_code code met) unmet)
