-- Code that is put in front of other code.
use Rattle.std.proofs.Common.{◌≡◌, ℕ, suc, ◌≤◌, ◌<◌, List, [], ◌∷◌, length, refl, sym, subst, ◌∙◌, arith}
use Rattle.bpf_code.specs.declared.instr.By.TheVariants.{Imm}
use Rattle.bpf_code.specs.declared.instr.Instr.{Instr}
use Rattle.bpf_code.specs.declared.instr.Instr.TheVariants.{LoadAbs, Alu, Jump, Branch, RetK}
use Rattle.bpf_code.specs.declared.instr.Op.TheVariants.{And}
use Rattle.rules_code.specs.Labels.{Tested}
use Rattle.rules_code.specs.inner.Suffixes.{suffix_at}
use Rattle.rules_code.proofs.Suffixes.{Gives, suffix_kept}

-- The instruction is one that tests need, and its jumps lead into the code of this length after it.
abbrev pub IsSoundBefore : Instr → ℕ → Type 0
IsSoundBefore (LoadAbs size k) n = Unit {0}
IsSoundBefore (Alu And (Imm k)) n = Unit {0}
IsSoundBefore (Jump k) n = k < n
IsSoundBefore (Branch test (Imm k) jt jf) n = (jt < n) × (jf < n)
IsSoundBefore (RetK k) n = Unit {0}
IsSoundBefore _ n = ⊥

-- Each instruction of the code is such a one.
abbrev pub AreSound : List Instr → Type 0
AreSound [] = Unit {0}
AreSound (i ∷ code) = IsSoundBefore i (length code) × AreSound code

-- The label of an instruction of the code.
pub record IsLabel (code : List Instr) (label : ℕ) : Type 0 where
  pub positive : 1 ≤ label
  pub within : label ≤ length code

-- The new code is the old one with sound instructions in front.
pub record Extends (old new : List Instr) : Type 0 where
  pub within : length old ≤ length new
  pub kept : (label : ℕ) → label ≤ length old → suffix_at new label ≡ suffix_at old label
  pub sound : AreSound old → AreSound new

pub extends_self : (code : List Instr) → Extends code code
extends_self code = record { within = omega arith; kept = λ label within. refl; sound = λ s. s }

pub extends_more : (one two three : List Instr) → Extends one two → Extends two three → Extends one three
extends_more one two three p q =
    let first = p.within in
    let second = q.within in
    record {
      within = omega arith;
      kept = λ label within. let further : label ≤ length two = omega arith in q.kept label further ∙ p.kept label within;
      sound = λ s. q.sound (p.sound s);
    }

pub extends_one : (i : Instr) (code : List Instr) → IsSoundBefore i (length code) → Extends code (i ∷ code)
extends_one i code before = record {
  within = omega arith;
  kept = λ label within. suffix_kept i code label within;
  sound = λ s. (before, s);
}

pub label_kept : (old new : List Instr) (label : ℕ) → Extends old new → IsLabel old label → IsLabel new label
label_kept old new label e l =
    let w = e.within in let v = l.within in record { positive = l.positive; within = omega arith }

pub label_front : (i : Instr) (code : List Instr) → IsLabel (i ∷ code) (suc (length code))
label_front i code = record { positive = omega arith; within = omega arith }

pub gives_kept : (packet : List ℕ) (old new : List Instr) (label a value : ℕ) → Extends old new → IsLabel old label → Gives packet (suffix_at old label) a value → Gives packet (suffix_at new label) a value
gives_kept packet old new label a value e l given =
    subst (λ (s : List Instr). Gives packet s a value) (sym (e.kept label l.within)) given

-- What is true of the code and the labels of a test in front of code with these labels.
pub record IsWell (code : List Instr) (met unmet : ℕ) (t : Tested) : Type 0 where
  pub extends : Extends code t.code
  pub entry : IsLabel t.code t.ways.entry
  pub met_is : IsLabel t.code t.ways.met
  pub unmet_is : IsLabel t.code t.ways.unmet
  pub met_leads : (packet : List ℕ) (a value : ℕ) → Gives packet (suffix_at code met) a value → Gives packet (suffix_at t.code t.ways.met) a value
  pub unmet_leads : (packet : List ℕ) (a value : ℕ) → Gives packet (suffix_at code unmet) a value → Gives packet (suffix_at t.code t.ways.unmet) a value
