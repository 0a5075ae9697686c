-- What the machine does from a suffix of a code, wherever in a code it is.
use Rattle.std.proofs.Common.{◌≡◌, ℕ, zero, suc, ◌+◌, ◌-◌, ◌≤◌, if◌then◌else◌, List, [], ◌∷◌, length, drop, Some, refl, sym, ap, subst, ◌∙◌, arith}
use Rattle.std.proofs.lemmas.List.{drop-drop}
use Rattle.bpf_code.specs.Flow.{IsInstrAt}
use Rattle.bpf_code.specs.declared.instr.By.TheVariants.{Imm}
use Rattle.bpf_code.specs.declared.instr.Instr.{Instr}
use Rattle.bpf_code.specs.declared.instr.Instr.TheVariants.{Jump, Branch, RetK}
use Rattle.bpf_code.specs.declared.instr.Test.{Test}
use Rattle.bpf_interp.specs.State.{At, Ended}
use Rattle.bpf_interp.specs.Step.{Does}
use Rattle.bpf_interp.specs.Tests.{test_of}
use Rattle.bpf_interp.specs.Value.{EndsIn}
use Rattle.rules_code.specs.inner.Suffixes.{suffix_at}

-- From the suffix, with this in A, the machine ends with the value.
pub record Gives (packet : List ℕ) (suffix : List Instr) (a value : ℕ) : Type 0 where
  pub ends : (code : List Instr) (pc x : ℕ) (m : List (ℕ × ℕ)) → drop pc code ≡ suffix → (steps : ℕ) × EndsIn code packet (At pc a x m) value steps

-- The first instruction of a suffix is the one at its place.
pub instr_at_suffix : (code : List Instr) (pc : ℕ) (i : Instr) (rest : List Instr) → drop pc code ≡ i ∷ rest → IsInstrAt code pc i
instr_at_suffix [] zero i rest e = absurd cc
instr_at_suffix [] (suc pc) i rest e = absurd cc
instr_at_suffix (j ∷ code) zero i rest e = let same : j ≡ i = cc in ap Some same
instr_at_suffix (j ∷ code) (suc pc) i rest e = instr_at_suffix code pc i rest e

-- The suffix that is so many instructions after the first.
drop_on : (code : List Instr) (pc : ℕ) (i : Instr) (rest : List Instr) (k : ℕ) → drop pc code ≡ i ∷ rest → drop (pc + 1 + k) code ≡ drop k rest
drop_on code pc i rest k at =
    let place : pc + 1 + k ≡ pc + suc k = omega arith in
    ap (λ n. drop n code) place ∙ (sym (drop-drop (suc k) pc code) ∙ ap (drop (suc k)) at)

drop_next : (code : List Instr) (pc : ℕ) (i : Instr) (rest : List Instr) → drop pc code ≡ i ∷ rest → drop (pc + 1) code ≡ rest
drop_next code pc i rest at =
    let place : pc + 1 ≡ pc + 1 + 0 = omega arith in
    ap (λ n. drop n code) place ∙ drop_on code pc i rest 0 at

module _ (packet : List ℕ) (i : Instr) (rest : List Instr) (a b value : ℕ) where
  -- An instruction that skips some of those after it.
  pub gives_skip : (k : ℕ) → ((pc x : ℕ) (m : List (ℕ × ℕ)) → Does packet i pc a x m (At (pc + 1 + k) b x m)) → Gives packet (drop k rest) b value → Gives packet (i ∷ rest) a value
  gives_skip k does later = record {
    ends = λ code pc x m at.
        let more = later.ends code (pc + 1 + k) x m (drop_on code pc i rest k at) in
        (suc more.0, (At (pc + 1 + k) b x m, (i, instr_at_suffix code pc i rest at, does pc x m), more.1));
  }

  -- An instruction that goes on with the next.
  pub gives_next : ((pc x : ℕ) (m : List (ℕ × ℕ)) → Does packet i pc a x m (At (pc + 1) b x m)) → Gives packet rest b value → Gives packet (i ∷ rest) a value
  gives_next does later = record {
    ends = λ code pc x m at.
        let more = later.ends code (pc + 1) x m (drop_next code pc i rest at) in
        (suc more.0, (At (pc + 1) b x m, (i, instr_at_suffix code pc i rest at, does pc x m), more.1));
  }

-- A return.
pub gives_return : (packet : List ℕ) (rest : List Instr) (a value : ℕ) → Gives packet (RetK value ∷ rest) a value
gives_return packet rest a value = record {
  ends = λ code pc x m at. (1, (Ended value, (RetK value, instr_at_suffix code pc (RetK value) rest at, refl), refl));
}

-- A jump.
pub gives_jump : (packet : List ℕ) (k : ℕ) (rest : List Instr) (a value : ℕ) → Gives packet (drop k rest) a value → Gives packet (Jump k ∷ rest) a value
gives_jump packet k rest a value later = gives_skip packet (Jump k) rest a a value k (λ pc x m. refl) later

-- A branch.
pub gives_branch : (packet : List ℕ) (test : Test) (k jt jf : ℕ) (rest : List Instr) (a value : ℕ) → Gives packet (drop (if test_of test a k then jt else jf) rest) a value → Gives packet (Branch test (Imm k) jt jf ∷ rest) a value
gives_branch packet test k jt jf rest a value later =
    gives_skip packet (Branch test (Imm k) jt jf) rest a a value (if test_of test a k then jt else jf) (λ pc x m. refl) later

-- ---- labels

pub suffix_kept : (i : Instr) (code : List Instr) (label : ℕ) → label ≤ length code → suffix_at (i ∷ code) label ≡ suffix_at code label
suffix_kept i code label within =
    let more : suc (length code) - label ≡ suc (length code - label) = omega arith in
    ap (λ n. drop n (i ∷ code)) more

pub suffix_whole : (code : List Instr) → suffix_at code (length code) ≡ code
suffix_whole code = let none : length code - length code ≡ 0 = omega arith in ap (λ n. drop n code) none

-- What is given from the front of a code is given from its first label.
pub gives_whole : (packet : List ℕ) (code : List Instr) (a value : ℕ) → Gives packet code a value → Gives packet (suffix_at code (length code)) a value
gives_whole packet code a value given = subst (λ (s : List Instr). Gives packet s a value) (sym (suffix_whole code)) given

pub gives_from_whole : (packet : List ℕ) (code : List Instr) (a value : ℕ) → Gives packet (suffix_at code (length code)) a value → Gives packet code a value
gives_from_whole packet code a value given = subst (λ (s : List Instr). Gives packet s a value) (suffix_whole code) given
