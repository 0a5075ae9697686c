-- Branches, and the jumps that they need to far labels.
use Rattle.std.proofs.Common.{◌≡◌, ℕ, suc, ◌-◌, Bool, true, false, nat_le, if◌then◌else◌, List, ◌∷◌, length, drop, refl, subst, arith}
use Rattle.bpf_code.specs.declared.instr.By.TheVariants.{Imm}
use Rattle.bpf_code.specs.declared.instr.Instr.{Instr}
use Rattle.bpf_code.specs.declared.instr.Instr.TheVariants.{Jump, Branch}
use Rattle.bpf_code.specs.declared.instr.Test.{Test}
use Rattle.bpf_interp.specs.Tests.{test_of}
use Rattle.rules_code.specs.Labels.{near_code, near_label, branched}
use Rattle.rules_code.specs.inner.Suffixes.{suffix_at}
use Rattle.rules_code.proofs.Suffixes.{Gives, gives_branch, gives_jump, gives_whole}
use Rattle.rules_code.proofs.Growing.{Extends, IsLabel, IsSoundBefore, IsWell, extends_self, extends_more, extends_one, gives_kept, label_front, label_kept}

module _ (code : List Instr) (label : ℕ) (is : IsLabel code label) where
  away_sound : IsSoundBefore (Jump (length code - label)) (length code)
  away_sound = let p = is.positive in let w = is.within in omega arith

  pub near_extends : Extends code (near_code code label)
  near_extends =
      elim (nat_le (length code - label) 250) as (λ b. Extends code (if b then code else Jump (length code - label) ∷ code)) [
        | true ↦ extends_self code
        | false ↦ extends_one (Jump (length code - label)) code away_sound
      ]

  pub near_is : IsLabel (near_code code label) (near_label code label)
  near_is =
      elim (nat_le (length code - label) 250) as (λ b. IsLabel (if b then code else Jump (length code - label) ∷ code) (if b then label else suc (length code))) [
        | true ↦ is
        | false ↦ label_front (Jump (length code - label)) code
      ]

  pub near_leads : (packet : List ℕ) (a value : ℕ) → Gives packet (suffix_at code label) a value → Gives packet (suffix_at (near_code code label) (near_label code label)) a value
  near_leads packet a value given =
      elim (nat_le (length code - label) 250) as (λ b. Gives packet (suffix_at (if b then code else Jump (length code - label) ∷ code) (if b then label else suc (length code))) a value) [
        | true ↦ given
        | false ↦ gives_whole packet (Jump (length code - label) ∷ code) a value (gives_jump packet (length code - label) code a value given)
      ]

-- The offset of a branch leads to the label of its side.
side_is : (t : Bool) (code : List Instr) (met unmet : ℕ) → suffix_at code (if t then met else unmet) ≡ drop (if t then length code - met else length code - unmet) code
side_is true code met unmet = refl
side_is false code met unmet = refl

-- A side that leads on from a label does so from a nearer one.
side_leads : (t : Bool) (packet : List ℕ) (old new : List Instr) (met unmet met' unmet' a value : ℕ)
    → (Gives packet (suffix_at old met) a value → Gives packet (suffix_at new met') a value)
    → (Gives packet (suffix_at old unmet) a value → Gives packet (suffix_at new unmet') a value)
    → Gives packet (suffix_at old (if t then met else unmet)) a value → Gives packet (suffix_at new (if t then met' else unmet')) a value
side_leads true packet old new met unmet met' unmet' a value p q given = p given
side_leads false packet old new met unmet met' unmet' a value p q given = q given

module _ (test : Test) (k : ℕ) (code : List Instr) (met unmet : ℕ) (met_is : IsLabel code met) (unmet_is : IsLabel code unmet) where
  near_both : List Instr
  near_both = near_code (near_code code met) unmet

  unmet_there : IsLabel (near_code code met) unmet
  unmet_there = label_kept code (near_code code met) unmet (near_extends code met met_is) unmet_is

  second : Extends (near_code code met) (near_code (near_code code met) unmet)
  second = near_extends (near_code code met) unmet unmet_there

  both : Extends code (near_code (near_code code met) unmet)
  both = extends_more code (near_code code met) (near_code (near_code code met) unmet) (near_extends code met met_is) second

  met_near : IsLabel (near_code (near_code code met) unmet) (near_label code met)
  met_near = label_kept (near_code code met) (near_code (near_code code met) unmet) (near_label code met) second (near_is code met met_is)

  unmet_near : IsLabel (near_code (near_code code met) unmet) (near_label (near_code code met) unmet)
  unmet_near = near_is (near_code code met) unmet unmet_there

  met_leads_near : (packet : List ℕ) (a value : ℕ) → Gives packet (suffix_at code met) a value → Gives packet (suffix_at (near_code (near_code code met) unmet) (near_label code met)) a value
  met_leads_near packet a value given =
      gives_kept packet (near_code code met) (near_code (near_code code met) unmet) (near_label code met) a value second (near_is code met met_is) (near_leads code met met_is packet a value given)

  unmet_leads_near : (packet : List ℕ) (a value : ℕ) → Gives packet (suffix_at code unmet) a value → Gives packet (suffix_at (near_code (near_code code met) unmet) (near_label (near_code code met) unmet)) a value
  unmet_leads_near packet a value given =
      near_leads (near_code code met) unmet unmet_there packet a value
      (gives_kept packet code (near_code code met) unmet a value (near_extends code met met_is) unmet_is given)

  front_sound : IsSoundBefore (Branch test (Imm k) (length (near_code (near_code code met) unmet) - near_label code met) (length (near_code (near_code code met) unmet) - near_label (near_code code met) unmet)) (length (near_code (near_code code met) unmet))
  front_sound =
      let p = met_near.positive in let q = unmet_near.positive in
      let v = met_near.within in let w = unmet_near.within in (omega arith, omega arith)

  -- The branch, in front of the code with the jumps that it needs.
  pub front : Extends (near_code (near_code code met) unmet) (branched test k code met unmet).code
  unfolding branched
  front = extends_one (Branch test (Imm k) (length (near_code (near_code code met) unmet) - near_label code met) (length (near_code (near_code code met) unmet) - near_label (near_code code met) unmet)) (near_code (near_code code met) unmet) front_sound

  pub branched_front : (branched test k code met unmet).ways.entry ≡ length (branched test k code met unmet).code
  unfolding branched
  branched_front = refl

  pub branched_well : IsWell code met unmet (branched test k code met unmet)
  unfolding branched
  branched_well = record {
    extends = extends_more code (near_code (near_code code met) unmet) (branched test k code met unmet).code both front;
    entry = record { positive = omega arith; within = omega arith };
    met_is = label_kept (near_code (near_code code met) unmet) (branched test k code met unmet).code (near_label code met) front met_near;
    unmet_is = label_kept (near_code (near_code code met) unmet) (branched test k code met unmet).code (near_label (near_code code met) unmet) front unmet_near;
    met_leads = λ packet a value given.
        gives_kept packet (near_code (near_code code met) unmet) (branched test k code met unmet).code (near_label code met) a value front met_near (met_leads_near packet a value given);
    unmet_leads = λ packet a value given.
        gives_kept packet (near_code (near_code code met) unmet) (branched test k code met unmet).code (near_label (near_code code met) unmet) a value front unmet_near (unmet_leads_near packet a value given);
  }

  pub branched_gives : (packet : List ℕ) (a value : ℕ) → Gives packet (suffix_at code (if test_of test a k then met else unmet)) a value → Gives packet (suffix_at (branched test k code met unmet).code (branched test k code met unmet).ways.entry) a value
  unfolding branched
  branched_gives packet a value given =
      let near_side = side_leads (test_of test a k) packet code (near_code (near_code code met) unmet) met unmet (near_label code met) (near_label (near_code code met) unmet) a value (met_leads_near packet a value) (unmet_leads_near packet a value) given in
      let there = subst (λ (s : List Instr). Gives packet s a value) (side_is (test_of test a k) (near_code (near_code code met) unmet) (near_label code met) (near_label (near_code code met) unmet)) near_side in
      gives_whole packet (branched test k code met unmet).code a value
      (gives_branch packet test k (length (near_code (near_code code met) unmet) - near_label code met) (length (near_code (near_code code met) unmet) - near_label (near_code code met) unmet) (near_code (near_code code met) unmet) a value there)
