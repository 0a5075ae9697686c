-- Jumps that leave their code.
use Rattle.std.proofs.Common.{◌≡◌, ℕ, ◌+◌, ◌-◌, ◌<◌, ◌≤◌, Bool, true, false, leb, refl, arith, inl, inr}
use Rattle.std.specs.Bool.{MatchBool}
use Rattle.std.proofs.lemmas.Bool.{leb-true, leb-false}
use Rattle.bpf_asm.specs.Listing.{Leaves, StaysWithin}
use Rattle.bpf_code.specs.declared.instr.By.{By}
use Rattle.bpf_code.specs.declared.instr.Test.{Test}
use Rattle.bpf_code.specs.declared.instr.Instr.{Instr}
use Rattle.bpf_code.specs.declared.instr.Instr.TheVariants.{Jump, Branch}

-- Whether the instruction at this place leaves the code, if this many instructions follow it.
abbrev pub Answers : ℕ → ℕ → Instr → Bool → Type 0
Answers b place i t = MatchBool t (Leaves (place + 1 + b) place i) (StaysWithin (place + 1 + b) place i)

jump_by : (b k place : ℕ) (t : Bool) → leb b k ≡ t → Answers b place (Jump k) t
jump_by b k place true e = let h : b ≤ k = leb-true b k e in (place + 1 + k, refl, omega arith)
jump_by b k place false e = let h : k < b = leb-false b k e in λ target j. omega arith

-- A jump leaves the code exactly if its offset is at least the number of instructions that follow.
pub jump_leaves : (b k place : ℕ) (i : Instr) → i ≡ Jump k → Answers b place i (leb b k)
jump_leaves b k place i e = rw e (jump_by b k place (leb b k) refl)

met_by : (b jt jf place : ℕ) (test : Test) (by : By) (t : Bool) → leb b jt ≡ t → b ≤ jt → Answers b place (Branch test by jt jf) t
met_by b jt jf place test by true e h = (place + 1 + jt, inl refl, omega arith)
met_by b jt jf place test by false e h = let l : jt < b = leb-false b jt e in absurd (omega arith)

-- The same for a branch, by its first offset.
pub branch_leaves_first : (b jt jf place : ℕ) (test : Test) (by : By) (i : Instr) → i ≡ Branch test by jt jf → b ≤ jt → Answers b place i (leb b jt)
branch_leaves_first b jt jf place test by i e h = rw e (met_by b jt jf place test by (leb b jt) refl h)

stays_both : (b jt jf place : ℕ) (test : Test) (by : By) → jt < b → jf < b → StaysWithin (place + 1 + b) place (Branch test by jt jf)
stays_both b jt jf place test by h l target j = elim j [ inl e ↦ omega arith | inr e ↦ omega arith ]

unmet_by : (b jt jf place : ℕ) (test : Test) (by : By) (t : Bool) → leb b jf ≡ t → jt < b → Answers b place (Branch test by jt jf) t
unmet_by b jt jf place test by true e h = let l : b ≤ jf = leb-true b jf e in (place + 1 + jf, inr refl, omega arith)
unmet_by b jt jf place test by false e h = let l : jf < b = leb-false b jf e in stays_both b jt jf place test by h l

-- The same for a branch, by its second offset.
pub branch_leaves_second : (b jt jf place : ℕ) (test : Test) (by : By) (i : Instr) → i ≡ Branch test by jt jf → jt < b → Answers b place i (leb b jf)
branch_leaves_second b jt jf place test by i e h = rw e (unmet_by b jt jf place test by (leb b jf) refl h)

-- If it is true, the instruction leaves the code.
pub leaves_if : (count place : ℕ) (i : Instr) (t : Bool) → place < count → t ≡ true → Answers (count - place - 1) place i t → Leaves count place i
leaves_if count place i true h e a = let all : place + 1 + (count - place - 1) ≡ count = omega arith in rw all at a
leaves_if count place i false h e a = cc

-- If it is false, the instruction stays within the code.
pub stays_if : (count place : ℕ) (i : Instr) (t : Bool) → place < count → t ≡ false → Answers (count - place - 1) place i t → StaysWithin count place i
stays_if count place i true h e a = cc
stays_if count place i false h e a = let all : place + 1 + (count - place - 1) ≡ count = omega arith in rw all at a

-- The target of a jump that stays within.
pub jump_within : (count place k : ℕ) (i : Instr) → StaysWithin count place i → i ≡ Jump k → place + 1 + k < count
jump_within count place k i h e = let w : StaysWithin count place (Jump k) = rw e at h in w (place + 1 + k) refl

-- The targets of a branch that stays within.
pub branch_within : (count place jt jf : ℕ) (test : Test) (by : By) (i : Instr) → StaysWithin count place i → i ≡ Branch test by jt jf → (place + 1 + jt < count) × (place + 1 + jf < count)
branch_within count place jt jf test by i h e =
    let w : StaysWithin count place (Branch test by jt jf) = rw e at h in
    (w (place + 1 + jt) (inl refl), w (place + 1 + jf) (inr refl))
