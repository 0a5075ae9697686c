-- The encoding of instructions (net/bpf.h).
use Rattle.std.specs.Prelude.{◌≡◌, ◌+◌, ◌*◌, ◌≤◌, ◌<◌, ℕ, List, [], ◌∷◌, length, take, drop, IfSome, IfNone}
use Rattle.bpf_code.specs.Fields.{instr_code, jt_in, jf_in, k_in}
use Rattle.bpf_code.specs.Table.{code_of, jt_of, jf_of, k_of}
use Rattle.bpf_code.specs.declared.instr.Instr.{Instr}

-- Eight octets spell an instruction if they hold its code and each field that it uses. The other fields may hold
-- anything.
pub record Spells (octets : List ℕ) (i : Instr) : Type 0 where
  pub eight : length octets ≡ 8
  pub code : instr_code octets ≡ code_of i
  pub jt : IfSome (jt_of i) (λ offset. jt_in octets ≡ offset)
  pub jf : IfSome (jf_of i) (λ offset. jf_in octets ≡ offset)
  pub k : IfSome (k_of i) (λ operand. k_in octets ≡ operand)

-- Each field that the instruction doesn't use is 0.
pub record UnusedAreZero (octets : List ℕ) (i : Instr) : Type 0 where
  pub jt : IfNone (jt_of i) (jt_in octets ≡ 0)
  pub jf : IfNone (jf_of i) (jf_in octets ≡ 0)
  pub k : IfNone (k_of i) (k_in octets ≡ 0)

-- Octets spell a code if its instructions, in order, are spelled by eight octets each.
abbrev pub SpellsCode : List ℕ → List Instr → Type 0
SpellsCode octets [] = octets ≡ []
SpellsCode octets (i ∷ code) = Spells (take 8 octets) i × SpellsCode (drop 8 octets) code

-- Octets spell a code plainly if they spell it and each field that an instruction doesn't use is 0.
abbrev pub SpellsPlainly : List ℕ → List Instr → Type 0
SpellsPlainly octets [] = octets ≡ []
SpellsPlainly octets (i ∷ code) = Spells (take 8 octets) i × UnusedAreZero (take 8 octets) i × SpellsPlainly (drop 8 octets) code

-- The eight octets of the instruction at this place.
abbrev pub eight_at : List ℕ → ℕ → List ℕ
eight_at octets place = take 8 (drop (8 * place) octets)

-- The eight octets at this place are the first that spell no instruction, and their first two are the number `code`.
pub record IsFirstUnknown (octets : List ℕ) (place code : ℕ) : Type 0 where
  pub within : 8 * place + 8 ≤ length octets
  pub there : instr_code (eight_at octets place) ≡ code
  pub unknown : (i : Instr) → ¬ Spells (eight_at octets place) i
  pub before : (earlier : ℕ) → earlier < place → (i : Instr) × Spells (eight_at octets earlier) i
