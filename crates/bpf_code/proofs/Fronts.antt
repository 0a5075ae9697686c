-- Loop invariant of `decode`: the octets before the place spell the instructions decoded so far.
use Rattle.std.proofs.Common.{◌≡◌, ℕ, zero, suc, ◌+◌, ◌*◌, ◌%◌, ◌≤◌, ◌<◌, List, [], ◌∷◌, ◌++◌, length, take, drop, get_or, refl, ap, sym, ◌∙◌, subst, arith, drop-drop, append_assoc, append-nil, below_more}
use Rattle.std.proofs.lemmas.List.{drop_all}
use Rattle.std.specs.Simd.{first_chunks}
use Rattle.bpf_code.proofs.Spelled.{SpellsCode-at, SpellsCode-length}
use Rattle.bpf_code.specs.Fields.{instr_code}
use Rattle.bpf_code.specs.OctetSpelling.{Spells, SpellsCode, IsFirstUnknown, eight_at}
use Rattle.bpf_code.specs.declared.instr.Instr.{Instr}

-- The octets before the place spell the code decoded so far.
pub record IsFront (octets : List ℕ) (place : ℕ) (code : List Instr) : Type 0 where
  pub spelled : (rest : List Instr) → SpellsCode (drop (8 * place) octets) rest → SpellsCode octets (code ++ rest)
  pub before : (earlier : ℕ) → earlier < place → (i : Instr) × Spells (eight_at octets earlier) i

-- Initially no instruction is decoded.
pub IsFront-none : (octets : List ℕ) → IsFront octets 0 []
IsFront-none octets = record { spelled = λ rest s. s; before = λ earlier h. absurd (omega arith) }

-- One more instruction is decoded.
pub IsFront-more : (octets : List ℕ) (place : ℕ) (code : List Instr) (i : Instr) → IsFront octets place code → Spells (eight_at octets place) i → IsFront octets (place + 1) (code ++ i ∷ [])
IsFront-more octets place code i f s = record {
  spelled = λ rest r.
      let next : 8 * (place + 1) ≡ 8 * place + 8 = omega arith in
      let after : SpellsCode (drop 8 (drop (8 * place) octets)) rest = rw drop-drop (subst (λ (n : ℕ). SpellsCode (drop n octets) rest) next r) in
      rw append_assoc (f.spelled (i ∷ rest) (s, after));
  before = below_more (λ (earlier : ℕ). (j : Instr) × Spells (eight_at octets earlier) j) place f.before (i, s);
}

-- At the end, the octets spell the decoded code.
pub IsFront-all : (octets : List ℕ) (place : ℕ) (code : List Instr) → length octets ≤ 8 * place → IsFront octets place code → SpellsCode octets code
IsFront-all octets place code h f =
    rw append-nil at (f.spelled [] (drop_all (8 * place) octets h))

-- The chunk at a place is `eight_at` that place.
pub chunk_at : (n k : ℕ) (octets : List ℕ) → k < n → get_or (first_chunks 8 n octets) k [] ≡ eight_at octets k
chunk_at zero k octets h = absurd (omega arith)
chunk_at (suc n) zero octets h = refl
chunk_at (suc n) (suc k) octets h =
    let later = chunk_at n k (drop 8 octets) (omega arith) in
    let moved : 8 + 8 * k ≡ 8 * suc k = omega arith in
    later ∙ rw drop-drop (ap (λ (m : ℕ). take 8 (drop m octets)) moved)

-- The length of octets that spell a code is a multiple of 8.
pub SpellsCode-ragged : (octets : List ℕ) (code : List Instr) → SpellsCode octets code → 0 < length octets % 8 → ⊥
SpellsCode-ragged octets code s h = let e = SpellsCode-length octets code s in omega arith

-- Octets that spell a code have no unknown instruction.
pub SpellsCode-known : (octets : List ℕ) (code : List Instr) (place found : ℕ) → SpellsCode octets code → IsFirstUnknown octets place found → ⊥
SpellsCode-known octets code place found s u =
    let here = SpellsCode-at octets code place s u.within in
    u.unknown here.0 here.1

-- The first unknown place is unique.
pub IsFirstUnknown-place : (octets : List ℕ) (p q c d : ℕ) → IsFirstUnknown octets p c → IsFirstUnknown octets q d → p ≡ q
IsFirstUnknown-place octets p q c d u v =
    let not_below : p < q → ⊥ = λ h. let e = v.before p h in u.unknown e.0 e.1 in
    let not_above : q < p → ⊥ = λ h. let e = u.before q h in v.unknown e.0 e.1 in
    omega arith

-- The number there is unique too.
pub IsFirstUnknown-code : (octets : List ℕ) (p q c d : ℕ) → IsFirstUnknown octets p c → IsFirstUnknown octets q d → c ≡ d
IsFirstUnknown-code octets p q c d u v =
    let e = IsFirstUnknown-place octets p q c d u v in
    sym u.there ∙ ap (λ (n : ℕ). instr_code (eight_at octets n)) e ∙ v.there
