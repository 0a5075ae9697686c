-- The shape of octets that spell a code.
use Rattle.std.proofs.Common.{◌≡◌, ℕ, zero, suc, ◌+◌, ◌*◌, ◌≤◌, List, [], ◌∷◌, length, take, drop, refl, ap, subst, arith, length-take, length-drop, drop-drop}
use Rattle.bpf_code.proofs.Rows.{Spells-unique}
use Rattle.bpf_code.specs.OctetSpelling.{Spells, SpellsCode, eight_at}
use Rattle.bpf_code.specs.declared.instr.Instr.{Instr}

-- Octets that spell an instruction are at least eight.
pub Spells-length : (octets : List ℕ) (i : Instr) → Spells (take 8 octets) i → 8 ≤ length octets
Spells-length octets i s = let e = s.eight in let f = length-take 8 octets in omega arith

-- A code of n instructions is spelled by 8 * n octets.
pub SpellsCode-length : (octets : List ℕ) (code : List Instr) → SpellsCode octets code → length octets ≡ 8 * length code
SpellsCode-length octets [] s = ap length s
SpellsCode-length octets (i ∷ code) s =
    let here = Spells-length octets i s.0 in
    let later = SpellsCode-length (drop 8 octets) code s.1 in
    let left = length-drop 8 octets in
    omega arith

-- Octets spell at most one code.
pub SpellsCode-unique : (octets : List ℕ) (one other : List Instr) → SpellsCode octets one → SpellsCode octets other → one ≡ other
SpellsCode-unique octets [] [] s t = refl
SpellsCode-unique octets [] (j ∷ js) s t =
    let few : length octets ≡ 0 = ap length s in
    let many = Spells-length octets j t.0 in
    absurd (omega arith)
SpellsCode-unique octets (i ∷ is) [] s t =
    let few : length octets ≡ 0 = ap length t in
    let many = Spells-length octets i s.0 in
    absurd (omega arith)
SpellsCode-unique octets (i ∷ is) (j ∷ js) s t =
    let here = Spells-unique (take 8 octets) i j s.0 t.0 in
    let later = SpellsCode-unique (drop 8 octets) is js s.1 t.1 in
    cc

-- In octets that spell a code, the eight at each place spell an instruction.
pub SpellsCode-at : (octets : List ℕ) (code : List Instr) (place : ℕ) → SpellsCode octets code → 8 * place + 8 ≤ length octets → (i : Instr) × Spells (eight_at octets place) i
SpellsCode-at octets [] place s h =
    let few : length octets ≡ 0 = ap length s in
    absurd (omega arith)
SpellsCode-at octets (i ∷ code) zero s h = (i, s.0)
SpellsCode-at octets (i ∷ code) (suc place) s h =
    let left = length-drop 8 octets in
    let found = SpellsCode-at (drop 8 octets) code place s.1 (omega arith) in
    let moved : 8 + 8 * place ≡ 8 * suc place = omega arith in
    (found.0, subst (λ (n : ℕ). Spells (take 8 (drop n octets)) found.0) moved (rw drop-drop at found.1))
