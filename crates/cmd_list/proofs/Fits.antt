-- The instructions that octets spell fit their fields.
use Rattle.std.proofs.Common.{◌≡◌, ℕ, zero, suc, ◌+◌, ◌<◌, ◌^◌, List, [], ◌∷◌, Option, Some, None, take, drop, sym, subst, arith}
use Rattle.std.proofs.lemmas.List.{get_or-drop}
use Rattle.std.proofs.lemmas.Option.{same_Some}
use Rattle.std.specs.Option.{IfSome}
use Rattle.byteorder.specs.Numbers.{big_from-lt}
use Rattle.bpf_code.specs.Fields.{jt_in, jf_in, k_in}
use Rattle.bpf_code.specs.Flow.{IsInstrAt}
use Rattle.bpf_code.specs.OctetSpelling.{Spells, SpellsCode}
use Rattle.bpf_code.specs.Table.{jt_of, jf_of, k_of}
use Rattle.bpf_code.specs.Widths.{FitsFields}
use Rattle.bpf_code.specs.declared.instr.Instr.{Instr}
use Rattle.hex.specs.Hex.{IsBytes}

bytes_taken : (n : ℕ) (xs : List ℕ) → IsBytes xs → IsBytes (take n xs)
bytes_taken zero xs h i = omega arith
bytes_taken (suc n) [] h i = omega arith
bytes_taken (suc n) (x ∷ xs) h zero = h zero
bytes_taken (suc n) (x ∷ xs) h (suc i) = bytes_taken n xs (λ k. h (suc k)) i

bytes_left : (n : ℕ) (xs : List ℕ) → IsBytes xs → IsBytes (drop n xs)
bytes_left n xs h i = subst (λ (octet : ℕ). octet < 256) (sym (get_or-drop n xs i 0)) (h (n + i))

if_below : (o : Option ℕ) (n most : ℕ) → IfSome o (λ x. n ≡ x) → n < most → IfSome o (λ x. x < most)
if_below None n most same below = tt
if_below (Some x) n most same below = subst (λ (m : ℕ). m < most) same below

-- One instruction.
fits_one : (octets : List ℕ) (i : Instr) → IsBytes octets → Spells octets i → FitsFields i
fits_one octets i h spells =
    let wide : k_in octets < 2 ^ 32 = big_from-lt 0 4 (drop 4 octets) (bytes_left 4 octets h) in
    record {
      k = if_below (k_of i) (k_in octets) (2 ^ 32) spells.k wide;
      jt = if_below (jt_of i) (jt_in octets) (2 ^ 8) spells.jt (h 2);
      jf = if_below (jf_of i) (jf_in octets) (2 ^ 8) spells.jf (h 3);
    }

-- Each instruction of a code.
pub fits_all : (octets : List ℕ) (code : List Instr) → IsBytes octets → SpellsCode octets code → (place : ℕ) (i : Instr) → IsInstrAt code place i → FitsFields i
fits_all octets [] h spells place i instr_there = cc
fits_all octets (j ∷ code) h spells zero i instr_there =
    subst (λ (some : Instr). FitsFields some) (same_Some j i instr_there) (fits_one (take 8 octets) j (bytes_taken 8 octets h) spells.0)
fits_all octets (j ∷ code) h spells (suc place) i instr_there = fits_all (drop 8 octets) code (bytes_left 8 octets h) spells.1 place i instr_there
