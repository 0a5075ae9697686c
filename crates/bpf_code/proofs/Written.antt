-- The octets that `encode` writes spell the code.
use Rattle.std.proofs.Common.{◌≡◌, ℕ, zero, suc, ◌<◌, ◌^◌, List, [], ◌∷◌, Option, Some, None, unwrap_or, refl, lit<}
use Rattle.std.specs.Option.{IfSome, IfNone}
use Rattle.byteorder.specs.Endian.{big_bytes, big_number}
use Rattle.byteorder.specs.Numbers.{big_number-reads_back}
use Rattle.bpf_code.specs.Encoding.{code_octets, octets_of_instr}
use Rattle.bpf_code.specs.Fields.{instr_code, jt_in, jf_in, k_in}
use Rattle.bpf_code.specs.Flow.{IsInstrAt}
use Rattle.bpf_code.specs.OctetSpelling.{Spells, SpellsPlainly, UnusedAreZero}
use Rattle.bpf_code.specs.Table.{code_of, jt_of, jf_of, k_of}
use Rattle.bpf_code.specs.Widths.{FitsFields}
use Rattle.bpf_code.specs.declared.instr.By.TheVariants.{Imm, X}
use Rattle.bpf_code.specs.declared.instr.Instr.{Instr}
use Rattle.bpf_code.specs.declared.instr.Instr.TheVariants.{LoadAbs, LoadInd, LoadImm, LoadMem, LoadLen, LdxImm, LdxMem, LdxLen, LdxMsh, Store, StoreX, Alu, Neg, Jump, Branch, RetK, RetA, Tax, Txa}
use Rattle.bpf_code.specs.declared.instr.Op.TheVariants.{Add, Sub, Mul, Div, Or, And, Lsh, Rsh, Mod, Xor}
use Rattle.bpf_code.specs.declared.instr.Size.TheVariants.{Word, Half, Octet}
use Rattle.bpf_code.specs.declared.instr.Test.TheVariants.{Eq, Gt, Ge, Set}

-- The number of an instruction fits into two octets.
code_small : (i : Instr) → code_of i < 256 ^ 2
code_small (LoadAbs Word k) = lit< tt
code_small (LoadAbs Half k) = lit< tt
code_small (LoadAbs Octet k) = lit< tt
code_small (LoadInd Word k) = lit< tt
code_small (LoadInd Half k) = lit< tt
code_small (LoadInd Octet k) = lit< tt
code_small (LoadImm k) = lit< tt
code_small (LoadMem k) = lit< tt
code_small LoadLen = lit< tt
code_small (LdxImm k) = lit< tt
code_small (LdxMem k) = lit< tt
code_small LdxLen = lit< tt
code_small (LdxMsh k) = lit< tt
code_small (Store k) = lit< tt
code_small (StoreX k) = lit< tt
code_small (Alu Add (Imm k)) = lit< tt
code_small (Alu Sub (Imm k)) = lit< tt
code_small (Alu Mul (Imm k)) = lit< tt
code_small (Alu Div (Imm k)) = lit< tt
code_small (Alu Or (Imm k)) = lit< tt
code_small (Alu And (Imm k)) = lit< tt
code_small (Alu Lsh (Imm k)) = lit< tt
code_small (Alu Rsh (Imm k)) = lit< tt
code_small (Alu Mod (Imm k)) = lit< tt
code_small (Alu Xor (Imm k)) = lit< tt
code_small (Alu Add X) = lit< tt
code_small (Alu Sub X) = lit< tt
code_small (Alu Mul X) = lit< tt
code_small (Alu Div X) = lit< tt
code_small (Alu Or X) = lit< tt
code_small (Alu And X) = lit< tt
code_small (Alu Lsh X) = lit< tt
code_small (Alu Rsh X) = lit< tt
code_small (Alu Mod X) = lit< tt
code_small (Alu Xor X) = lit< tt
code_small Neg = lit< tt
code_small (Jump k) = lit< tt
code_small (Branch Eq (Imm k) jt jf) = lit< tt
code_small (Branch Gt (Imm k) jt jf) = lit< tt
code_small (Branch Ge (Imm k) jt jf) = lit< tt
code_small (Branch Set (Imm k) jt jf) = lit< tt
code_small (Branch Eq X jt jf) = lit< tt
code_small (Branch Gt X jt jf) = lit< tt
code_small (Branch Ge X jt jf) = lit< tt
code_small (Branch Set X jt jf) = lit< tt
code_small (RetK k) = lit< tt
code_small RetA = lit< tt
code_small Tax = lit< tt
code_small Txa = lit< tt

-- A used field is written with its value.
used : (field : Option ℕ) → IfSome field (λ n. unwrap_or field 0 ≡ n)
used None = tt
used (Some n) = refl

unused : (field : Option ℕ) → IfNone field (unwrap_or field 0 ≡ 0)
unused None = refl
unused (Some n) = tt

-- An operand that fits is read back.
operand_used : (field : Option ℕ) → IfSome field (λ n. n < 2 ^ 32) → IfSome field (λ n. big_number 4 (big_bytes 4 (unwrap_or field 0)) ≡ n)
operand_used None small = tt
operand_used (Some n) small = big_number-reads_back 4 n [] small

operand_unused : (field : Option ℕ) → IfNone field (big_number 4 (big_bytes 4 (unwrap_or field 0)) ≡ 0)
operand_unused None = refl
operand_unused (Some n) = tt

-- The octets of an instruction spell it.
octets_spell : (i : Instr) → FitsFields i → Spells (octets_of_instr i) i
octets_spell i fits = record {
  eight = refl;
  code = big_number-reads_back 2 (code_of i) [] (code_small i);
  jt = used (jt_of i);
  jf = used (jf_of i);
  k = operand_used (k_of i) fits.k;
}

octets_plain : (i : Instr) → UnusedAreZero (octets_of_instr i) i
octets_plain i = record { jt = unused (jt_of i); jf = unused (jf_of i); k = operand_unused (k_of i) }

-- The octets of a code spell it.
pub code_octets-plainly : (code : List Instr) → ((place : ℕ) (i : Instr) → IsInstrAt code place i → FitsFields i) → SpellsPlainly (code_octets code) code
code_octets-plainly [] fits = refl
code_octets-plainly (i ∷ code) fits = (octets_spell i (fits zero i refl), octets_plain i, code_octets-plainly code (λ place. fits (suc place)))
