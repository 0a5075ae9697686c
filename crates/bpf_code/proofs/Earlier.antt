-- What the earlier table decodes, the present one decodes in the same way.
use Rattle.std.proofs.Common.{◌≡◌, ℕ, List, [], ◌∷◌, drop, take, Some, None, sym}
use Rattle.std.proofs.lemmas.Option.{same_Some}
use Rattle.bpf_code.proofs.Spelled.{SpellsCode-unique}
use Rattle.bpf_code.specs.EarlierTable.{earlier_code_of, SpelledEarlier, SpelledCodeEarlier}
use Rattle.bpf_code.specs.Fields.{instr_code}
use Rattle.bpf_code.specs.OctetSpelling.{Spells, SpellsCode}
use Rattle.bpf_code.specs.Table.{code_of}
use Rattle.bpf_code.specs.declared.instr.By.TheVariants.{Imm, X}
use Rattle.bpf_code.specs.declared.instr.Instr.{Instr}
use Rattle.bpf_code.specs.declared.instr.Instr.TheVariants.{LoadAbs, LoadInd, LoadImm, LoadMem, LoadLen, LdxImm, LdxMem, LdxLen, LdxMsh, Store, StoreX, Alu, Neg, Jump, Branch, RetK, RetA, Tax, Txa}
use Rattle.bpf_code.specs.declared.instr.Op.TheVariants.{Add, Sub, Mul, Div, Or, And, Lsh, Rsh, Mod, Xor}
use Rattle.bpf_code.specs.declared.instr.Size.TheVariants.{Word, Half, Octet}
use Rattle.bpf_code.specs.declared.instr.Test.TheVariants.{Eq, Gt, Ge, Set}

-- An instruction of the earlier table has kept its number.
same_code : (i : Instr) (code : ℕ) → earlier_code_of i ≡ Some code → code ≡ code_of i
same_code (LoadAbs Word k) code e = sym (same_Some 0x0020 code e)
same_code (LoadAbs Half k) code e = sym (same_Some 0x0028 code e)
same_code (LoadAbs Octet k) code e = sym (same_Some 0x0030 code e)
same_code (LoadInd Word k) code e = sym (same_Some 0x0040 code e)
same_code (LoadInd Half k) code e = sym (same_Some 0x0048 code e)
same_code (LoadInd Octet k) code e = sym (same_Some 0x0050 code e)
same_code (LoadImm k) code e = sym (same_Some 0x0000 code e)
same_code (LoadMem k) code e = sym (same_Some 0x0060 code e)
same_code LoadLen code e = sym (same_Some 0x0080 code e)
same_code (LdxImm k) code e = sym (same_Some 0x0001 code e)
same_code (LdxMem k) code e = sym (same_Some 0x0061 code e)
same_code LdxLen code e = sym (same_Some 0x0081 code e)
same_code (LdxMsh k) code e = sym (same_Some 0x00b1 code e)
same_code (Store k) code e = sym (same_Some 0x0002 code e)
same_code (StoreX k) code e = sym (same_Some 0x0003 code e)
same_code (Alu Add (Imm k)) code e = sym (same_Some 0x0004 code e)
same_code (Alu Sub (Imm k)) code e = sym (same_Some 0x0014 code e)
same_code (Alu Mul (Imm k)) code e = sym (same_Some 0x0024 code e)
same_code (Alu Div (Imm k)) code e = sym (same_Some 0x0034 code e)
same_code (Alu Or (Imm k)) code e = sym (same_Some 0x0044 code e)
same_code (Alu And (Imm k)) code e = sym (same_Some 0x0054 code e)
same_code (Alu Lsh (Imm k)) code e = sym (same_Some 0x0064 code e)
same_code (Alu Rsh (Imm k)) code e = sym (same_Some 0x0074 code e)
same_code (Alu Add X) code e = sym (same_Some 0x000c code e)
same_code (Alu Sub X) code e = sym (same_Some 0x001c code e)
same_code (Alu Mul X) code e = sym (same_Some 0x002c code e)
same_code (Alu Div X) code e = sym (same_Some 0x003c code e)
same_code (Alu Or X) code e = sym (same_Some 0x004c code e)
same_code (Alu And X) code e = sym (same_Some 0x005c code e)
same_code (Alu Lsh X) code e = sym (same_Some 0x006c code e)
same_code (Alu Rsh X) code e = sym (same_Some 0x007c code e)
same_code (Alu Mod by) code e = absurd cc
same_code (Alu Xor by) code e = absurd cc
same_code Neg code e = sym (same_Some 0x0084 code e)
same_code (Jump k) code e = sym (same_Some 0x0005 code e)
same_code (Branch Eq (Imm k) jt jf) code e = sym (same_Some 0x0015 code e)
same_code (Branch Gt (Imm k) jt jf) code e = sym (same_Some 0x0025 code e)
same_code (Branch Ge (Imm k) jt jf) code e = sym (same_Some 0x0035 code e)
same_code (Branch Set (Imm k) jt jf) code e = sym (same_Some 0x0045 code e)
same_code (Branch Eq X jt jf) code e = sym (same_Some 0x001d code e)
same_code (Branch Gt X jt jf) code e = sym (same_Some 0x002d code e)
same_code (Branch Ge X jt jf) code e = sym (same_Some 0x003d code e)
same_code (Branch Set X jt jf) code e = sym (same_Some 0x004d code e)
same_code (RetK k) code e = sym (same_Some 0x0006 code e)
same_code RetA code e = sym (same_Some 0x0016 code e)
same_code Tax code e = sym (same_Some 0x0007 code e)
same_code Txa code e = sym (same_Some 0x0087 code e)

pub earlier-spelled : (octets : List ℕ) (code : List Instr) → SpelledCodeEarlier octets code → SpellsCode octets code
earlier-spelled octets [] s = s
earlier-spelled octets (i ∷ code) s =
    let first = s.0 in (
      record { eight = first.eight; code = same_code i (instr_code (take 8 octets)) first.code; jt = first.jt; jf = first.jf; k = first.k },
      earlier-spelled (drop 8 octets) code s.1,
    )

pub earlier-no_other : (octets : List ℕ) (code other : List Instr) → SpelledCodeEarlier octets code → SpellsCode octets other → other ≡ code
earlier-no_other octets code other s t = SpellsCode-unique octets other code t (earlier-spelled octets code s)
