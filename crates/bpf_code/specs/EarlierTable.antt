-- The instruction table before `mod` and `xor` were added, and its encoding. The law
-- `earlier_codes_are_spelled_as_before` needs it: octets of that time still encode the same code.
use Rattle.std.specs.Prelude.{◌≡◌, ℕ, List, [], ◌∷◌, length, take, drop, Option, Some, None, IfSome}
use Rattle.bpf_code.specs.Fields.{instr_code, jt_in, jf_in, k_in}
use Rattle.bpf_code.specs.Table.{jt_of, jf_of, k_of}
use Rattle.bpf_code.specs.declared.instr.By.TheVariants.{Imm, X}
use Rattle.bpf_code.specs.declared.instr.Instr.{Instr}
use Rattle.bpf_code.specs.declared.instr.Instr.TheVariants.{LoadAbs, LoadInd, LoadImm, LoadMem, LoadLen, LdxImm, LdxMem, LdxLen, LdxMsh, Store, StoreX, Alu, Neg, Jump, Branch, RetK, RetA, Tax, Txa}
use Rattle.bpf_code.specs.declared.instr.Op.TheVariants.{Add, Sub, Mul, Div, Or, And, Lsh, Rsh, Mod, Xor}
use Rattle.bpf_code.specs.declared.instr.Size.TheVariants.{Word, Half, Octet}
use Rattle.bpf_code.specs.declared.instr.Test.TheVariants.{Eq, Gt, Ge, Set}

-- The code of each instruction, if the earlier table has one.
abbrev pub earlier_code_of : Instr → Option ℕ
earlier_code_of (LoadAbs Word k) = Some 0x0020
earlier_code_of (LoadAbs Half k) = Some 0x0028
earlier_code_of (LoadAbs Octet k) = Some 0x0030
earlier_code_of (LoadInd Word k) = Some 0x0040
earlier_code_of (LoadInd Half k) = Some 0x0048
earlier_code_of (LoadInd Octet k) = Some 0x0050
earlier_code_of (LoadImm k) = Some 0x0000
earlier_code_of (LoadMem k) = Some 0x0060
earlier_code_of LoadLen = Some 0x0080
earlier_code_of (LdxImm k) = Some 0x0001
earlier_code_of (LdxMem k) = Some 0x0061
earlier_code_of LdxLen = Some 0x0081
earlier_code_of (LdxMsh k) = Some 0x00b1
earlier_code_of (Store k) = Some 0x0002
earlier_code_of (StoreX k) = Some 0x0003
earlier_code_of (Alu Add (Imm k)) = Some 0x0004
earlier_code_of (Alu Sub (Imm k)) = Some 0x0014
earlier_code_of (Alu Mul (Imm k)) = Some 0x0024
earlier_code_of (Alu Div (Imm k)) = Some 0x0034
earlier_code_of (Alu Or (Imm k)) = Some 0x0044
earlier_code_of (Alu And (Imm k)) = Some 0x0054
earlier_code_of (Alu Lsh (Imm k)) = Some 0x0064
earlier_code_of (Alu Rsh (Imm k)) = Some 0x0074
earlier_code_of (Alu Add X) = Some 0x000c
earlier_code_of (Alu Sub X) = Some 0x001c
earlier_code_of (Alu Mul X) = Some 0x002c
earlier_code_of (Alu Div X) = Some 0x003c
earlier_code_of (Alu Or X) = Some 0x004c
earlier_code_of (Alu And X) = Some 0x005c
earlier_code_of (Alu Lsh X) = Some 0x006c
earlier_code_of (Alu Rsh X) = Some 0x007c
earlier_code_of (Alu Mod by) = None
earlier_code_of (Alu Xor by) = None
earlier_code_of Neg = Some 0x0084
earlier_code_of (Jump k) = Some 0x0005
earlier_code_of (Branch Eq (Imm k) jt jf) = Some 0x0015
earlier_code_of (Branch Gt (Imm k) jt jf) = Some 0x0025
earlier_code_of (Branch Ge (Imm k) jt jf) = Some 0x0035
earlier_code_of (Branch Set (Imm k) jt jf) = Some 0x0045
earlier_code_of (Branch Eq X jt jf) = Some 0x001d
earlier_code_of (Branch Gt X jt jf) = Some 0x002d
earlier_code_of (Branch Ge X jt jf) = Some 0x003d
earlier_code_of (Branch Set X jt jf) = Some 0x004d
earlier_code_of (RetK k) = Some 0x0006
earlier_code_of RetA = Some 0x0016
earlier_code_of Tax = Some 0x0007
earlier_code_of Txa = Some 0x0087

-- Eight octets spelled an instruction if they hold its earlier code and the fields that it uses.
pub record SpelledEarlier (octets : List ℕ) (i : Instr) : Type 0 where
  pub eight : length octets ≡ 8
  pub code : earlier_code_of i ≡ Some (instr_code octets)
  pub jt : IfSome (jt_of i) (λ offset. jt_in octets ≡ offset)
  pub jf : IfSome (jf_of i) (λ offset. jf_in octets ≡ offset)
  pub k : IfSome (k_of i) (λ operand. k_in octets ≡ operand)

-- Octets spelled a code if its instructions, in order, were spelled by eight octets each.
abbrev pub SpelledCodeEarlier : List ℕ → List Instr → Type 0
SpelledCodeEarlier octets [] = octets ≡ []
SpelledCodeEarlier octets (i ∷ code) = SpelledEarlier (take 8 octets) i × SpelledCodeEarlier (drop 8 octets) code
