-- The spellings of statements.
use Rattle.std.specs.Prelude.{ℕ, List, [], ◌∷◌, ◌++◌, Option, Some, None, codes, decimal}
use Rattle.std.specs.List.{flat_map}
use Rattle.bpf_asm.specs.Tokens.{Token, name, number, tokens_of}
use Rattle.bpf_code.specs.declared.instr.By.{By}
use Rattle.bpf_code.specs.declared.instr.By.TheVariants.{Imm, X}
use Rattle.bpf_code.specs.declared.instr.Instr.{Instr}
use Rattle.bpf_code.specs.declared.instr.Instr.TheVariants.{LoadAbs, LoadInd, LoadImm, LoadMem, LoadLen, LdxImm, LdxMem, LdxLen, LdxMsh, Store, StoreX, Alu, Neg, Jump, Branch, RetK, RetA, Tax, Txa}
use Rattle.bpf_code.specs.declared.instr.Op.{Op}
use Rattle.bpf_code.specs.declared.instr.Op.TheVariants.{Add, Sub, Mul, Div, Or, And, Lsh, Rsh, Mod, Xor}
use Rattle.bpf_code.specs.declared.instr.Size.{Size}
use Rattle.bpf_code.specs.declared.instr.Size.TheVariants.{Word, Half, Octet}
use Rattle.bpf_code.specs.declared.instr.Test.{Test}
use Rattle.bpf_code.specs.declared.instr.Test.TheVariants.{Eq, Gt, Ge, Set}

-- The statement of an instruction line: an instruction without labels, a jump to a label, or a branch with the label of
-- each side. A side without a label continues at the next instruction.
pub data Statement : Type 0 where
  plain : Instr → Statement
  jump : List ℕ → Statement
  branch : Test → By → Option (List ℕ) → Option (List ℕ) → Statement

-- A part of a spelling: literal text, a number in any spelling, or a label.
pub data Part : Type 0 where
  text : List ℕ → Part
  num : ℕ → Part
  label : List ℕ → Part

-- The mnemonics of packet loads into A.
abbrev pub load_name : Size → List ℕ
load_name Word = codes "ld"
load_name Half = codes "ldh"
load_name Octet = codes "ldb"

-- The mnemonics of arithmetic.
abbrev pub op_name : Op → List ℕ
op_name Add = codes "add"
op_name Sub = codes "sub"
op_name Mul = codes "mul"
op_name Div = codes "div"
op_name Or = codes "or"
op_name And = codes "and"
op_name Lsh = codes "lsh"
op_name Rsh = codes "rsh"
op_name Mod = codes "mod"
op_name Xor = codes "xor"

-- The mnemonics of branches.
abbrev pub test_name : Test → List ℕ
test_name Eq = codes "jeq"
test_name Gt = codes "jgt"
test_name Ge = codes "jge"
test_name Set = codes "jset"

-- The mnemonics of branches that jump if the test is false.
abbrev pub inverse_names : Test → List (List ℕ)
inverse_names Eq = codes "jne" ∷ codes "jneq" ∷ []
inverse_names Gt = codes "jle" ∷ []
inverse_names Ge = codes "jlt" ∷ []
inverse_names Set = []

-- The spelling of an operand of arithmetic or of a branch.
abbrev pub operand : By → List Part
operand (Imm k) = text (codes "#") ∷ num k ∷ []
operand X = text (codes "x") ∷ []

-- The spellings with one of these mnemonics, this operand and this label.
abbrev pub one_sided : List (List ℕ) → By → List ℕ → List (List Part)
one_sided [] by target = []
one_sided (mnemonic ∷ more) by target =
    (text mnemonic ∷ text (codes " ") ∷ operand by ++ text (codes ", ") ∷ label target ∷ []) ∷ one_sided more by target

-- The spellings of a statement, one line for each row of the instruction table. The first spelling is the one in
-- listings. A jump or a branch is spelled with labels: with offsets, or a branch without any label, it has no spelling.
unfoldable pub spellings : Statement → List (List Part)
spellings (plain (LoadAbs size k)) = (text (load_name size) ∷ text (codes " [") ∷ num k ∷ text (codes "]") ∷ []) ∷ []
spellings (plain (LoadInd size k)) = (text (load_name size) ∷ text (codes " [x+") ∷ num k ∷ text (codes "]") ∷ []) ∷ []
spellings (plain (LoadImm k)) = (text (codes "ld #") ∷ num k ∷ []) ∷ []
spellings (plain (LoadMem k)) = (text (codes "ld M[") ∷ num k ∷ text (codes "]") ∷ []) ∷ []
spellings (plain LoadLen) = (text (codes "ld #len") ∷ []) ∷ []
spellings (plain (LdxImm k)) = (text (codes "ldx #") ∷ num k ∷ []) ∷ []
spellings (plain (LdxMem k)) = (text (codes "ldx M[") ∷ num k ∷ text (codes "]") ∷ []) ∷ []
spellings (plain LdxLen) = (text (codes "ldx #len") ∷ []) ∷ []
spellings (plain (LdxMsh k)) =
    (text (codes "ldxb 4*([") ∷ num k ∷ text (codes "]&0xf)") ∷ [])
    ∷ (text (codes "ldx 4*([") ∷ num k ∷ text (codes "]&0xf)") ∷ []) ∷ []
spellings (plain (Store k)) = (text (codes "st M[") ∷ num k ∷ text (codes "]") ∷ []) ∷ []
spellings (plain (StoreX k)) = (text (codes "stx M[") ∷ num k ∷ text (codes "]") ∷ []) ∷ []
spellings (plain (Alu op by)) = (text (op_name op) ∷ text (codes " ") ∷ operand by) ∷ []
spellings (plain Neg) = (text (codes "neg") ∷ []) ∷ []
spellings (plain (Jump k)) = []
spellings (plain (Branch test by jt jf)) = []
spellings (plain (RetK k)) = (text (codes "ret #") ∷ num k ∷ []) ∷ []
spellings (plain RetA) = (text (codes "ret a") ∷ []) ∷ []
spellings (plain Tax) = (text (codes "tax") ∷ []) ∷ []
spellings (plain Txa) = (text (codes "txa") ∷ []) ∷ []
spellings (jump target) =
    (text (codes "ja ") ∷ label target ∷ [])
    ∷ (text (codes "jmp ") ∷ label target ∷ []) ∷ []
spellings (branch test by (Some met) (Some unmet)) =
    (text (test_name test) ∷ text (codes " ") ∷ operand by ++ text (codes ", ") ∷ label met ∷ text (codes ", ") ∷ label unmet ∷ []) ∷ []
spellings (branch test by (Some met) None) = one_sided (test_name test ∷ []) by met
spellings (branch test by None (Some unmet)) = one_sided (inverse_names test) by unmet
spellings (branch test by None None) = []

-- The tokens of a part.
abbrev pub part_tokens : Part → List Token
part_tokens (text octets) = tokens_of octets
part_tokens (num value) = number value ∷ []
part_tokens (label octets) = name octets ∷ []

-- The octets of a part. Numbers are decimal.
abbrev pub part_octets : Part → List ℕ
part_octets (text octets) = octets
part_octets (num value) = decimal value
part_octets (label octets) = octets

-- The tokens of a spelling.
abbrev pub spelling_tokens : List Part → List Token
spelling_tokens spelling = flat_map part_tokens spelling

-- The octets of a spelling.
abbrev pub spelling_octets : List Part → List ℕ
spelling_octets spelling = flat_map part_octets spelling
