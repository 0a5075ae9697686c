-- The inverse of the instruction table. It shows that no two rows share a number.
use Rattle.std.proofs.Common.{◌≡◌, ◌≢◌, ◌↔◌, ℕ, ◌==◌, if◌then◌else◌, refl, sym, ap, subst, ◌∙◌, List, Option, Some, None, Ok}
use Rattle.std.specs.Option.{IfNone, IfSome, ok_or}
use Rattle.bpf_code.specs.Fields.{instr_code, jt_in, jf_in, k_in}
use Rattle.bpf_code.specs.OctetSpelling.{Spells}
use Rattle.bpf_code.specs.Table.{code_of, jt_of, jf_of, k_of}
use Rattle.bpf_code.specs.declared.instr.By.TheVariants.{Imm, X}
use Rattle.bpf_code.specs.declared.instr.Instr.{Instr}
use Rattle.bpf_code.specs.declared.instr.Instr.TheVariants.{LoadAbs, LoadInd, LoadImm, LoadMem, LoadLen, LdxImm, LdxMem, LdxLen, LdxMsh, Store, StoreX, Alu, Neg, Jump, Branch, RetK, RetA, Tax, Txa}
use Rattle.bpf_code.specs.declared.instr.Op.TheVariants.{Add, Sub, Mul, Div, Or, And, Lsh, Rsh, Mod, Xor}
use Rattle.bpf_code.specs.declared.instr.Size.TheVariants.{Word, Half, Octet}
use Rattle.bpf_code.specs.declared.instr.Test.TheVariants.{Eq, Gt, Ge, Set}

-- The instruction with these fields, if the table has one.
unfoldable pub row_at : ℕ → ℕ → ℕ → ℕ → Instr
row_at code jt jf k =
    if code == 0x0020 then LoadAbs Word k else (
    if code == 0x0028 then LoadAbs Half k else (
    if code == 0x0030 then LoadAbs Octet k else (
    if code == 0x0040 then LoadInd Word k else (
    if code == 0x0048 then LoadInd Half k else (
    if code == 0x0050 then LoadInd Octet k else (
    if code == 0x0000 then LoadImm k else (
    if code == 0x0060 then LoadMem k else (
    if code == 0x0080 then LoadLen else (
    if code == 0x0001 then LdxImm k else (
    if code == 0x0061 then LdxMem k else (
    if code == 0x0081 then LdxLen else (
    if code == 0x00b1 then LdxMsh k else (
    if code == 0x0002 then Store k else (
    if code == 0x0003 then StoreX k else (
    if code == 0x0004 then Alu Add (Imm k) else (
    if code == 0x0014 then Alu Sub (Imm k) else (
    if code == 0x0024 then Alu Mul (Imm k) else (
    if code == 0x0034 then Alu Div (Imm k) else (
    if code == 0x0044 then Alu Or (Imm k) else (
    if code == 0x0054 then Alu And (Imm k) else (
    if code == 0x0064 then Alu Lsh (Imm k) else (
    if code == 0x0074 then Alu Rsh (Imm k) else (
    if code == 0x0094 then Alu Mod (Imm k) else (
    if code == 0x00a4 then Alu Xor (Imm k) else (
    if code == 0x000c then Alu Add X else (
    if code == 0x001c then Alu Sub X else (
    if code == 0x002c then Alu Mul X else (
    if code == 0x003c then Alu Div X else (
    if code == 0x004c then Alu Or X else (
    if code == 0x005c then Alu And X else (
    if code == 0x006c then Alu Lsh X else (
    if code == 0x007c then Alu Rsh X else (
    if code == 0x009c then Alu Mod X else (
    if code == 0x00ac then Alu Xor X else (
    if code == 0x0084 then Neg else (
    if code == 0x0005 then Jump k else (
    if code == 0x0015 then Branch Eq (Imm k) jt jf else (
    if code == 0x0025 then Branch Gt (Imm k) jt jf else (
    if code == 0x0035 then Branch Ge (Imm k) jt jf else (
    if code == 0x0045 then Branch Set (Imm k) jt jf else (
    if code == 0x001d then Branch Eq X jt jf else (
    if code == 0x002d then Branch Gt X jt jf else (
    if code == 0x003d then Branch Ge X jt jf else (
    if code == 0x004d then Branch Set X jt jf else (
    if code == 0x0006 then RetK k else (
    if code == 0x0016 then RetA else (
    if code == 0x0007 then Tax else (
    Txa))))))))))))))))))))))))))))))))))))))))))))))))

-- The fields of an instruction give that instruction.
pub row_at-fields : (code jt jf k : ℕ) (i : Instr) → code ≡ code_of i → IfSome (jt_of i) (λ offset. jt ≡ offset) → IfSome (jf_of i) (λ offset. jf ≡ offset) → IfSome (k_of i) (λ operand. k ≡ operand) → row_at code jt jf k ≡ i
unfolding row_at
row_at-fields code jt jf k (LoadAbs Word n) c t f o = rw (c, o) refl
row_at-fields code jt jf k (LoadAbs Half n) c t f o = rw (c, o) refl
row_at-fields code jt jf k (LoadAbs Octet n) c t f o = rw (c, o) refl
row_at-fields code jt jf k (LoadInd Word n) c t f o = rw (c, o) refl
row_at-fields code jt jf k (LoadInd Half n) c t f o = rw (c, o) refl
row_at-fields code jt jf k (LoadInd Octet n) c t f o = rw (c, o) refl
row_at-fields code jt jf k (LoadImm n) c t f o = rw (c, o) refl
row_at-fields code jt jf k (LoadMem n) c t f o = rw (c, o) refl
row_at-fields code jt jf k LoadLen c t f o = rw c refl
row_at-fields code jt jf k (LdxImm n) c t f o = rw (c, o) refl
row_at-fields code jt jf k (LdxMem n) c t f o = rw (c, o) refl
row_at-fields code jt jf k LdxLen c t f o = rw c refl
row_at-fields code jt jf k (LdxMsh n) c t f o = rw (c, o) refl
row_at-fields code jt jf k (Store n) c t f o = rw (c, o) refl
row_at-fields code jt jf k (StoreX n) c t f o = rw (c, o) refl
row_at-fields code jt jf k (Alu Add (Imm n)) c t f o = rw (c, o) refl
row_at-fields code jt jf k (Alu Sub (Imm n)) c t f o = rw (c, o) refl
row_at-fields code jt jf k (Alu Mul (Imm n)) c t f o = rw (c, o) refl
row_at-fields code jt jf k (Alu Div (Imm n)) c t f o = rw (c, o) refl
row_at-fields code jt jf k (Alu Or (Imm n)) c t f o = rw (c, o) refl
row_at-fields code jt jf k (Alu And (Imm n)) c t f o = rw (c, o) refl
row_at-fields code jt jf k (Alu Lsh (Imm n)) c t f o = rw (c, o) refl
row_at-fields code jt jf k (Alu Rsh (Imm n)) c t f o = rw (c, o) refl
row_at-fields code jt jf k (Alu Mod (Imm n)) c t f o = rw (c, o) refl
row_at-fields code jt jf k (Alu Xor (Imm n)) c t f o = rw (c, o) refl
row_at-fields code jt jf k (Alu Add X) c t f o = rw c refl
row_at-fields code jt jf k (Alu Sub X) c t f o = rw c refl
row_at-fields code jt jf k (Alu Mul X) c t f o = rw c refl
row_at-fields code jt jf k (Alu Div X) c t f o = rw c refl
row_at-fields code jt jf k (Alu Or X) c t f o = rw c refl
row_at-fields code jt jf k (Alu And X) c t f o = rw c refl
row_at-fields code jt jf k (Alu Lsh X) c t f o = rw c refl
row_at-fields code jt jf k (Alu Rsh X) c t f o = rw c refl
row_at-fields code jt jf k (Alu Mod X) c t f o = rw c refl
row_at-fields code jt jf k (Alu Xor X) c t f o = rw c refl
row_at-fields code jt jf k Neg c t f o = rw c refl
row_at-fields code jt jf k (Jump n) c t f o = rw (c, o) refl
row_at-fields code jt jf k (Branch Eq (Imm n) p q) c t f o = rw (c, t, f, o) refl
row_at-fields code jt jf k (Branch Gt (Imm n) p q) c t f o = rw (c, t, f, o) refl
row_at-fields code jt jf k (Branch Ge (Imm n) p q) c t f o = rw (c, t, f, o) refl
row_at-fields code jt jf k (Branch Set (Imm n) p q) c t f o = rw (c, t, f, o) refl
row_at-fields code jt jf k (Branch Eq X p q) c t f o = rw (c, t, f) refl
row_at-fields code jt jf k (Branch Gt X p q) c t f o = rw (c, t, f) refl
row_at-fields code jt jf k (Branch Ge X p q) c t f o = rw (c, t, f) refl
row_at-fields code jt jf k (Branch Set X p q) c t f o = rw (c, t, f) refl
row_at-fields code jt jf k (RetK n) c t f o = rw (c, o) refl
row_at-fields code jt jf k RetA c t f o = rw c refl
row_at-fields code jt jf k Tax c t f o = rw c refl
row_at-fields code jt jf k Txa c t f o = rw c refl

-- Eight octets spell at most one instruction.
pub Spells-unique : (octets : List ℕ) (i j : Instr) → Spells octets i → Spells octets j → i ≡ j
Spells-unique octets i j s r =
    sym (row_at-fields (instr_code octets) (jt_in octets) (jf_in octets) (k_in octets) i s.code s.jt s.jf s.k)
    ∙ row_at-fields (instr_code octets) (jt_in octets) (jf_in octets) (k_in octets) j r.code r.jt r.jf r.k

-- The octets spell the row that was found and no other, or nothing if none was found.
pub row_spells : (octets : List ℕ) (found : Option Instr) (code : ℕ) → IfSome found (λ i. Spells octets i) → IfNone found ((i : Instr) → code_of i ≢ instr_code octets) → (i : Instr) → (Spells octets i ↔ (ok_or found code ≡ Ok i))
row_spells octets (Some j) code spelled no_row i = (
  λ s. ap Ok (Spells-unique octets j i spelled s),
  λ e. let same : j ≡ i = cc in subst (λ (k : Instr). Spells octets k) same spelled,
)
row_spells octets None code spelled no_row i = (λ s. absurd (no_row i (sym s.code)), λ e. cc)
