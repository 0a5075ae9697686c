-- Octets spell a code or have an error.
use Rattle.std.proofs.Common.{◌≡◌, ◌≢◌, ℕ, zero, suc, ◌+◌, ◌*◌, ◌/◌, ◌%◌, ◌<◌, ◌⊎◌, inl, inr, ◌==◌, Bool, true, false, if◌then◌else◌, List, [], ◌∷◌, length, take, drop, refl, sym, ◌∙◌, ap, subst, arith, length-take, length-drop, drop-drop}
use Rattle.std.specs.Prelude.{IfSome}
use Rattle.std.proofs.lemmas.Bool.{cases_lt}
use Rattle.std.proofs.lemmas.Bool.Decides.{eqb_tells}
use Rattle.bpf_code.specs.Decoding.{IsDecodeFault}
use Rattle.bpf_code.specs.Fields.{instr_code, jt_in, jf_in, k_in}
use Rattle.bpf_code.specs.OctetSpelling.{Spells, SpellsCode, eight_at, IsFirstUnknown}
use Rattle.bpf_code.specs.Table.{code_of, jt_of, jf_of, k_of}
use Rattle.bpf_code.specs.declared.decoder.DecodeFault.{DecodeFault}
use Rattle.bpf_code.specs.declared.decoder.DecodeFault.TheVariants.{Ragged, UnknownCode, NoMemory}
use Rattle.bpf_code.specs.declared.instr.Instr.{Instr}
use Rattle.bpf_code.specs.declared.instr.By.TheVariants.{Imm, X}
use Rattle.bpf_code.specs.declared.instr.Instr.TheVariants.{LoadAbs, LoadInd, LoadImm, LoadMem, LoadLen, LdxImm, LdxMem, LdxLen, LdxMsh, Store, StoreX, Alu, Neg, Jump, Branch, RetK, RetA, Tax, Txa}
use Rattle.bpf_code.specs.declared.instr.Op.TheVariants.{Add, Sub, Mul, Div, Or, And, Lsh, Rsh, Mod, Xor}
use Rattle.bpf_code.specs.declared.instr.Size.TheVariants.{Word, Half, Octet}
use Rattle.bpf_code.specs.declared.instr.Test.TheVariants.{Eq, Gt, Ge, Set}
use Rattle.bpf_code.proofs.Rows.{row_at, row_at-fields}

-- These are the fields that the instruction uses.
record Owns (jt jf k : ℕ) (i : Instr) : Type 0 where
  jt_own : IfSome (jt_of i) (λ offset. jt ≡ offset)
  jf_own : IfSome (jf_of i) (λ offset. jf ≡ offset)
  k_own : IfSome (k_of i) (λ operand. k ≡ operand)

module _ (jt jf k : ℕ) where
  own : (i : Instr) → IfSome (jt_of i) (λ offset. jt ≡ offset) → IfSome (jf_of i) (λ offset. jf ≡ offset) → IfSome (k_of i) (λ operand. k ≡ operand) → Owns jt jf k i
  own i t f o = record { jt_own = t; jf_own = f; k_own = o }

  -- One row of the table, before the rows below it.
  row : (b : Bool) (i j : Instr) → IfSome (jt_of i) (λ offset. jt ≡ offset) → IfSome (jf_of i) (λ offset. jf ≡ offset) → IfSome (k_of i) (λ operand. k ≡ operand) → Owns jt jf k j → Owns jt jf k (if b then i else j)
  row true i j t f o below = own i t f o
  row false i j t f o below = below

  row_at-owns : (code : ℕ) → Owns jt jf k (row_at code jt jf k)
  unfolding row_at
  row_at-owns code =
      row (code == 0x0020) (LoadAbs Word k) _ tt tt refl (
      row (code == 0x0028) (LoadAbs Half k) _ tt tt refl (
      row (code == 0x0030) (LoadAbs Octet k) _ tt tt refl (
      row (code == 0x0040) (LoadInd Word k) _ tt tt refl (
      row (code == 0x0048) (LoadInd Half k) _ tt tt refl (
      row (code == 0x0050) (LoadInd Octet k) _ tt tt refl (
      row (code == 0x0000) (LoadImm k) _ tt tt refl (
      row (code == 0x0060) (LoadMem k) _ tt tt refl (
      row (code == 0x0080) LoadLen _ tt tt tt (
      row (code == 0x0001) (LdxImm k) _ tt tt refl (
      row (code == 0x0061) (LdxMem k) _ tt tt refl (
      row (code == 0x0081) LdxLen _ tt tt tt (
      row (code == 0x00b1) (LdxMsh k) _ tt tt refl (
      row (code == 0x0002) (Store k) _ tt tt refl (
      row (code == 0x0003) (StoreX k) _ tt tt refl (
      row (code == 0x0004) (Alu Add (Imm k)) _ tt tt refl (
      row (code == 0x0014) (Alu Sub (Imm k)) _ tt tt refl (
      row (code == 0x0024) (Alu Mul (Imm k)) _ tt tt refl (
      row (code == 0x0034) (Alu Div (Imm k)) _ tt tt refl (
      row (code == 0x0044) (Alu Or (Imm k)) _ tt tt refl (
      row (code == 0x0054) (Alu And (Imm k)) _ tt tt refl (
      row (code == 0x0064) (Alu Lsh (Imm k)) _ tt tt refl (
      row (code == 0x0074) (Alu Rsh (Imm k)) _ tt tt refl (
      row (code == 0x0094) (Alu Mod (Imm k)) _ tt tt refl (
      row (code == 0x00a4) (Alu Xor (Imm k)) _ tt tt refl (
      row (code == 0x000c) (Alu Add X) _ tt tt tt (
      row (code == 0x001c) (Alu Sub X) _ tt tt tt (
      row (code == 0x002c) (Alu Mul X) _ tt tt tt (
      row (code == 0x003c) (Alu Div X) _ tt tt tt (
      row (code == 0x004c) (Alu Or X) _ tt tt tt (
      row (code == 0x005c) (Alu And X) _ tt tt tt (
      row (code == 0x006c) (Alu Lsh X) _ tt tt tt (
      row (code == 0x007c) (Alu Rsh X) _ tt tt tt (
      row (code == 0x009c) (Alu Mod X) _ tt tt tt (
      row (code == 0x00ac) (Alu Xor X) _ tt tt tt (
      row (code == 0x0084) Neg _ tt tt tt (
      row (code == 0x0005) (Jump k) _ tt tt refl (
      row (code == 0x0015) (Branch Eq (Imm k) jt jf) _ refl refl refl (
      row (code == 0x0025) (Branch Gt (Imm k) jt jf) _ refl refl refl (
      row (code == 0x0035) (Branch Ge (Imm k) jt jf) _ refl refl refl (
      row (code == 0x0045) (Branch Set (Imm k) jt jf) _ refl refl refl (
      row (code == 0x001d) (Branch Eq X jt jf) _ refl refl tt (
      row (code == 0x002d) (Branch Gt X jt jf) _ refl refl tt (
      row (code == 0x003d) (Branch Ge X jt jf) _ refl refl tt (
      row (code == 0x004d) (Branch Set X jt jf) _ refl refl tt (
      row (code == 0x0006) (RetK k) _ tt tt refl (
      row (code == 0x0016) RetA _ tt tt tt (
      row (code == 0x0007) Tax _ tt tt tt (
      own Txa tt tt tt))))))))))))))))))))))))))))))))))))))))))))))))

-- Eight octets spell an instruction or none.
spelled_or_not : (octets : List ℕ) → length octets ≡ 8 → ((i : Instr) × Spells octets i) ⊎ ((i : Instr) → Spells octets i → ⊥)
spelled_or_not octets eight =
    let code = instr_code octets in
    let jt = jt_in octets in
    let jf = jf_in octets in
    let k = k_in octets in
    let row = row_at code jt jf k in
    let own = row_at-owns jt jf k code in
    elim (eqb_tells code (code_of row)) [
      | inl same ↦ inl (row, record { eight = eight; code = same.1; jt = own.jt_own; jf = own.jf_own; k = own.k_own })
      | inr other ↦ inr (λ i spells. other.1 (spells.code ∙ ap code_of (sym (row_at-fields code jt jf k i spells.code spells.jt spells.jf spells.k))))
    ]

-- The place of an instruction after the first is dropped.
later : (octets : List ℕ) (place : ℕ) → eight_at (drop 8 octets) place ≡ eight_at octets (suc place)
later octets place =
    let moved : 8 + 8 * place ≡ 8 * suc place = omega arith in
    ap (λ ys. take 8 ys) (drop-drop (8 * place) 8 octets ∙ ap (λ n. drop n octets) moved)

cut : (count : ℕ) (octets : List ℕ) → length octets ≡ 8 * count
    → ((code : List Instr) × SpellsCode octets code) ⊎ ((at : ℕ) × (code : ℕ) × IsFirstUnknown octets at code)
cut zero [] sized = inl ([], refl)
cut zero (o ∷ os) sized = absurd (omega arith)
cut (suc count) octets sized =
    let left = length-drop 8 octets in
    let front = length-take 8 octets in
    elim (spelled_or_not (take 8 octets) (omega arith)) [
      | inr nothing ↦ inr (0, instr_code (take 8 octets), record { within = omega arith; there = refl; unknown = nothing; before = λ earlier lt. absurd (omega arith) })
      | inl here ↦ elim (cut count (drop 8 octets) (omega arith)) [
        | inl after ↦ inl (here.0 ∷ after.0, (here.1, after.1))
        | inr after ↦
            let first = after.2 in
            let h = first.within in
            let P : List ℕ → Type 0 = λ eight. (i : Instr) → Spells eight i → ⊥ in
            inr (
              suc after.0,
              after.1,
              record {
                within = omega arith;
                there = ap instr_code (sym (later octets after.0)) ∙ first.there;
                unknown = subst P (later octets after.0) first.unknown;
                before = before octets here.0 here.1 after.0 first.before;
              },
            )
      ]
    ]
  where
    before : (octets : List ℕ) (i : Instr) → Spells (take 8 octets) i → (at : ℕ)
        → ((earlier : ℕ) → earlier < at → (j : Instr) × Spells (eight_at (drop 8 octets) earlier) j)
        → (earlier : ℕ) → earlier < suc at → (j : Instr) × Spells (eight_at octets earlier) j
    before octets i spells at after zero lt = (i, spells)
    before octets i spells at after (suc earlier) lt =
        let found = after earlier (omega arith) in
        let P : List ℕ → Type 0 = λ eight. Spells eight found.0 in
        (found.0, subst P (later octets earlier) found.1)

pub code-or_fault : (octets : List ℕ) → ((code : List Instr) × SpellsCode octets code) ⊎ ((fault : DecodeFault) × (fault ≢ NoMemory) × IsDecodeFault octets fault)
code-or_fault octets =
    elim (cases_lt 0 (length octets % 8)) [
      | inl ragged ↦ inr (Ragged, (λ e. cc), ragged)
      | inr le ↦
          let whole : length octets % 8 ≡ 0 = omega arith in
          elim (cut (length octets / 8) octets (omega arith)) [
            | inl spelled ↦ inl spelled
            | inr unknown ↦ inr (UnknownCode unknown.0 unknown.1, (λ e. cc), (whole, unknown.2))
          ]
    ]
