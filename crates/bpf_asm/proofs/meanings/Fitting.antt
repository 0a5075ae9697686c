-- The instructions of a source fit their fields.
use Rattle.std.proofs.Common.{◌≡◌, ℕ, zero, suc, ◌+◌, ◌-◌, ◌%◌, ◌<◌, ◌^◌, Bool, true, false, ◌&&◌, ◌==◌, nat_lt, if◌then◌else◌, List, [], ◌∷◌, ◌++◌, codes, Option, Some, None, refl, sym, ap, ◌∙◌, subst, arith, inl, inr}
use Rattle.std.specs.List.{cons_option, filter_map}
use Rattle.std.proofs.lemmas.Bool.{and_from, and_parts, ltb-true, lt-ltb}
use Rattle.bpf_asm.specs.Grammar.{AreLines, IsSourceLine, IsOneOf, IsStatement, SourceLine, label_tokens}
use Rattle.bpf_asm.specs.Labels.{statements_of}
use Rattle.bpf_asm.specs.SourceLines.{source_lines, without_comment}
use Rattle.bpf_asm.specs.Meaning.{IsMeaning, IsSide, MeanFrom, Means}
use Rattle.bpf_asm.specs.Numbers.{number_of_word, value_of, within_word}
use Rattle.bpf_asm.specs.StatementSpelling.{Part, Statement, inverse_names, label, load_name, num, one_sided, op_name, operand, plain, jump, branch, spelling_tokens, spellings, text, test_name}
use Rattle.bpf_asm.specs.Tokens.{Token, faulty, is_word, mark, name, number, number_token, pieces_of, signed, signed_after, token_of, tokens_in, tokens_of, tokens_read, word_token}
use Rattle.bpf_code.specs.Encoding.{code_octets}
use Rattle.bpf_code.specs.Flow.{IsInstrAt}
use Rattle.bpf_code.specs.OctetSpelling.{SpellsPlainly}
use Rattle.bpf_code.specs.Widths.{FitsFields}
use Rattle.bpf_asm.specs.inner.OperandWidths.{OperandFits}
use Rattle.bpf_code.specs.declared.instr.By.{By}
use Rattle.bpf_code.specs.declared.instr.By.TheVariants.{Imm, X}
use Rattle.bpf_code.specs.declared.instr.Instr.{Instr}
use Rattle.bpf_code.specs.declared.instr.Instr.TheVariants.{LoadAbs, LoadInd, LoadImm, LoadMem, LoadLen, LdxImm, LdxMem, LdxLen, LdxMsh, Store, StoreX, Alu, Neg, Jump, Branch, RetK, RetA, Tax, Txa}
use Rattle.text_io.specs.Words.{is_blank, is_digit}
use Rattle.bpf_code.proofs.Public.{code_octets-plainly}

-- Whether the number of a token, if it is one, has at most 32 bits.
abbrev is_small : Token → Bool
is_small (number value) = nat_lt value (2 ^ 32)
is_small _ = true

abbrev all_small : List Token → Bool
all_small [] = true
all_small (token ∷ tokens) = is_small token && all_small tokens

small_parts : (one more : List Token) → all_small (one ++ more) ≡ true → (all_small one ≡ true) × (all_small more ≡ true)
small_parts [] more h = (refl, h)
small_parts (token ∷ one) more h =
    let both = and_parts (is_small token) (all_small (one ++ more)) h in
    let inner = small_parts one more both.1 in
    (and_from _ _ both.0 inner.0, inner.1)

-- The numbers of words are small.
within_small : (value : Option ℕ) → is_small (number_token (within_word value)) ≡ true
within_small None = refl
within_small (Some value) =
    elim (nat_lt value (2 ^ 32)) as (λ t. nat_lt value (2 ^ 32) ≡ t → is_small (number_token (if t then Some value else None)) ≡ true)
    [ true ↦ λ e. e | false ↦ λ e. refl ] refl

word_small : (word : List ℕ) → is_small (word_token word) ≡ true
unfolding word_token number_of_word
word_small [] = refl
word_small (octet ∷ rest) =
    elim (is_digit octet) as (λ t. is_small (if t then number_token (number_of_word (octet ∷ rest)) else name (octet ∷ rest)) ≡ true)
    [ true ↦ within_small (value_of (octet ∷ rest)) | false ↦ refl ]

-- Whether the token of a piece, if it has one, is small.
abbrev found_small : Option Token → Bool
found_small None = true
found_small (Some token) = is_small token

piece_small : (piece : List ℕ) → found_small (token_of piece) ≡ true
piece_small [] = refl
piece_small (octet ∷ rest) =
    elim (is_word octet) as (λ t. found_small (if t then Some (word_token (octet ∷ rest)) else (if is_blank octet then None else Some (mark octet))) ≡ true) [
      | true ↦ word_small (octet ∷ rest)
      | false ↦ elim (is_blank octet) as (λ t. found_small (if t then None else Some (mark octet)) ≡ true) [ true ↦ refl | false ↦ refl ]
    ]

found_more : (found : Option Token) (tokens : List Token) → found_small found ≡ true → all_small tokens ≡ true → all_small (cons_option found tokens) ≡ true
found_more None tokens f h = h
found_more (Some token) tokens f h = and_from _ _ f h

pieces_small : (pieces : List (List ℕ)) → all_small (filter_map token_of pieces) ≡ true
pieces_small [] = refl
pieces_small (piece ∷ pieces) = found_more (token_of piece) (filter_map token_of pieces) (piece_small piece) (pieces_small pieces)

-- So are negative numbers.
rest_small : (value : ℕ) → is_small (number ((2 ^ 32 - value) % 2 ^ 32)) ≡ true
rest_small value = lt-ltb ((2 ^ 32 - value) % 2 ^ 32) (2 ^ 32) (omega arith)

signed_more : (token : Token) (tokens : List Token) → is_small token ≡ true → all_small tokens ≡ true → all_small (signed_after token tokens) ≡ true
signed_more (name octets) tokens t h = h
signed_more (number value) tokens t h = and_from _ _ t h
signed_more faulty tokens t h = h
signed_more (mark hash) [] t h = refl
signed_more (mark hash) (name octets ∷ tokens) t h = h
signed_more (mark hash) (number value ∷ tokens) t h = h
signed_more (mark hash) (faulty ∷ tokens) t h = h
signed_more (mark hash) (mark minus ∷ []) t h = h
signed_more (mark hash) (mark minus ∷ name octets ∷ tokens) t h = h
signed_more (mark hash) (mark minus ∷ faulty ∷ tokens) t h = h
signed_more (mark hash) (mark minus ∷ mark other ∷ tokens) t h = h
signed_more (mark hash) (mark minus ∷ number value ∷ tokens) t h =
    let both = and_parts (nat_lt value (2 ^ 32)) (all_small tokens) h in
    elim (hash == 35 && minus == 45) as (λ b. all_small (if b then mark hash ∷ number ((2 ^ 32 - value) % 2 ^ 32) ∷ tokens else mark hash ∷ mark minus ∷ number value ∷ tokens) ≡ true)
    [ true ↦ and_from _ _ (rest_small value) both.1 | false ↦ h ]

signed_small : (tokens : List Token) → all_small tokens ≡ true → all_small (signed tokens) ≡ true
unfolding signed
signed_small [] h = refl
signed_small (token ∷ tokens) h =
    let both = and_parts (is_small token) (all_small tokens) h in
    signed_more token (signed tokens) both.0 (signed_small tokens both.1)

-- The numbers of a line are small.
line_small : (octets : List ℕ) → all_small (tokens_in octets) ≡ true
unfolding tokens_in tokens_read tokens_of
line_small octets = signed_small (tokens_of (without_comment octets)) (pieces_small (pieces_of (without_comment octets)))

-- The numbers of a spelling are small.
abbrev NumbersFit : List Part → Type 0
NumbersFit [] = Unit {0}
NumbersFit (text octets ∷ parts) = NumbersFit parts
NumbersFit (num k ∷ parts) = (k < 2 ^ 32) × NumbersFit parts
NumbersFit (label octets ∷ parts) = NumbersFit parts

numbers_fit : (parts : List Part) → all_small (spelling_tokens parts) ≡ true → NumbersFit parts
numbers_fit [] h = tt
numbers_fit (text octets ∷ parts) h = numbers_fit parts (small_parts (tokens_of octets) (spelling_tokens parts) h).1
numbers_fit (num k ∷ parts) h = let both = and_parts (nat_lt k (2 ^ 32)) (all_small (spelling_tokens parts)) h in (ltb-true k (2 ^ 32) both.0, numbers_fit parts both.1)
numbers_fit (label octets ∷ parts) h = numbers_fit parts h

at_row : (tokens : List Token) (spelling : List Part) → all_small tokens ≡ true → tokens ≡ spelling_tokens spelling → NumbersFit spelling
at_row tokens spelling h e = numbers_fit spelling (ap all_small (sym e) ∙ h)

-- The numbers of a statement fit their fields.
abbrev StatementFits : Statement → Type 0
StatementFits (plain i) = FitsFields i
StatementFits (jump target) = Unit {0}
StatementFits (branch test by met unmet) = OperandFits by

operand_fits : (by : By) (parts : List Part) → NumbersFit (operand by ++ parts) → OperandFits by
operand_fits (Imm k) parts n = n.0
operand_fits X parts n = tt

sided_fits : (names : List (List ℕ)) (by : By) (target : List ℕ) (tokens : List Token) → all_small tokens ≡ true → IsOneOf tokens (one_sided names by target) → OperandFits by
sided_fits [] by target tokens h o = absurd o
sided_fits (mnemonic ∷ names) by target tokens h o =
    elim o [
      | inl e ↦ operand_fits by (text (codes ", ") ∷ label target ∷ []) (at_row tokens (text mnemonic ∷ text (codes " ") ∷ operand by ++ text (codes ", ") ∷ label target ∷ []) h e)
      | inr f ↦ sided_fits names by target tokens h f
    ]

numbers_first : (k : ℕ) (parts : List Part) → NumbersFit (num k ∷ parts) → k < 2 ^ 32
numbers_first k parts n = n.0

-- The number of a statement with one spelling fits.
one_row : (tokens : List Token) (k : ℕ) (spelling : List Part) → all_small tokens ≡ true → IsOneOf tokens (spelling ∷ []) → (NumbersFit spelling → k < 2 ^ 32) → k < 2 ^ 32
one_row tokens k spelling h o f = elim o [ inl e ↦ f (at_row tokens spelling h e) | inr g ↦ absurd g ]

row_fits : (s : Statement) (tokens : List Token) → all_small tokens ≡ true → IsOneOf tokens (spellings s) → StatementFits s
unfolding spellings
row_fits (plain (LoadAbs size k)) ts h o = record { k = one_row ts k (text (load_name size) ∷ text (codes " [") ∷ num k ∷ text (codes "]") ∷ []) h o (λ n. n.0); jt = tt; jf = tt }
row_fits (plain (LoadInd size k)) ts h o = record { k = one_row ts k (text (load_name size) ∷ text (codes " [x+") ∷ num k ∷ text (codes "]") ∷ []) h o (λ n. n.0); jt = tt; jf = tt }
row_fits (plain (LoadImm k)) ts h o = record { k = one_row ts k (text (codes "ld #") ∷ num k ∷ []) h o (λ n. n.0); jt = tt; jf = tt }
row_fits (plain (LoadMem k)) ts h o = record { k = one_row ts k (text (codes "ld M[") ∷ num k ∷ text (codes "]") ∷ []) h o (λ n. n.0); jt = tt; jf = tt }
row_fits (plain LoadLen) ts h o = record { k = tt; jt = tt; jf = tt }
row_fits (plain (LdxImm k)) ts h o = record { k = one_row ts k (text (codes "ldx #") ∷ num k ∷ []) h o (λ n. n.0); jt = tt; jf = tt }
row_fits (plain (LdxMem k)) ts h o = record { k = one_row ts k (text (codes "ldx M[") ∷ num k ∷ text (codes "]") ∷ []) h o (λ n. n.0); jt = tt; jf = tt }
row_fits (plain LdxLen) ts h o = record { k = tt; jt = tt; jf = tt }
row_fits (plain (LdxMsh k)) ts h o =
    elim o [
      | inl e ↦ record { k = (numbers_first k (text (codes "]&0xf)") ∷ []) (at_row ts (text (codes "ldxb 4*([") ∷ num k ∷ text (codes "]&0xf)") ∷ []) h e)); jt = tt; jf = tt }
      | inr p ↦ record { k = one_row ts k (text (codes "ldx 4*([") ∷ num k ∷ text (codes "]&0xf)") ∷ []) h p (λ n. n.0); jt = tt; jf = tt }
    ]
row_fits (plain (Store k)) ts h o = record { k = one_row ts k (text (codes "st M[") ∷ num k ∷ text (codes "]") ∷ []) h o (λ n. n.0); jt = tt; jf = tt }
row_fits (plain (StoreX k)) ts h o = record { k = one_row ts k (text (codes "stx M[") ∷ num k ∷ text (codes "]") ∷ []) h o (λ n. n.0); jt = tt; jf = tt }
row_fits (plain (Alu op (Imm k))) ts h o = record { k = one_row ts k (text (op_name op) ∷ text (codes " ") ∷ operand (Imm k)) h o (λ n. n.0); jt = tt; jf = tt }
row_fits (plain (Alu op X)) ts h o = record { k = tt; jt = tt; jf = tt }
row_fits (plain Neg) ts h o = record { k = tt; jt = tt; jf = tt }
row_fits (plain (Jump k)) ts h o = absurd o
row_fits (plain (Branch test by jt jf)) ts h o = absurd o
row_fits (plain (RetK k)) ts h o = record { k = one_row ts k (text (codes "ret #") ∷ num k ∷ []) h o (λ n. n.0); jt = tt; jf = tt }
row_fits (plain RetA) ts h o = record { k = tt; jt = tt; jf = tt }
row_fits (plain Tax) ts h o = record { k = tt; jt = tt; jf = tt }
row_fits (plain Txa) ts h o = record { k = tt; jt = tt; jf = tt }
row_fits (jump target) ts h o = tt
row_fits (branch test by (Some met) (Some unmet)) ts h o =
    elim o [
      | inl e ↦ operand_fits by (text (codes ", ") ∷ label met ∷ text (codes ", ") ∷ label unmet ∷ []) (at_row ts (text (test_name test) ∷ text (codes " ") ∷ operand by ++ text (codes ", ") ∷ label met ∷ text (codes ", ") ∷ label unmet ∷ []) h e)
      | inr f ↦ absurd f
    ]
row_fits (branch test by (Some met) None) ts h o = sided_fits (test_name test ∷ []) by met ts h o
row_fits (branch test by None (Some unmet)) ts h o = sided_fits (inverse_names test) by unmet ts h o
row_fits (branch test by None None) ts h o = absurd o

-- The numbers of each statement fit.
abbrev StatementsFit : List Statement → Type 0
StatementsFit [] = Unit {0}
StatementsFit (s ∷ ss) = StatementFits s × StatementsFit ss

spelled_fits : (s : Option Statement) (tokens : List Token) (ss : List Statement) → all_small tokens ≡ true → IsStatement tokens s → StatementsFit ss → StatementsFit (cons_option s ss)
spelled_fits None tokens ss h is more = more
spelled_fits (Some s) tokens ss h is more = (row_fits s tokens h is, more)

line_fits : (octets : List ℕ) (line : SourceLine) (ss : List Statement) → IsSourceLine octets line → StatementsFit ss → StatementsFit (cons_option line.statement ss)
unfolding IsSourceLine
line_fits octets line ss is more =
    let small = small_parts (label_tokens line.label) is.0 (ap all_small (sym is.1) ∙ line_small octets) in
    spelled_fits line.statement is.0 ss small.1 is.2 more

lines_fit : (source : List (List ℕ)) (lines : List SourceLine) → AreLines source lines → StatementsFit (statements_of lines)
unfolding statements_of
lines_fit [] [] a = tt
lines_fit [] (line ∷ lines) a = cc
lines_fit (octets ∷ source) [] a = absurd a
lines_fit (octets ∷ source) (line ∷ lines) a = line_fits octets line (statements_of lines) a.0 (lines_fit source lines a.1)

side_fits : (lines : List SourceLine) (place : ℕ) (target : Option (List ℕ)) (offset : ℕ) → IsSide lines place target offset → offset < 2 ^ 8
side_fits lines place None offset m = omega arith
side_fits lines place (Some target) offset m = let fits = m.fits in omega arith

-- An instruction that a statement means fits its fields.
means_fits : (lines : List SourceLine) (place : ℕ) (s : Statement) (i : Instr) → StatementFits s → Means lines place s i → FitsFields i
means_fits lines place (plain j) i f m = rw m f
means_fits lines place (jump target) i f m = let fits = m.2.fits in rw m.1 (record { k = omega arith; jt = tt; jf = tt })
means_fits lines place (branch test by met unmet) i f m = rw m.2 (record { k = f; jt = side_fits lines place met m.0 m.3; jf = side_fits lines place unmet m.1 m.4 })

mean_fit : (lines : List SourceLine) (from : ℕ) (ss : List Statement) (code : List Instr) → StatementsFit ss → MeanFrom lines from ss code → (place : ℕ) (i : Instr) → IsInstrAt code place i → FitsFields i
mean_fit lines from [] [] f m place i e = cc
mean_fit lines from [] (j ∷ code) f m place i e = cc
mean_fit lines from (s ∷ ss) [] f m place i e = absurd m
mean_fit lines from (s ∷ ss) (j ∷ code) f m zero i e = let same : j ≡ i = cc in subst (λ (x : Instr). FitsFields x) same (means_fits lines from s j f.0 m.0)
mean_fit lines from (s ∷ ss) (j ∷ code) f m (suc place) i e = mean_fit lines (from + 1) ss code f.1 m.1 place i e

-- Each instruction that a source means fits its fields.
pub meaning-fits : (source : List ℕ) (code : List Instr) → IsMeaning source code → (place : ℕ) (i : Instr) → IsInstrAt code place i → FitsFields i
meaning-fits source code m = mean_fit m.lines 0 (statements_of m.lines) code (lines_fit (source_lines source) m.lines m.spelled) m.mean.meant

-- So the octets of its code spell it, with 0 in all unused fields.
pub meaning-plainly : (source : List ℕ) (code : List Instr) → IsMeaning source code → SpellsPlainly (code_octets code) code
meaning-plainly source code m = code_octets-plainly code (meaning-fits source code m)
