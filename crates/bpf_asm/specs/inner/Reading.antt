-- Reading a statement from the tokens of a line: the inverse of the table of spellings, as the lemmas `reads_back` and
-- `reads_true` prove. A name `cut_..` takes tokens from the front and has those that are left; a name `.._in` has what all of
-- the tokens spell, so no token is left.
use Rattle.std.specs.Prelude.{◌≡◌, ℕ, Bool, true, false, ◌==◌, if◌then◌else◌, List, [], ◌∷◌, Option, Some, None, codes}
use Rattle.std.specs.Option.{option_and_then, option_map_or}
use Rattle.std.specs.Str.{bytes_eq}
use Rattle.bpf_asm.specs.Grammar.{SourceLine}
use Rattle.bpf_asm.specs.StatementSpelling.{Statement, plain, jump, branch}
use Rattle.bpf_asm.specs.Tokens.{Token, name, number, mark}
use Rattle.bpf_code.specs.declared.instr.By.{By}
use Rattle.bpf_code.specs.declared.instr.By.TheVariants.{Imm, X}
use Rattle.bpf_code.specs.declared.instr.Instr.TheVariants.{LoadAbs, LoadInd, LoadImm, LoadMem, LoadLen, LdxImm, LdxMem, LdxLen, LdxMsh, Store, StoreX, Alu, Neg, RetK, RetA, Tax, Txa}
use Rattle.bpf_code.specs.declared.instr.Op.{Op}
use Rattle.bpf_code.specs.declared.instr.Op.TheVariants.{Add, Sub, Mul, Div, Or, And, Lsh, Rsh, Mod, Xor}
use Rattle.bpf_code.specs.declared.instr.Size.{Size}
use Rattle.bpf_code.specs.declared.instr.Size.TheVariants.{Word, Half, Octet}
use Rattle.bpf_code.specs.declared.instr.Test.{Test}
use Rattle.bpf_code.specs.declared.instr.Test.TheVariants.{Eq, Gt, Ge, Set}

infixl 10 ◌>>=◌
-- Reads on after what was found, if something was.
abbrev pub ◌>>=◌ : {A B : Type 0} → Option A → (A → Option B) → Option B
found >>= next = option_and_then next found

-- The first reading, or the other if the first fails.
abbrev pub or_else : {A : Type 0} → Option A → Option A → Option A
or_else None other = other
or_else (Some value) other = Some value

-- Whether no token is left.
abbrev pub is_ended : List Token → Bool
is_ended [] = true
is_ended (token ∷ tokens) = false

-- The value, if no token is left.
abbrev pub ended : {A : Type 0} → A → List Token → Option A
ended value tokens = if is_ended tokens then Some value else None

-- The tokens after this octet.
abbrev pub cut_mark : ℕ → List Token → Option (List Token)
cut_mark octet (mark found ∷ tokens) = if found == octet then Some tokens else None
cut_mark octet _ = None

-- A number, and the tokens after it.
abbrev pub cut_number : List Token → Option (ℕ × List Token)
cut_number (number value ∷ tokens) = Some (value, tokens)
cut_number _ = None

-- A name, and the tokens after it.
abbrev pub cut_name : List Token → Option (List ℕ × List Token)
cut_name (name octets ∷ tokens) = Some (octets, tokens)
cut_name _ = None

-- The first token is neither a name nor a number.
abbrev pub HasNoWord : List Token → Type 0
HasNoWord tokens = (cut_name tokens ≡ None) × (cut_number tokens ≡ None)

-- The tokens after this name.
abbrev pub cut_word : List ℕ → List Token → Option (List Token)
cut_word word tokens = cut_name tokens >>= (λ (p : List ℕ × List Token). if bytes_eq p.0 word then Some p.1 else None)

-- `#k`, and the tokens after it.
abbrev pub cut_constant : List Token → Option (ℕ × List Token)
cut_constant tokens = cut_mark 35 tokens >>= cut_number

-- The tokens after `#len`.
abbrev pub cut_length : List Token → Option (List Token)
cut_length tokens = cut_mark 35 tokens >>= cut_word (codes "len")

-- `#len` and the end.
abbrev pub length_in : List Token → Option Bool
length_in tokens = cut_length tokens >>= ended true

-- `#k` and the end.
abbrev pub constant_in : List Token → Option ℕ
constant_in tokens = cut_constant tokens >>= (λ (p : ℕ × List Token). ended p.0 p.1)

-- `k]` and the end.
abbrev pub bracket_in : List Token → Option ℕ
bracket_in tokens = cut_number tokens >>= (λ (p : ℕ × List Token). cut_mark 93 p.1 >>= ended p.0)

-- `[k]` and the end.
abbrev pub absolute_in : List Token → Option ℕ
absolute_in tokens = cut_mark 91 tokens >>= bracket_in

-- `[x+k]` and the end.
abbrev pub indexed_in : List Token → Option ℕ
indexed_in tokens = cut_mark 91 tokens >>= cut_word (codes "x") >>= cut_mark 43 >>= bracket_in

-- `M[k]` and the end.
abbrev pub scratch_in : List Token → Option ℕ
scratch_in tokens = cut_word (codes "M") tokens >>= absolute_in

-- The tokens after a number of this value.
abbrev pub cut_value : ℕ → List Token → Option (List Token)
cut_value value tokens = cut_number tokens >>= (λ (p : ℕ × List Token). if p.0 == value then Some p.1 else None)

-- `4*([k]&0xf)` and the end.
abbrev pub header_in : List Token → Option ℕ
header_in tokens =
    cut_value 4 tokens >>= cut_mark 42 >>= cut_mark 40 >>= cut_mark 91 >>= cut_number
    >>= (λ (p : ℕ × List Token). cut_mark 93 p.1 >>= cut_mark 38 >>= cut_value 15 >>= cut_mark 41 >>= ended p.0)

-- An operand, and the tokens after it.
abbrev pub cut_operand : List Token → Option (By × List Token)
cut_operand tokens = or_else (cut_constant tokens >>= (λ (p : ℕ × List Token). Some (Imm p.0, p.1))) (cut_word (codes "x") tokens >>= (λ ts. Some (X, ts)))

-- `, label`, and the tokens after it.
abbrev pub cut_target : List Token → Option (List ℕ × List Token)
cut_target tokens = cut_mark 44 tokens >>= cut_name

-- The loads from the packet.
abbrev pub packet : Size → List Token → Option Statement
packet size ts =
    or_else (absolute_in ts >>= (λ k. Some (plain (LoadAbs size k))))
    (indexed_in ts >>= (λ k. Some (plain (LoadInd size k))))

-- The forms of `ld`.
abbrev pub load_word : List Token → Option Statement
load_word ts =
    or_else (packet Word ts) (
    or_else (constant_in ts >>= (λ k. Some (plain (LoadImm k)))) (
    or_else (scratch_in ts >>= (λ k. Some (plain (LoadMem k))))
    (length_in ts >>= (λ _. Some (plain LoadLen)))))

-- The forms of `ldxb`.
abbrev pub header : List Token → Option Statement
header ts = header_in ts >>= (λ k. Some (plain (LdxMsh k)))

-- The forms of `ldx`.
abbrev pub load_index : List Token → Option Statement
load_index ts =
    or_else (constant_in ts >>= (λ k. Some (plain (LdxImm k)))) (
    or_else (scratch_in ts >>= (λ k. Some (plain (LdxMem k)))) (
    or_else (length_in ts >>= (λ _. Some (plain LdxLen))) (header ts)))

-- The forms of `ja`.
abbrev pub jump_in : List Token → Option Statement
jump_in ts = cut_name ts >>= (λ (p : List ℕ × List Token). ended (jump p.0) p.1)

-- The forms of `ret`.
abbrev pub return_in : List Token → Option Statement
return_in ts =
    or_else (constant_in ts >>= (λ k. Some (plain (RetK k))))
    (cut_word (codes "a") ts >>= ended (plain RetA))

-- The forms of arithmetic.
abbrev pub arithmetic_in : Op → List Token → Option Statement
arithmetic_in op ts = cut_operand ts >>= (λ (p : By × List Token). ended (plain (Alu op p.0)) p.1)

-- The branch after its first label.
abbrev pub second_in : Test → By → List ℕ → List Token → Option Statement
second_in test by met ts =
    or_else (ended (branch test by (Some met) None) ts)
    (cut_target ts >>= (λ (q : List ℕ × List Token). ended (branch test by (Some met) (Some q.0)) q.1))

-- The forms of branches.
abbrev pub branch_in : Test → List Token → Option Statement
branch_in test ts =
    cut_operand ts >>= (λ (p : By × List Token). cut_target p.1
    >>= (λ (q : List ℕ × List Token). second_in test p.0 q.0 q.1))

-- The forms of branches that jump if the test is false.
abbrev pub inverse_in : Test → List Token → Option Statement
inverse_in test ts =
    cut_operand ts >>= (λ (p : By × List Token). cut_target p.1
    >>= (λ (q : List ℕ × List Token). ended (branch test p.0 None (Some q.0)) q.1))

-- The entry of a table for a name.
abbrev pub table_entry : {A : Type 0} → List ℕ → List (List ℕ × A) → Option A
table_entry octets [] = None
table_entry octets (row ∷ rows) = if bytes_eq octets row.0 then Some row.1 else table_entry octets rows

-- The mnemonics of arithmetic.
abbrev pub op_rows : List (List ℕ × Op)
op_rows = (codes "add", Add) ∷ (codes "sub", Sub) ∷ (codes "mul", Mul) ∷ (codes "div", Div) ∷ (codes "or", Or) ∷ (codes "and", And) ∷ (codes "lsh", Lsh) ∷ (codes "rsh", Rsh) ∷ (codes "mod", Mod) ∷ (codes "xor", Xor) ∷ []

-- The arithmetic of a mnemonic.
unfoldable pub op_of : List ℕ → Option Op
op_of octets = table_entry octets op_rows

-- The mnemonics of branches.
abbrev pub test_rows : List (List ℕ × Test)
test_rows = (codes "jeq", Eq) ∷ (codes "jgt", Gt) ∷ (codes "jge", Ge) ∷ (codes "jset", Set) ∷ []

-- The branch of a mnemonic.
unfoldable pub branch_named : List ℕ → Option Test
branch_named octets = table_entry octets test_rows

-- The mnemonics of branches that jump if the test is false.
abbrev pub inverse_rows : List (List ℕ × Test)
inverse_rows = (codes "jne", Eq) ∷ (codes "jneq", Eq) ∷ (codes "jlt", Ge) ∷ (codes "jle", Gt) ∷ []

-- The test whose opposite the mnemonic names.
unfoldable pub inverse_of : List ℕ → Option Test
inverse_of octets = table_entry octets inverse_rows

-- The form of a mnemonic whose operand is M[k].
abbrev pub scratch_form : (ℕ → Statement) → List Token → Option Statement
scratch_form statement ts = scratch_in ts >>= (λ k. Some (statement k))

-- The forms of the mnemonics of loads and stores.
abbrev pub moved_forms : List (List ℕ × (List Token → Option Statement))
moved_forms =
    (codes "ld", load_word)
    ∷ (codes "ldh", packet Half)
    ∷ (codes "ldb", packet Octet)
    ∷ (codes "ldx", load_index)
    ∷ (codes "ldxb", header)
    ∷ (codes "st", scratch_form (λ k. plain (Store k)))
    ∷ (codes "stx", scratch_form (λ k. plain (StoreX k))) ∷ []

-- The forms of the mnemonics that are neither of loads and stores nor of arithmetic and branches.
abbrev pub other_forms : List (List ℕ × (List Token → Option Statement))
other_forms =
    (codes "neg", ended (plain Neg))
    ∷ (codes "ja", jump_in)
    ∷ (codes "jmp", jump_in)
    ∷ (codes "ret", return_in)
    ∷ (codes "tax", ended (plain Tax))
    ∷ (codes "txa", ended (plain Txa)) ∷ []

-- The statement that a table's form reads after a mnemonic.
abbrev pub form_in : List (List ℕ × (List Token → Option Statement)) → List ℕ → List Token → Option Statement
form_in forms octets ts = table_entry octets forms >>= (λ form. form ts)

-- The statement of a mnemonic of a load or a store.
unfoldable pub moved_in : List ℕ → List Token → Option Statement
moved_in octets ts = form_in moved_forms octets ts

-- The statement of a mnemonic of `other_forms`.
unfoldable pub other_in : List ℕ → List Token → Option Statement
other_in octets ts = form_in other_forms octets ts

-- The statement of a mnemonic, unless it is one of branches or of arithmetic.
abbrev pub form_of : List ℕ → List Token → Option Statement
form_of octets ts = or_else (moved_in octets ts) (other_in octets ts)

-- The statement of a mnemonic, unless it is one of arithmetic or of branches that jump if the test is true.
abbrev pub inverse_or : List ℕ → List Token → Option Statement
inverse_or octets ts = option_map_or (λ test. inverse_in test ts) (inverse_of octets) (form_of octets ts)

-- The statement of a mnemonic, unless it is one of arithmetic.
abbrev pub branch_or : List ℕ → List Token → Option Statement
branch_or octets ts = option_map_or (λ test. branch_in test ts) (branch_named octets) (inverse_or octets ts)

-- The statement of a mnemonic and the tokens after it.
unfoldable pub named_in : List ℕ → List Token → Option Statement
named_in octets ts = option_map_or (λ op. arithmetic_in op ts) (op_of octets) (branch_or octets ts)

-- The statement of these tokens.
unfoldable pub statement_in : List Token → Option Statement
statement_in ts = cut_name ts >>= (λ (p : List ℕ × List Token). named_in p.0 p.1)

-- A label, and the tokens after it.
abbrev pub cut_label : List Token → Option (List ℕ × List Token)
cut_label tokens = cut_name tokens >>= (λ (p : List ℕ × List Token). cut_mark 58 p.1 >>= (λ rest. Some (p.0, rest)))

-- The line with this label and the statement of the other tokens, if there are any.
abbrev pub body_in : Option (List ℕ) → List Token → Option SourceLine
body_in label tokens =
    if is_ended tokens then Some (record { label = label; statement = None }) else (
    statement_in tokens >>= (λ s. Some (record { label = label; statement = Some s })))

-- The line of these tokens.
unfoldable pub line_in : List Token → Option SourceLine
line_in tokens = option_map_or (λ (p : List ℕ × List Token). body_in (Some p.0) p.1) (cut_label tokens) (body_in None tokens)
