-- A form that is read after a name is one of the spellings of a statement.
use Rattle.std.proofs.Common.{◌≡◌, ℕ, List, [], ◌∷◌, ◌++◌, Option, Some, None, codes, refl, sym, ap, ◌∙◌, inl, inr, append-nil}
use Rattle.bpf_asm.specs.Grammar.{IsOneOf}
use Rattle.bpf_asm.specs.Numbers.{number_of_word, value_after}
use Rattle.bpf_asm.specs.inner.Reading.{◌>>=◌, absolute_in, arithmetic_in, branch_in, constant_in, cut_name, cut_operand, cut_target, cut_word, ended, header, header_in, indexed_in, inverse_in, jump_in, length_in, load_index, load_word, or_else, packet, return_in, scratch_in, second_in}
use Rattle.bpf_asm.specs.StatementSpelling.{Statement, plain, jump, branch, spellings}
use Rattle.bpf_asm.specs.Tokens.{Token, name, number, mark, pieces_of, tokens_of, word_token}
use Rattle.bpf_code.specs.declared.instr.By.{By}
use Rattle.bpf_code.specs.declared.instr.By.TheVariants.{Imm, X}
use Rattle.bpf_code.specs.declared.instr.Instr.TheVariants.{LoadAbs, LoadInd, LoadImm, LoadMem, LoadLen, LdxImm, LdxMem, LdxLen, LdxMsh, Alu, RetK, RetA}
use Rattle.bpf_code.specs.declared.instr.Op.{Op}
use Rattle.bpf_code.specs.declared.instr.Size.{Size}
use Rattle.bpf_code.specs.declared.instr.Size.TheVariants.{Word}
use Rattle.bpf_code.specs.declared.instr.Test.{Test}
use Rattle.bpf_asm.proofs.cuts.TokenCuts.{some_same, next_some, else_some, end_is, name_is, word_is, operand_tokens, operand_is, target_is}
use Rattle.bpf_asm.proofs.spellings.FormTokens.{constant_is, absolute_is, indexed_is, scratch_is, length_is, header_is, header_tokens}

-- The spellings of a statement, for equal tokens and an equal statement.
pub at_row : (ts row : List Token) (s found : Statement) → ts ≡ row → s ≡ found → IsOneOf row (spellings s) → IsOneOf ts (spellings found)
at_row ts row s found e f h = rw (e, sym f) h

-- A number that gives a statement.
makes : {A : Type 0} (found : Option A) (f : A → Statement) (s : Statement) → (found >>= (λ (k : A). Some (f k))) ≡ Some s → (k : A) × (found ≡ Some k) × (f k ≡ s)
makes {A} found f s e = let n = next_some found (λ (k : A). Some (f k)) s e in (n.0, n.1, some_same (f n.0) s n.2)

-- A name in front of tokens.
abbrev pub Named : List ℕ → List Token → Statement → Type 0
Named octets ts s = IsOneOf (name octets ∷ ts) (spellings s)

-- A statement with its number, after a name.
pub numbered : (octets : List ℕ) (ts : List Token) (s : Statement) (found : Option ℕ) (f : ℕ → Statement) (row : ℕ → List Token) → (found >>= (λ k. Some (f k))) ≡ Some s → ((k : ℕ) → found ≡ Some k → ts ≡ row k) → ((k : ℕ) → Named octets (row k) (f k)) → Named octets ts s
numbered octets ts s found f row e is h =
    let n = makes found f s e in
    at_row (name octets ∷ ts) (name octets ∷ row n.0) (f n.0) s (ap (λ (r : List Token). name octets ∷ r) (is n.0 n.1)) n.2 (h n.0)

-- A statement that is only a name.
pub lone : (octets : List ℕ) (ts : List Token) (s made : Statement) → ended made ts ≡ Some s → Named octets [] made → Named octets ts s
lone octets ts s made e h =
    let f = end_is made s ts e in
    at_row (name octets ∷ ts) (name octets ∷ []) made s (ap (λ (r : List Token). name octets ∷ r) f.0) f.1 h

pub packet_sound : (size : Size) (octets : List ℕ) (ts : List Token) (s : Statement) → ((k : ℕ) → Named octets (mark 91 ∷ number k ∷ mark 93 ∷ []) (plain (LoadAbs size k))) → ((k : ℕ) → Named octets (mark 91 ∷ name (codes "x") ∷ mark 43 ∷ number k ∷ mark 93 ∷ []) (plain (LoadInd size k))) → packet size ts ≡ Some s → Named octets ts s
packet_sound size octets ts s a b e =
    elim (else_some (absolute_in ts >>= (λ k. Some (plain (LoadAbs size k)))) (indexed_in ts >>= (λ k. Some (plain (LoadInd size k)))) s e) [
      | inl f ↦ numbered octets ts s (absolute_in ts) (λ k. plain (LoadAbs size k)) (λ k. mark 91 ∷ number k ∷ mark 93 ∷ []) f (absolute_is ts) a
      | inr f ↦ numbered octets ts s (indexed_in ts) (λ k. plain (LoadInd size k)) (λ k. mark 91 ∷ name (codes "x") ∷ mark 43 ∷ number k ∷ mark 93 ∷ []) f (indexed_is ts) b
    ]

length_sound : (octets : List ℕ) (ts : List Token) (s made : Statement) → (length_in ts >>= (λ _. Some made)) ≡ Some s → Named octets (mark 35 ∷ name (codes "len") ∷ []) made → Named octets ts s
length_sound octets ts s made e h =
    let n = next_some (length_in ts) (λ _. Some made) s e in
    at_row (name octets ∷ ts) (name octets ∷ mark 35 ∷ name (codes "len") ∷ []) made s (ap (λ (r : List Token). name octets ∷ r) (length_is ts n.0 n.1)) (some_same made s n.2) h

pub word_sound : (ts : List Token) (s : Statement) → load_word ts ≡ Some s → Named (codes "ld") ts s
unfolding spellings tokens_of pieces_of word_token number_of_word value_after
word_sound ts s e =
    let imm = constant_in ts >>= (λ k. Some (plain (LoadImm k))) in
    let mem = scratch_in ts >>= (λ k. Some (plain (LoadMem k))) in
    let len = length_in ts >>= (λ _. Some (plain LoadLen)) in
    elim (else_some (packet Word ts) (or_else imm (or_else mem len)) s e) [
      | inl f ↦ packet_sound Word (codes "ld") ts s (λ k. inl refl) (λ k. inl refl) f
      | inr f ↦ elim (else_some imm (or_else mem len) s f) [
        | inl g ↦ numbered (codes "ld") ts s (constant_in ts) (λ k. plain (LoadImm k)) (λ k. mark 35 ∷ number k ∷ []) g (constant_is ts) (λ k. inl refl)
        | inr g ↦ elim (else_some mem len s g) [
          | inl h ↦ numbered (codes "ld") ts s (scratch_in ts) (λ k. plain (LoadMem k)) (λ k. name (codes "M") ∷ mark 91 ∷ number k ∷ mark 93 ∷ []) h (scratch_is ts) (λ k. inl refl)
          | inr h ↦ length_sound (codes "ld") ts s (plain LoadLen) h (inl refl)
        ]
      ]
    ]

pub index_sound : (ts : List Token) (s : Statement) → load_index ts ≡ Some s → Named (codes "ldx") ts s
unfolding spellings tokens_of pieces_of word_token number_of_word value_after
index_sound ts s e =
    let imm = constant_in ts >>= (λ k. Some (plain (LdxImm k))) in
    let mem = scratch_in ts >>= (λ k. Some (plain (LdxMem k))) in
    let len = length_in ts >>= (λ _. Some (plain LdxLen)) in
    elim (else_some imm (or_else mem (or_else len (header ts))) s e) [
      | inl g ↦ numbered (codes "ldx") ts s (constant_in ts) (λ k. plain (LdxImm k)) (λ k. mark 35 ∷ number k ∷ []) g (constant_is ts) (λ k. inl refl)
      | inr g ↦ elim (else_some mem (or_else len (header ts)) s g) [
        | inl h ↦ numbered (codes "ldx") ts s (scratch_in ts) (λ k. plain (LdxMem k)) (λ k. name (codes "M") ∷ mark 91 ∷ number k ∷ mark 93 ∷ []) h (scratch_is ts) (λ k. inl refl)
        | inr h ↦ elim (else_some len (header ts) s h) [
          | inl j ↦ length_sound (codes "ldx") ts s (plain LdxLen) j (inl refl)
          | inr j ↦ numbered (codes "ldx") ts s (header_in ts) (λ k. plain (LdxMsh k)) header_tokens j (header_is ts) (λ k. inr (inl refl))
        ]
      ]
    ]

pub return_sound : (ts : List Token) (s : Statement) → return_in ts ≡ Some s → Named (codes "ret") ts s
unfolding spellings tokens_of pieces_of word_token number_of_word value_after
return_sound ts s e =
    elim (else_some (constant_in ts >>= (λ k. Some (plain (RetK k)))) (cut_word (codes "a") ts >>= ended (plain RetA)) s e) [
      | inl g ↦ numbered (codes "ret") ts s (constant_in ts) (λ k. plain (RetK k)) (λ k. mark 35 ∷ number k ∷ []) g (constant_is ts) (λ k. inl refl)
      | inr g ↦
          let n = next_some (cut_word (codes "a") ts) (ended (plain RetA)) s g in
          let f = end_is (plain RetA) s n.0 n.2 in
          at_row (name (codes "ret") ∷ ts) (name (codes "ret") ∷ name (codes "a") ∷ []) (plain RetA) s (ap (λ (r : List Token). name (codes "ret") ∷ r) (word_is (codes "a") ts n.0 n.1 ∙ ap (λ (r : List Token). name (codes "a") ∷ r) f.0)) f.1 (inl refl)
    ]

pub jump_sound : (octets : List ℕ) (ts : List Token) (s : Statement) → ((l : List ℕ) → Named octets (name l ∷ []) (jump l)) → jump_in ts ≡ Some s → Named octets ts s
jump_sound octets ts s h e =
    let n = next_some (cut_name ts) (λ (p : List ℕ × List Token). ended (jump p.0) p.1) s e in
    let f = end_is (jump n.0.0) s n.0.1 n.2 in
    at_row (name octets ∷ ts) (name octets ∷ name n.0.0 ∷ []) (jump n.0.0) s (ap (λ (r : List Token). name octets ∷ r) (name_is ts n.0 n.1 ∙ ap (λ (r : List Token). name n.0.0 ∷ r) f.0)) f.1 (h n.0.0)

pub both_operands : (P : By → Type 0) → ((k : ℕ) → P (Imm k)) → P X → (by : By) → P by
both_operands P a b (Imm k) = a k
both_operands P a b X = b

pub arithmetic_sound : (op : Op) (octets : List ℕ) (ts : List Token) (s : Statement) → ((by : By) → Named octets (operand_tokens by) (plain (Alu op by))) → arithmetic_in op ts ≡ Some s → Named octets ts s
arithmetic_sound op octets ts s h e =
    let n = next_some (cut_operand ts) (λ (p : By × List Token). ended (plain (Alu op p.0)) p.1) s e in
    let f = end_is (plain (Alu op n.0.0)) s n.0.1 n.2 in
    let whole : ts ≡ operand_tokens n.0.0 = operand_is ts n.0 n.1 ∙ ap (λ (r : List Token). operand_tokens n.0.0 ++ r) f.0 ∙ append-nil (operand_tokens n.0.0) in
    at_row (name octets ∷ ts) (name octets ∷ operand_tokens n.0.0) (plain (Alu op n.0.0)) s (ap (λ (r : List Token). name octets ∷ r) whole) f.1 (h n.0.0)

-- The tokens of an operand and a label, and of two labels.
abbrev pub one_tokens : By → List ℕ → List Token
one_tokens by target = operand_tokens by ++ mark 44 ∷ name target ∷ []

abbrev pub two_tokens : By → List ℕ → List ℕ → List Token
two_tokens by met unmet = operand_tokens by ++ mark 44 ∷ name met ∷ mark 44 ∷ name unmet ∷ []

pub inverse_sound : (test : Test) (octets : List ℕ) (ts : List Token) (s : Statement) → ((by : By) (l : List ℕ) → Named octets (one_tokens by l) (branch test by None (Some l))) → inverse_in test ts ≡ Some s → Named octets ts s
inverse_sound test octets ts s h e =
    let n = next_some (cut_operand ts) (λ (p : By × List Token). cut_target p.1 >>= (λ (q : List ℕ × List Token). ended (branch test p.0 None (Some q.0)) q.1)) s e in
    let m = next_some (cut_target n.0.1) (λ (q : List ℕ × List Token). ended (branch test n.0.0 None (Some q.0)) q.1) s n.2 in
    let f = end_is (branch test n.0.0 None (Some m.0.0)) s m.0.1 m.2 in
    let tail : n.0.1 ≡ mark 44 ∷ name m.0.0 ∷ [] = target_is n.0.1 m.0 m.1 ∙ ap (λ (r : List Token). mark 44 ∷ name m.0.0 ∷ r) f.0 in
    let whole : ts ≡ one_tokens n.0.0 m.0.0 = operand_is ts n.0 n.1 ∙ ap (λ (r : List Token). operand_tokens n.0.0 ++ r) tail in
    at_row (name octets ∷ ts) (name octets ∷ one_tokens n.0.0 m.0.0) (branch test n.0.0 None (Some m.0.0)) s (ap (λ (r : List Token). name octets ∷ r) whole) f.1 (h n.0.0 m.0.0)

pub branch_sound : (test : Test) (octets : List ℕ) (ts : List Token) (s : Statement) → ((by : By) (l : List ℕ) → Named octets (one_tokens by l) (branch test by (Some l) None)) → ((by : By) (l m : List ℕ) → Named octets (two_tokens by l m) (branch test by (Some l) (Some m))) → branch_in test ts ≡ Some s → Named octets ts s
branch_sound test octets ts s h g e =
    let n = next_some (cut_operand ts) (λ (p : By × List Token). cut_target p.1 >>= (λ (q : List ℕ × List Token). second_in test p.0 q.0 q.1)) s e in
    let m = next_some (cut_target n.0.1) (λ (q : List ℕ × List Token). second_in test n.0.0 q.0 q.1) s n.2 in
    let by = n.0.0 in
    let met = m.0.0 in
    let rest = m.0.1 in
    let front : ts ≡ operand_tokens by ++ mark 44 ∷ name met ∷ rest = operand_is ts n.0 n.1 ∙ ap (λ (r : List Token). operand_tokens by ++ r) (target_is n.0.1 m.0 m.1) in
    elim (else_some (ended (branch test by (Some met) None) rest) (cut_target rest >>= (λ (q : List ℕ × List Token). ended (branch test by (Some met) (Some q.0)) q.1)) s m.2) [
      | inl a ↦
          let f = end_is (branch test by (Some met) None) s rest a in
          let whole : ts ≡ one_tokens by met = front ∙ ap (λ (r : List Token). operand_tokens by ++ mark 44 ∷ name met ∷ r) f.0 in
          at_row (name octets ∷ ts) (name octets ∷ one_tokens by met) (branch test by (Some met) None) s (ap (λ (r : List Token). name octets ∷ r) whole) f.1 (h by met)
      | inr a ↦
          let o = next_some (cut_target rest) (λ (q : List ℕ × List Token). ended (branch test by (Some met) (Some q.0)) q.1) s a in
          let f = end_is (branch test by (Some met) (Some o.0.0)) s o.0.1 o.2 in
          let tail : rest ≡ mark 44 ∷ name o.0.0 ∷ [] = target_is rest o.0 o.1 ∙ ap (λ (r : List Token). mark 44 ∷ name o.0.0 ∷ r) f.0 in
          let whole : ts ≡ two_tokens by met o.0.0 = front ∙ ap (λ (r : List Token). operand_tokens by ++ mark 44 ∷ name met ∷ r) tail in
          at_row (name octets ∷ ts) (name octets ∷ two_tokens by met o.0.0) (branch test by (Some met) (Some o.0.0)) s (ap (λ (r : List Token). name octets ∷ r) whole) f.1 (g by met o.0.0)
    ]
