-- The tokens, from the token or operand that was cut from the front.
use Rattle.std.proofs.Common.{◌≡◌, ◌⊎◌, ℕ, Bool, true, false, ◌==◌, if◌then◌else◌, List, [], ◌∷◌, ◌++◌, Option, Some, None, codes, refl, ap, ◌∙◌, inl, inr}
use Rattle.std.specs.Option.{option_map_or}
use Rattle.std.specs.Str.{bytes_eq}
use Rattle.std.proofs.lemmas.Bool.{eqb-true}
use Rattle.std.proofs.lemmas.Slice.Eq.{bytes_eq-Decides}
use Rattle.bpf_asm.specs.inner.Reading.{◌>>=◌, cut_constant, cut_mark, cut_name, cut_number, cut_operand, cut_target, cut_value, cut_word, ended, or_else}
use Rattle.bpf_asm.specs.Tokens.{Token, name, number, faulty, mark}
use Rattle.bpf_code.specs.declared.instr.By.{By}
use Rattle.bpf_code.specs.declared.instr.By.TheVariants.{Imm, X}

pub some_same : {A : Type 0} (a b : A) → Some a ≡ Some b → a ≡ b
some_same a b e = cc

-- If a reading in two steps succeeds, both steps do.
pub next_some : {A B : Type 0} (found : Option A) (next : A → Option B) (value : B) → (found >>= next) ≡ Some value → (x : A) × (found ≡ Some x) × (next x ≡ Some value)
next_some None next value e = cc
next_some (Some x) next value e = (x, refl, e)

-- One of two readings succeeded.
pub else_some : {A : Type 0} (one other : Option A) (value : A) → or_else one other ≡ Some value → (one ≡ Some value) ⊎ (other ≡ Some value)
else_some None other value e = inr e
else_some (Some x) other value e = inl e

pub map_some : {A B : Type 0} (one : Option A) (f : A → Option B) (other : Option B) (value : B) → option_map_or f one other ≡ Some value → ((x : A) × (one ≡ Some x) × (f x ≡ Some value)) ⊎ (other ≡ Some value)
map_some None f other value e = inr e
map_some (Some x) f other value e = inl (x, refl, e)

pub end_is : {A : Type 0} (value found : A) (ts : List Token) → ended value ts ≡ Some found → (ts ≡ []) × (value ≡ found)
end_is value found [] e = (refl, some_same value found e)
end_is value found (t ∷ ts) e = cc

pub mark_is : (octet : ℕ) (ts rest : List Token) → cut_mark octet ts ≡ Some rest → ts ≡ mark octet ∷ rest
mark_is octet [] rest e = cc
mark_is octet (name octets ∷ ts) rest e = cc
mark_is octet (number value ∷ ts) rest e = cc
mark_is octet (faulty ∷ ts) rest e = cc
mark_is octet (mark found ∷ ts) rest e =
    let by_test : (t : Bool) → (found == octet) ≡ t → (if t then Some ts else None) ≡ Some rest → mark found ∷ ts ≡ mark octet ∷ rest =
    λ (t : Bool). elim t as (λ t. (found == octet) ≡ t → (if t then Some ts else None) ≡ Some rest → mark found ∷ ts ≡ mark octet ∷ rest)
    [ true ↦ λ g f. let same = eqb-true found octet g in let more = some_same ts rest f in cc | false ↦ λ g f. cc ] in
    by_test (found == octet) refl e

pub number_is : (ts : List Token) (p : ℕ × List Token) → cut_number ts ≡ Some p → ts ≡ number p.0 ∷ p.1
number_is [] p e = cc
number_is (name octets ∷ ts) p e = cc
number_is (number value ∷ ts) p e = let same = some_same (value, ts) p e in ap (λ (q : ℕ × List Token). number q.0 ∷ q.1) same
number_is (faulty ∷ ts) p e = cc
number_is (mark found ∷ ts) p e = cc

pub name_is : (ts : List Token) (p : List ℕ × List Token) → cut_name ts ≡ Some p → ts ≡ name p.0 ∷ p.1
name_is [] p e = cc
name_is (name octets ∷ ts) p e = let same = some_same (octets, ts) p e in ap (λ (q : List ℕ × List Token). name q.0 ∷ q.1) same
name_is (number value ∷ ts) p e = cc
name_is (faulty ∷ ts) p e = cc
name_is (mark found ∷ ts) p e = cc

tested : {A : Type 0} (t : Bool) (a b : A) → (if t then Some a else None) ≡ Some b → (t ≡ true) × (a ≡ b)
tested true a b e = (refl, some_same a b e)
tested false a b e = cc

pub word_is : (word : List ℕ) (ts rest : List Token) → cut_word word ts ≡ Some rest → ts ≡ name word ∷ rest
word_is word ts rest e =
    let n = next_some (cut_name ts) (λ (p : List ℕ × List Token). if bytes_eq p.0 word then Some p.1 else None) rest e in
    let t = tested (bytes_eq n.0.0 word) n.0.1 rest n.2 in
    let same : n.0.0 ≡ word = (bytes_eq-Decides n.0.0 word).0 t.0 in
    name_is ts n.0 n.1 ∙ ap (λ (w : List ℕ). name w ∷ n.0.1) same ∙ ap (λ (r : List Token). name word ∷ r) t.1

pub value_is : (value : ℕ) (ts rest : List Token) → cut_value value ts ≡ Some rest → ts ≡ number value ∷ rest
value_is value ts rest e =
    let n = next_some (cut_number ts) (λ (p : ℕ × List Token). if p.0 == value then Some p.1 else None) rest e in
    let t = tested (n.0.0 == value) n.0.1 rest n.2 in
    let same : n.0.0 ≡ value = eqb-true n.0.0 value t.0 in
    number_is ts n.0 n.1 ∙ ap (λ (w : ℕ). number w ∷ n.0.1) same ∙ ap (λ (r : List Token). number value ∷ r) t.1

pub constant_cut : (ts : List Token) (p : ℕ × List Token) → cut_constant ts ≡ Some p → ts ≡ mark 35 ∷ number p.0 ∷ p.1
constant_cut ts p e =
    let n = next_some (cut_mark 35 ts) cut_number p e in
    mark_is 35 ts n.0 n.1 ∙ ap (λ (r : List Token). mark 35 ∷ r) (number_is n.0 p n.2)

-- The tokens of an operand.
abbrev pub operand_tokens : By → List Token
operand_tokens (Imm k) = mark 35 ∷ number k ∷ []
operand_tokens X = name (codes "x") ∷ []

pub operand_is : (ts : List Token) (p : By × List Token) → cut_operand ts ≡ Some p → ts ≡ operand_tokens p.0 ++ p.1
operand_is ts p e =
    elim (else_some (cut_constant ts >>= (λ (q : ℕ × List Token). Some (Imm q.0, q.1))) (cut_word (codes "x") ts >>= (λ r. Some (X, r))) p e) [
      | inl f ↦
          let n = next_some (cut_constant ts) (λ (q : ℕ × List Token). Some (Imm q.0, q.1)) p f in
          let same = some_same (Imm n.0.0, n.0.1) p n.2 in
          constant_cut ts n.0 n.1 ∙ ap (λ (q : By × List Token). operand_tokens q.0 ++ q.1) same
      | inr f ↦
          let n = next_some (cut_word (codes "x") ts) (λ r. Some (X, r)) p f in
          let same = some_same (X, n.0) p n.2 in
          word_is (codes "x") ts n.0 n.1 ∙ ap (λ (q : By × List Token). operand_tokens q.0 ++ q.1) same
    ]

pub target_is : (ts : List Token) (p : List ℕ × List Token) → cut_target ts ≡ Some p → ts ≡ mark 44 ∷ name p.0 ∷ p.1
target_is ts p e =
    let n = next_some (cut_mark 44 ts) cut_name p e in
    mark_is 44 ts n.0 n.1 ∙ ap (λ (r : List Token). mark 44 ∷ r) (name_is n.0 p n.2)
