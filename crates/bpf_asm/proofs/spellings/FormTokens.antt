-- The tokens of each form of operands that was read.
use Rattle.std.proofs.Common.{◌≡◌, ℕ, Bool, true, List, [], ◌∷◌, Some, codes, ap, ◌∙◌}
use Rattle.bpf_asm.specs.inner.Reading.{◌>>=◌, absolute_in, bracket_in, constant_in, cut_constant, cut_length, cut_mark, cut_number, cut_value, cut_word, ended, header_in, indexed_in, length_in, scratch_in}
use Rattle.bpf_asm.specs.Tokens.{Token, name, number, mark}
use Rattle.bpf_asm.proofs.cuts.TokenCuts.{next_some, end_is, mark_is, number_is, word_is, value_is, constant_cut}

pub constant_is : (ts : List Token) (k : ℕ) → constant_in ts ≡ Some k → ts ≡ mark 35 ∷ number k ∷ []
constant_is ts k e =
    let n = next_some (cut_constant ts) (λ (p : ℕ × List Token). ended p.0 p.1) k e in
    let f = end_is n.0.0 k n.0.1 n.2 in
    constant_cut ts n.0 n.1 ∙ ap (λ (v : ℕ). mark 35 ∷ number v ∷ n.0.1) f.1 ∙ ap (λ (r : List Token). mark 35 ∷ number k ∷ r) f.0

bracket_is : (ts : List Token) (k : ℕ) → bracket_in ts ≡ Some k → ts ≡ number k ∷ mark 93 ∷ []
bracket_is ts k e =
    let n = next_some (cut_number ts) (λ (p : ℕ × List Token). cut_mark 93 p.1 >>= ended p.0) k e in
    let m = next_some (cut_mark 93 n.0.1) (ended n.0.0) k n.2 in
    let f = end_is n.0.0 k m.0 m.2 in
    number_is ts n.0 n.1 ∙ ap (λ (v : ℕ). number v ∷ n.0.1) f.1 ∙ ap (λ (r : List Token). number k ∷ r) (mark_is 93 n.0.1 m.0 m.1 ∙ ap (λ (r : List Token). mark 93 ∷ r) f.0)

pub absolute_is : (ts : List Token) (k : ℕ) → absolute_in ts ≡ Some k → ts ≡ mark 91 ∷ number k ∷ mark 93 ∷ []
absolute_is ts k e =
    let n = next_some (cut_mark 91 ts) bracket_in k e in
    mark_is 91 ts n.0 n.1 ∙ ap (λ (r : List Token). mark 91 ∷ r) (bracket_is n.0 k n.2)

pub indexed_is : (ts : List Token) (k : ℕ) → indexed_in ts ≡ Some k → ts ≡ mark 91 ∷ name (codes "x") ∷ mark 43 ∷ number k ∷ mark 93 ∷ []
indexed_is ts k e =
    let a = next_some (cut_mark 91 ts >>= cut_word (codes "x") >>= cut_mark 43) bracket_in k e in
    let b = next_some (cut_mark 91 ts >>= cut_word (codes "x")) (cut_mark 43) a.0 a.1 in
    let d = next_some (cut_mark 91 ts) (cut_word (codes "x")) b.0 b.1 in
    mark_is 91 ts d.0 d.1 ∙ ap (λ (r : List Token). mark 91 ∷ r) (word_is (codes "x") d.0 b.0 d.2 ∙ ap (λ (r : List Token). name (codes "x") ∷ r) (mark_is 43 b.0 a.0 b.2 ∙ ap (λ (r : List Token). mark 43 ∷ r) (bracket_is a.0 k a.2)))

pub scratch_is : (ts : List Token) (k : ℕ) → scratch_in ts ≡ Some k → ts ≡ name (codes "M") ∷ mark 91 ∷ number k ∷ mark 93 ∷ []
scratch_is ts k e =
    let n = next_some (cut_word (codes "M") ts) absolute_in k e in
    word_is (codes "M") ts n.0 n.1 ∙ ap (λ (r : List Token). name (codes "M") ∷ r) (absolute_is n.0 k n.2)

pub length_is : (ts : List Token) (t : Bool) → length_in ts ≡ Some t → ts ≡ mark 35 ∷ name (codes "len") ∷ []
length_is ts t e =
    let a = next_some (cut_length ts) (ended true) t e in
    let b = next_some (cut_mark 35 ts) (cut_word (codes "len")) a.0 a.1 in
    let f = end_is true t a.0 a.2 in
    mark_is 35 ts b.0 b.1 ∙ ap (λ (r : List Token). mark 35 ∷ r) (word_is (codes "len") b.0 a.0 b.2 ∙ ap (λ (r : List Token). name (codes "len") ∷ r) f.0)

header_tail : (k found : ℕ) (ts : List Token) → (cut_mark 93 ts >>= cut_mark 38 >>= cut_value 15 >>= cut_mark 41 >>= ended k) ≡ Some found → (ts ≡ mark 93 ∷ mark 38 ∷ number 15 ∷ mark 41 ∷ []) × (k ≡ found)
header_tail k found ts e =
    let a = next_some (cut_mark 93 ts >>= cut_mark 38 >>= cut_value 15 >>= cut_mark 41) (ended k) found e in
    let b = next_some (cut_mark 93 ts >>= cut_mark 38 >>= cut_value 15) (cut_mark 41) a.0 a.1 in
    let d = next_some (cut_mark 93 ts >>= cut_mark 38) (cut_value 15) b.0 b.1 in
    let g = next_some (cut_mark 93 ts) (cut_mark 38) d.0 d.1 in
    let f = end_is k found a.0 a.2 in
    (mark_is 93 ts g.0 g.1 ∙ ap (λ (r : List Token). mark 93 ∷ r) {x = g.0} (mark_is 38 g.0 d.0 g.2 ∙ ap (λ (r : List Token). mark 38 ∷ r) {x = d.0} (value_is 15 d.0 b.0 d.2 ∙ ap (λ (r : List Token). number 15 ∷ r) {x = b.0} (mark_is 41 b.0 a.0 b.2 ∙ ap (λ (r : List Token). mark 41 ∷ r) {x = a.0} f.0))), f.1)

header_front : (ts rest : List Token) → (cut_value 4 ts >>= cut_mark 42 >>= cut_mark 40 >>= cut_mark 91) ≡ Some rest → ts ≡ number 4 ∷ mark 42 ∷ mark 40 ∷ mark 91 ∷ rest
header_front ts rest e =
    let d = next_some (cut_value 4 ts >>= cut_mark 42 >>= cut_mark 40) (cut_mark 91) rest e in
    let g = next_some (cut_value 4 ts >>= cut_mark 42) (cut_mark 40) d.0 d.1 in
    let h = next_some (cut_value 4 ts) (cut_mark 42) g.0 g.1 in
    value_is 4 ts h.0 h.1 ∙ ap (λ (r : List Token). number 4 ∷ r) {x = h.0} (mark_is 42 h.0 g.0 h.2 ∙ ap (λ (r : List Token). mark 42 ∷ r) {x = g.0} (mark_is 40 g.0 d.0 g.2 ∙ ap (λ (r : List Token). mark 40 ∷ r) {x = d.0} (mark_is 91 d.0 rest d.2)))

header_number : (ts tail : List Token) (p : ℕ × List Token) (k : ℕ) → ts ≡ number p.0 ∷ p.1 → p.0 ≡ k → p.1 ≡ tail → ts ≡ number k ∷ tail
header_number ts tail p k e n f = e ∙ ap (λ (v : ℕ). number v ∷ p.1) n ∙ ap (λ (r : List Token). number k ∷ r) f

pub header_is : (ts : List Token) (k : ℕ) → header_in ts ≡ Some k → ts ≡ number 4 ∷ mark 42 ∷ mark 40 ∷ mark 91 ∷ number k ∷ mark 93 ∷ mark 38 ∷ number 15 ∷ mark 41 ∷ []
header_is ts k e =
    let a = next_some (cut_value 4 ts >>= cut_mark 42 >>= cut_mark 40 >>= cut_mark 91 >>= cut_number) (λ (p : ℕ × List Token). cut_mark 93 p.1 >>= cut_mark 38 >>= cut_value 15 >>= cut_mark 41 >>= ended p.0) k e in
    let b = next_some (cut_value 4 ts >>= cut_mark 42 >>= cut_mark 40 >>= cut_mark 91) cut_number a.0 a.1 in
    let f = header_tail a.0.0 k a.0.1 a.2 in
    header_front ts b.0 b.1 ∙ ap (λ (r : List Token). number 4 ∷ mark 42 ∷ mark 40 ∷ mark 91 ∷ r) {x = b.0} (header_number b.0 _ a.0 k (number_is b.0 a.0 b.2) f.1 f.0)

abbrev pub header_tokens : ℕ → List Token
header_tokens k = number 4 ∷ mark 42 ∷ mark 40 ∷ mark 91 ∷ number k ∷ mark 93 ∷ mark 38 ∷ number 15 ∷ mark 41 ∷ []
