-- Tokens are a line exactly if they are read as that line.
use Rattle.std.proofs.Common.{◌≡◌, ◌⊎◌, ℕ, Bool, true, false, if◌then◌else◌, List, [], ◌∷◌, ◌++◌, Option, Some, None, refl, ap, ◌∙◌, subst, inl, inr}
use Rattle.bpf_asm.specs.Grammar.{AreLineTokens, IsOneOf, SourceLine, label_tokens}
use Rattle.bpf_asm.specs.inner.Reading.{◌>>=◌, body_in, cut_label, cut_mark, cut_name, is_ended, line_in, statement_in}
use Rattle.bpf_asm.specs.StatementSpelling.{Statement, spellings}
use Rattle.bpf_asm.specs.Tokens.{Token, name, mark}
use Rattle.bpf_asm.proofs.spellings.NoLabel.{no_label}
use Rattle.bpf_asm.proofs.spellings.ReadBack.{reads_back}
use Rattle.bpf_asm.proofs.spellings.ReadsTrue.{reads_true}
use Rattle.bpf_asm.proofs.cuts.TokenCuts.{map_some, mark_is, name_is, next_some, some_same}

some_ended : (ts : List Token) (s : Statement) → statement_in ts ≡ Some s → is_ended ts ≡ false
unfolding statement_in
some_ended [] s e = cc
some_ended (t ∷ ts) s e = refl

body_back : (label : Option (List ℕ)) (ts : List Token) (s : Statement) → IsOneOf ts (spellings s) → body_in label ts ≡ Some (record { label = label; statement = Some s })
body_back label ts s h =
    let e = reads_back ts s h in
    rw (some_ended ts s e, e) refl

-- The tokens of a line are read as that line.
pub line_back : (ts : List Token) (label : Option (List ℕ)) (statement : Option Statement) → AreLineTokens ts (record { label = label; statement = statement }) → line_in ts ≡ Some (record { label = label; statement = statement })
unfolding line_in
line_back ts None None h = let e : ts ≡ [] = h.1 ∙ h.2 in rw e refl
line_back ts None (Some s) h =
    let one : IsOneOf ts (spellings s) = rw h.1 h.2 in
    rw (no_label ts s one) (body_back None ts s one)
line_back ts (Some l) None h = let e : ts ≡ name l ∷ mark 58 ∷ [] = h.1 ∙ ap (λ (r : List Token). name l ∷ mark 58 ∷ r) h.2 in rw e refl
line_back ts (Some l) (Some s) h = rw h.1 (body_back (Some l) h.0 s h.2)

label_is : (ts : List Token) (p : List ℕ × List Token) → cut_label ts ≡ Some p → ts ≡ name p.0 ∷ mark 58 ∷ p.1
label_is ts p e =
    let n = next_some (cut_name ts) (λ (q : List ℕ × List Token). cut_mark 58 q.1 >>= (λ rest. Some (q.0, rest))) p e in
    let m = next_some (cut_mark 58 n.0.1) (λ rest. Some (n.0.0, rest)) p n.2 in
    let same = some_same (n.0.0, m.0) p m.2 in
    name_is ts n.0 n.1 ∙ ap (λ (r : List Token). name n.0.0 ∷ r) (mark_is 58 n.0.1 m.0 m.1) ∙ ap (λ (q : List ℕ × List Token). name q.0 ∷ mark 58 ∷ q.1) same

body_step : (ts : List Token) (label : Option (List ℕ)) (line : SourceLine) (t : Bool) → is_ended ts ≡ t → (if t then Some (record { label = label; statement = None }) else (statement_in ts >>= (λ s. Some (record { label = label; statement = Some s })))) ≡ Some line → ((ts ≡ []) × (record { label = label; statement = None } ≡ line)) ⊎ ((s : Statement) × IsOneOf ts (spellings s) × (record { label = label; statement = Some s } ≡ line))
body_step [] label line true f e = inl (refl, some_same _ line e)
body_step (t ∷ ts) label line true f e = cc
body_step ts label line false f e =
    let n = next_some (statement_in ts) (λ s. Some (record { label = label; statement = Some s })) line e in
    inr (n.0, reads_true ts n.0 n.1, some_same _ line n.2)

body_true : (ts : List Token) (label : Option (List ℕ)) (whole : List Token) (line : SourceLine) → whole ≡ label_tokens label ++ ts → body_in label ts ≡ Some line → AreLineTokens whole line
body_true ts label whole line w e =
    elim (body_step ts label line (is_ended ts) refl e) [
      | inl a ↦ subst (λ (l : SourceLine). AreLineTokens whole l) a.1 (ts, w, a.0)
      | inr b ↦ subst (λ (l : SourceLine). AreLineTokens whole l) b.2 (ts, w, b.1)
    ]

-- Tokens that are read as a line are that line.
pub line_true : (ts : List Token) (line : SourceLine) → line_in ts ≡ Some line → AreLineTokens ts line
unfolding line_in
line_true ts line e =
    elim (map_some (cut_label ts) (λ (p : List ℕ × List Token). body_in (Some p.0) p.1) (body_in None ts) line e) [
      | inl a ↦ body_true a.0.1 (Some a.0.0) ts line (label_is ts a.0 a.1) a.2
      | inr g ↦ body_true ts None ts line refl g
    ]
