-- Tokens that are read as a statement are one of its spellings.
use Rattle.std.proofs.Common.{◌≡◌, ℕ, List, ◌∷◌, Some, refl, inl, inr}
use Rattle.bpf_asm.specs.Grammar.{IsOneOf}
use Rattle.bpf_asm.specs.inner.Reading.{arithmetic_in, branch_in, branch_or, cut_name, form_of, inverse_in, inverse_of, inverse_or, moved_in, named_in, op_of, other_in, statement_in, branch_named}
use Rattle.bpf_asm.specs.StatementSpelling.{Statement, spellings}
use Rattle.bpf_asm.specs.Tokens.{Token, name}
use Rattle.bpf_asm.proofs.cuts.TokenCuts.{next_some, else_some, map_some, name_is}
use Rattle.bpf_asm.proofs.spellings.FormSpellings.{at_row, Named}
use Rattle.bpf_asm.proofs.spellings.NameSpellings.{op_sound, test_sound, inverse_named, moved_sound, other_sound}

named_sound : (octets : List ℕ) (ts : List Token) (s : Statement) → named_in octets ts ≡ Some s → Named octets ts s
unfolding named_in
named_sound octets ts s e =
    elim (map_some (op_of octets) (λ op. arithmetic_in op ts) (branch_or octets ts) s e) [
      | inl a ↦ op_sound octets ts s a.0 a.1 a.2
      | inr f ↦ elim (map_some (branch_named octets) (λ test. branch_in test ts) (inverse_or octets ts) s f) [
        | inl a ↦ test_sound octets ts s a.0 a.1 a.2
        | inr g ↦ elim (map_some (inverse_of octets) (λ test. inverse_in test ts) (form_of octets ts) s g) [
          | inl a ↦ inverse_named octets ts s a.0 a.1 a.2
          | inr h ↦ elim (else_some (moved_in octets ts) (other_in octets ts) s h) [
            | inl a ↦ moved_sound octets ts s a
            | inr a ↦ other_sound octets ts s a
          ]
        ]
      ]
    ]

-- Tokens that are read as a statement are one of its spellings.
pub reads_true : (ts : List Token) (s : Statement) → statement_in ts ≡ Some s → IsOneOf ts (spellings s)
unfolding statement_in
reads_true ts s e =
    let n = next_some (cut_name ts) (λ (p : List ℕ × List Token). named_in p.0 p.1) s e in
    at_row ts (name n.0.0 ∷ n.0.1) s s (name_is ts n.0 n.1) refl (named_sound n.0.0 n.0.1 s n.2)
