-- Some label is the first that no instruction follows, or there is none.
use Rattle.std.proofs.Common.{◌≡◌, ◌⊎◌, ℕ, zero, suc, ◌<◌, List, [], ◌∷◌, Option, Some, None, refl, sym, ap, ◌∙◌, inl, inr, arith}
use Rattle.bpf_asm.specs.Grammar.{SourceLine}
use Rattle.bpf_asm.specs.Labels.{IsDangling, statements_of}
use Rattle.bpf_asm.specs.inner.Pending.{IsPending}
use Rattle.bpf_asm.specs.StatementSpelling.{Statement}
use Rattle.bpf_asm.proofs.drafts.Agreement.{no_name, some_line}

-- There is a statement, or there is none.
none-or_some : (ss : List Statement) → (ss ≡ []) ⊎ ¬ (ss ≡ [])
none-or_some [] = inl refl
none-or_some (s ∷ ss) = inr (λ e. cc)

-- An instruction follows the first line's label, or none does.
first_dangles : (line : SourceLine) (lines : List SourceLine) (label : Option (List ℕ)) → line.label ≡ label → IsDangling (line ∷ lines) 0 ⊎ ¬ IsDangling (line ∷ lines) 0
first_dangles line lines None none = inr (λ d. no_name d.0 (sym d.1.2 ∙ sym (ap (λ (l : SourceLine). l.label) (some_line line d.1.0 d.1.1)) ∙ none))
first_dangles line lines (Some label) named =
    elim (none-or_some (statements_of (line ∷ lines))) [
      | inl none ↦ inl (label, (line, refl, named), none)
      | inr some ↦ inr (λ d. some d.2)
    ]

-- The first label that no instruction follows, or none.
pub dangling-or_none : (lines : List SourceLine) → (pending : Option ℕ) × IsPending lines pending
dangling-or_none [] = (None, λ at d. cc)
dangling-or_none (line ∷ lines) =
    elim (first_dangles line lines line.label refl) [
      | inl first ↦ (Some 0, (omega arith, first, λ earlier h. absurd (omega arith)))
      | inr not ↦ after not (dangling-or_none lines)
    ]
  where
    none_after : ¬ IsDangling (line ∷ lines) 0 → ((at : ℕ) → ¬ IsDangling lines at) → (at : ℕ) → ¬ IsDangling (line ∷ lines) at
    none_after not none zero d = not d
    none_after not none (suc at) d = none at d

    none_before : (at : ℕ) → ¬ IsDangling (line ∷ lines) 0 → ((earlier : ℕ) → earlier < at → ¬ IsDangling lines earlier) → (earlier : ℕ) → earlier < suc at → ¬ IsDangling (line ∷ lines) earlier
    none_before at not none zero h d = not d
    none_before at not none (suc earlier) h d = none earlier (omega arith) d

    after : ¬ IsDangling (line ∷ lines) 0 → ((pending : Option ℕ) × IsPending lines pending) → (pending : Option ℕ) × IsPending (line ∷ lines) pending
    after not (None, none) = (None, none_after not none)
    after not (Some at, p) = (Some (suc at), (omega (arith, p.0), p.1, none_before at not p.2))
