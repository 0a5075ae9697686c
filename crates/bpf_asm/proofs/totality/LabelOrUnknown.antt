-- A label names a place, or no line has it.
use Rattle.std.proofs.Common.{◌≡◌, ◌⊎◌, ℕ, zero, suc, Bool, true, false, List, [], ◌∷◌, length, Option, Some, None, refl, sym, ap, ◌∙◌, inl, inr}
use Rattle.std.specs.Str.{bytes_eq}
use Rattle.std.proofs.lemmas.Slice.Eq.{bytes_eq-Decides}
use Rattle.bpf_asm.specs.Grammar.{SourceLine}
use Rattle.bpf_asm.specs.Labels.{HasLabel, NamesPlace, statements_of}
use Rattle.bpf_asm.proofs.drafts.Agreement.{some_line, some_name}

-- The label is this name, or it isn't.
named_by : (label : Option (List ℕ)) (name : List ℕ) → (label ≡ Some name) ⊎ ¬ (label ≡ Some name)
named_by None name = inr (λ e. cc)
named_by (Some label) name = by_test (bytes_eq label name) refl
  where
    by_test : (t : Bool) → bytes_eq label name ≡ t → (Some label ≡ Some name) ⊎ ¬ (Some label ≡ Some name)
    by_test true h = let same = (bytes_eq-Decides label name).0 h in inl (ap (λ (n : List ℕ). Some n) same)
    by_test false h = inr (λ e.
        let same = (bytes_eq-Decides label name).1 (some_name label name e) in
        let both : true ≡ false = sym same ∙ h in
        cc)

-- If neither the first nor another line has the name, no line has it.
no_label : (line : SourceLine) (lines : List SourceLine) (name : List ℕ) → ¬ (line.label ≡ Some name) → ((at : ℕ) → ¬ HasLabel lines at name) → (at : ℕ) → ¬ HasLabel (line ∷ lines) at name
no_label line lines name not none zero h = not (ap (λ (l : SourceLine). l.label) (some_line line h.0 h.1) ∙ h.2)
no_label line lines name not none (suc at) h = none at h

-- There is no statement before the first line.
none_before : 0 ≡ length (statements_of [])
unfolding statements_of
none_before = refl

-- A label names a place, or no line has it.
pub holds-or_unknown : (lines : List SourceLine) (name : List ℕ) → ((place : ℕ) × NamesPlace lines name place) ⊎ ((at : ℕ) → ¬ HasLabel lines at name)
holds-or_unknown [] name = inr (λ at h. cc)
holds-or_unknown (line ∷ lines) name =
    elim (named_by line.label name) [
      | inl named ↦ inl (0, record { before = []; here = line; after = lines; split = refl; named = named; counted = none_before })
      | inr not ↦ elim (holds-or_unknown lines name) [
        | inr none ↦ inr (no_label line lines name not none)
        | inl found ↦
            let s = found.1 in
            inl (
              length (statements_of (line ∷ s.before)),
              record {
                before = line ∷ s.before;
                here = s.here;
                after = s.after;
                split = ap (λ (ls : List SourceLine). line ∷ ls) s.split;
                named = s.named;
                counted = refl;
              },
            )
      ]
    ]
