-- Held lines in terms of their marks.
use Rattle.std.proofs.Common.{◌≡◌, ◌≢◌, ℕ, zero, suc, ◌<◌, ◌==◌, not, true, false, Some, List, [], ◌∷◌, length, replicate, slice_get, slice_set, slice_index, refl, ap, arith}
use Rattle.std.proofs.lemmas.Grind.{common_steps}
use Rattle.line_record.specs.inner.FirstFree.{are_held}

-- If each mark is 0, no line is held.
pub are_held-free : (lines : ℕ) → are_held (replicate lines 0) ≡ replicate lines false
are_held-free zero = refl
are_held-free (suc lines) = ap (λ rest. false ∷ rest) (are_held-free lines)

-- A write of a mark makes its line held or free and leaves all others unchanged.
pub are_held-set : (marks : List ℕ) (line mark : ℕ) → are_held (slice_set marks line mark) ≡ slice_set (are_held marks) line (not (mark == 0))
are_held-set [] line mark = refl
are_held-set (first ∷ marks) zero mark = refl
are_held-set (first ∷ marks) (suc line) mark = ap (λ rest. not (first == 0) ∷ rest) (are_held-set marks line mark)

-- A line whose mark is not 0 is held.
pub are_held-held : (marks : List ℕ) (line : ℕ) → line < length marks → slice_index marks line ≢ 0 → slice_get (are_held marks) line ≡ Some true
are_held-held [] line within other = absurd (omega arith)
are_held-held (mark ∷ marks) zero within other = let no : mark ≢ 0 = other in grind (arith, common_steps)
are_held-held (first ∷ marks) (suc line) within other = are_held-held marks line (omega arith) other

-- A line whose mark is 0 is free.
pub are_held-here : (marks : List ℕ) (line : ℕ) → line < length marks → slice_index marks line ≡ 0 → slice_get (are_held marks) line ≡ Some false
are_held-here [] line within same = absurd (omega arith)
are_held-here (mark ∷ marks) zero within same = ap (λ (m : ℕ). Some (not (m == 0))) same
are_held-here (first ∷ marks) (suc line) within same = are_held-here marks line (omega arith) same

-- What a write of a mark does.
pub ruleset mark_steps = (are_held-set)
