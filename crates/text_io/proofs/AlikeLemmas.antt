-- Texts from worlds that are alike are equal.
use Rattle.std.proofs.Common.{◌≡◌, ℕ, ◌+◌, ◌<◌, Bool, true, false, List, [], ◌∷◌, ◌++◌, Option, Some, None, length, nat_le, nat_lt, refl, ap, sym, ◌∙◌, subst}
use Rattle.std.proofs.lemmas.Bool.{or_parts, leb-false}
use Rattle.std.specs.Bool.{MatchBool}
use Rattle.std.specs.Option.{MatchOption}
use Rattle.text_io.specs.Lines.{Line, line_content}
use Rattle.text_io.specs.Limits.{is_over, most_input_lines, most_line_octets}
use Rattle.text_io.specs.Printing.{Rules, IsFunctional, Prints}
use Rattle.text_io.specs.inner.Alike.{LeadAlike, KeepsAlike}
use Rattle.text_io.specs.declared.ending.Done.{Done}
use Rattle.text_io.specs.declared.ending.Done.TheVariants.{Ended}

-- A line within the limits has fewer than the maximum number of lines before it.
within : (met : ℕ) (line : Line) → is_over met line ≡ false → met < most_input_lines
within met line e = leb-false most_input_lines met (or_parts (nat_le most_input_lines met) (nat_lt most_line_octets (length line.octets)) e).0

pub one-text_alike : {World : Type 0} (rules : Rules World) (AreAlike : ℕ → World → World → Type 0) → KeepsAlike rules AreAlike
    → (lines : List Line) (met : ℕ) (one other : World) (text text' : List ℕ) (done done' : Done) → AreAlike met one other
    → Prints rules met one lines text done → Prints rules met other lines text' done' → (text ≡ text') × (done ≡ done')
one-text_alike rules AreAlike keeps [] met one other text text' done done' alike p q = keeps.close met one other text text' done done' alike p q
one-text_alike {World = World} rules AreAlike keeps (first ∷ lines) met one other text text' done done' alike p q =
    here (λ v w more more' is. one-text_alike rules AreAlike keeps lines (met + 1) v w more more' done done' is) (is_over met first) refl p q
  where
    Later : Type 0
    Later = (v w : World) (more more' : List ℕ) → AreAlike (met + 1) v w → Prints rules (met + 1) v lines more done
        → Prints rules (met + 1) w lines more' done' → (more ≡ more') × (done ≡ done')

    after : Later → (next next' : Option World) (more more' : List ℕ) → LeadAlike (AreAlike (met + 1)) next next'
        → MatchOption next ((more ≡ []) × (done ≡ Ended)) (λ v. Prints rules (met + 1) v lines more done)
        → MatchOption next' ((more' ≡ []) × (done' ≡ Ended)) (λ v. Prints rules (met + 1) v lines more' done') → (more ≡ more') × (done ≡ done')
    after later None None more more' is a b = (a.0 ∙ sym b.0, a.1 ∙ sym b.1)
    after later None (Some w) more more' is a b = absurd is
    after later (Some v) None more more' is a b = absurd is
    after later (Some v) (Some w) more more' is a b = later v w more more' is a b

    here : Later → (over : Bool) → is_over met first ≡ over
        → MatchBool over ((text ≡ rules.too_long) × (done ≡ Ended)) ((begun : List ℕ) × (more : List ℕ) × (next : Option World) × (text ≡ begun ++ more) × rules.steps one (line_content first) begun next
        × MatchOption next ((more ≡ []) × (done ≡ Ended)) (λ v. Prints rules (met + 1) v lines more done))
        → MatchBool over ((text' ≡ rules.too_long) × (done' ≡ Ended)) ((begun : List ℕ) × (more : List ℕ) × (next : Option World) × (text' ≡ begun ++ more) × rules.steps other (line_content first) begun next
        × MatchOption next ((more ≡ []) × (done' ≡ Ended)) (λ v. Prints rules (met + 1) v lines more done'))
        → (text ≡ text') × (done ≡ done')
    here later true e a b = (a.0 ∙ sym b.0, a.1 ∙ sym b.1)
    here later false e a b =
        let same = keeps.step met one other (line_content first) a.0 b.0 a.2 b.2 (within met first e) alike a.4 b.4 in
        let rest = after later a.2 b.2 a.1 b.1 same.1 a.5 b.5 in
        (a.3 ∙ ap (λ xs. xs ++ a.1) same.0 ∙ ap (λ xs. b.0 ++ xs) rest.0 ∙ sym b.3, rest.1)

-- With functional rules, each world is alike to itself only.
pub functional-alike : {World : Type 0} (rules : Rules World) → IsFunctional rules → KeepsAlike rules (λ met one other. one ≡ other)
functional-alike {World = World} rules functional = record {
  step = λ met one other line here here' next next' few same p q.
      let both = functional.step other line here here' next next' (subst (λ (w : World). rules.steps w line here next) same p) q in
      (both.0, leads next next' both.1);
  close = λ met one other here here' done done' same p q.
      functional.close other here here' done done' (subst (λ (w : World). rules.closes w here done) same p) q;
}
  where
    leads : (next next' : Option World) → next ≡ next' → LeadAlike (λ (one other : World). one ≡ other) next next'
    leads None None e = tt
    leads None (Some w) e = absurd (cc)
    leads (Some v) None e = absurd (cc)
    leads (Some v) (Some w) e = cc
