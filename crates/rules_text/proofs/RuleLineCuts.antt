-- A text is its first line of rules and the rest.
use Rattle.std.proofs.Common.{◌≡◌, ◌<◌, ℕ, zero, suc, ◌==◌, Bool, true, false, if◌then◌else◌, List, [], ◌∷◌, ◌++◌, length, take, drop, refl, sym, ap, ◌∙◌, arith, take-append-drop}
use Rattle.std.proofs.lemmas.Bool.{eqb-true}
use Rattle.rules_text.specs.ContinuedLines.{Enclosing, around_next, ends_rule_line, first_begun_with, lines_going_on, nothing_around, rule_lines}
use Rattle.rules_text.specs.inner.SeenLines.{line_size}

-- The lines of octets are those that the first has, and the lines of the rest.
first_and_rest : (around : Enclosing) (octet : ℕ) (text : List ℕ)
    → lines_going_on around (octet ∷ text)
    ≡ take (line_size around (octet ∷ text)) (octet ∷ text) ∷ lines_going_on nothing_around (drop (line_size around (octet ∷ text)) (octet ∷ text))
unfolding lines_going_on line_size
first_and_rest around octet [] = alone (ends_rule_line around octet [])
  where
    alone : (ends : Bool)
        → (if ends then (octet ∷ []) ∷ [] else first_begun_with octet [])
        ≡ take (if ends then 1 else 1) (octet ∷ []) ∷ lines_going_on nothing_around (drop (if ends then 1 else 1) (octet ∷ []))
    alone true = refl
    alone false = refl
first_and_rest around octet (next ∷ rest) = cut (ends_rule_line around octet (next ∷ rest)) (first_and_rest (around_next around octet) next rest)
  where
    size : ℕ
    size = line_size (around_next around octet) (next ∷ rest)

    cut : (ends : Bool)
        → lines_going_on (around_next around octet) (next ∷ rest) ≡ take size (next ∷ rest) ∷ lines_going_on nothing_around (drop size (next ∷ rest))
        → (if ends
        then (octet ∷ []) ∷ lines_going_on nothing_around (next ∷ rest)
        else first_begun_with octet (lines_going_on (around_next around octet) (next ∷ rest)))
        ≡ take (if ends then 1 else suc size) (octet ∷ next ∷ rest) ∷ lines_going_on nothing_around (drop (if ends then 1 else suc size) (octet ∷ next ∷ rest))
    cut true later = refl
    cut false later = ap (first_begun_with octet) later

-- The first line of rules ends at this octet.
pub rule_cut : (text : List ℕ) (at : ℕ) → at ≡ line_size nothing_around text → 0 < length text
    → rule_lines text ≡ take at text ∷ rule_lines (drop at text)
unfolding rule_lines
rule_cut [] at e h = absurd (omega arith)
rule_cut (octet ∷ rest) at e h = rw e (first_and_rest nothing_around octet rest)

-- An empty text has no line.
pub rule_none : (text : List ℕ) → length text ≡ 0 → rule_lines text ≡ []
unfolding rule_lines lines_going_on
rule_none [] h = refl
rule_none (octet ∷ rest) h = absurd (omega arith)

some_octets : (around : Enclosing) (octet : ℕ) (text : List ℕ) → 0 < line_size around (octet ∷ text)
unfolding line_size
some_octets around octet text = more (ends_rule_line around octet text)
  where
    more : (ends : Bool) → 0 < (if ends then 1 else suc (line_size (around_next around octet) text))
    more true = omega arith
    more false = omega arith

-- A line of rules has an octet.
pub line_some : (text : List ℕ) (at : ℕ) → at ≡ line_size nothing_around text → 0 < length text → 0 < at
line_some [] at e h = absurd (omega arith)
line_some (octet ∷ rest) at e h = rw e (some_octets nothing_around octet rest)

-- A text whose first line of rules this is: the octets of the line, and the rest.
pub record IsCutAt (text line : List ℕ) (later : List (List ℕ)) : Type 0 where
  pub rest : List ℕ
  pub parts : text ≡ line ++ rest
  pub goes_on : rule_lines rest ≡ later

abbrev first_is : List (List ℕ) → List ℕ
first_is [] = []
first_is (line ∷ lines) = line

abbrev later_are : List (List ℕ) → List (List ℕ)
later_are [] = []
later_are (line ∷ lines) = lines

-- The first line of rules and the rest are the text.
pub cut_at : (text line : List ℕ) (later : List (List ℕ)) → rule_lines text ≡ line ∷ later → IsCutAt text line later
cut_at [] line later e = let none : [] ≡ line ∷ later = sym (rule_none [] refl) ∙ e in cc
cut_at (octet ∷ text) line later e =
    let at = line_size nothing_around (octet ∷ text) in
    let whole = octet ∷ text in
    let same : take at whole ∷ rule_lines (drop at whole) ≡ line ∷ later = sym (rule_cut whole at refl (omega arith)) ∙ e in
    record {
      rest = drop at whole;
      parts = sym (take-append-drop at whole) ∙ ap (λ (ls : List (List ℕ)). first_is ls ++ drop at whole) same;
      goes_on = ap later_are same;
    }

-- A text that isn't empty has octets.
pub has_some : (count : ℕ) (empty : Bool) → empty ≡ (count == 0) → empty ≡ false → 0 < count
has_some zero empty e f = let both : true ≡ false = sym e ∙ f in cc
has_some (suc count) empty e f = omega arith

-- An empty text has none.
pub has_none : (count : ℕ) (empty : Bool) → empty ≡ (count == 0) → empty ≡ true → count ≡ 0
has_none count empty e f = eqb-true count 0 (sym e ∙ f)
