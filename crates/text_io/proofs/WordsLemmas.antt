-- How a line is split at its first blank.
use Rattle.std.proofs.Common.{◌≡◌, ℕ, suc, ◌+◌, ◌-◌, ◌<◌, Bool, true, false, List, [], ◌∷◌, ◌++◌, length, get_or, take, drop, refl, ap, sym, ◌∙◌, subst, arith, if◌then◌else◌, filter, inl, inr}
use Rattle.std.proofs.lemmas.Bool.{cases_lt}
use Rattle.std.proofs.lemmas.List.{take-append-drop, drop_more, length-take, get_or-take, take_rest}
use Rattle.text_io.specs.Words.{is_blank, part_begun_with, parts_of, is_filled, words_of}

-- No octet is a blank.
abbrev pub NoBlank : List ℕ → Type 0
NoBlank octets = (k : ℕ) → k < length octets → is_blank (get_or octets k 0) ≡ false

pub false-of : (b : Bool) → (b ≡ true → ⊥) → b ≡ false
false-of true h = absurd (h refl)
false-of false h = refl

after : (c : ℕ) (cs : List ℕ) → NoBlank (c ∷ cs) → NoBlank cs
after c cs none k below = none (suc k) (omega arith)

parts-at_blank : (word rest : List ℕ) (b : ℕ) → NoBlank word → is_blank b ≡ true → parts_of (word ++ b ∷ rest) ≡ word ∷ parts_of rest
parts-at_blank [] rest b none blank = ap (λ t. if t then [] ∷ parts_of rest else part_begun_with b (parts_of rest)) blank
parts-at_blank (c ∷ cs) rest b none blank =
    ap (λ t. if t then [] ∷ parts_of (cs ++ b ∷ rest) else part_begun_with c (parts_of (cs ++ b ∷ rest))) (none 0 (omega arith))
    ∙ ap (λ parts. part_begun_with c parts) (parts-at_blank cs rest b (after c cs none) blank)

parts-of_word : (word : List ℕ) → NoBlank word → parts_of word ≡ word ∷ []
parts-of_word [] none = refl
parts-of_word (c ∷ cs) none =
    ap (λ t. if t then [] ∷ parts_of cs else part_begun_with c (parts_of cs)) (none 0 (omega arith))
    ∙ ap (λ parts. part_begun_with c parts) (parts-of_word cs (after c cs none))

filled-first : (word : List ℕ) (parts : List (List ℕ)) → 0 < length word → filter is_filled (word ∷ parts) ≡ word ∷ filter is_filled parts
filled-first [] parts some = absurd (omega arith)
filled-first (c ∷ cs) parts some = refl

pub words-at_blank : (word rest : List ℕ) (b : ℕ) → 0 < length word → NoBlank word → is_blank b ≡ true → words_of (word ++ b ∷ rest) ≡ word ∷ words_of rest
words-at_blank word rest b some none blank = ap (λ parts. filter is_filled parts) (parts-at_blank word rest b none blank) ∙ filled-first word (parts_of rest) some

pub words-of_word : (word : List ℕ) → 0 < length word → NoBlank word → words_of word ≡ word ∷ []
words-of_word word some none = ap (λ parts. filter is_filled parts) (parts-of_word word none) ∙ filled-first word [] some

-- If the first octet is no blank, a blank has a place above 0.
later-first : (line : List ℕ) (end : ℕ) → is_blank (get_or line 0 0) ≡ false → is_blank (get_or line end 0) ≡ true → 0 < end
later-first line end first blank =
    elim (cases_lt 0 end) [
      | inl lt ↦ lt
      | inr le ↦
          let zero : end ≡ 0 = omega arith in
          let P : ℕ → Type 0 = λ n. is_blank (get_or line n 0) ≡ true in
          let both : true ≡ false = sym (subst P zero blank) ∙ first in cc
    ]

-- If the line doesn't begin with a blank, the first blank ends its first word.
pub words-cut : (line : List ℕ) (end : ℕ) → end < length line → is_blank (get_or line 0 0) ≡ false → is_blank (get_or line end 0) ≡ true
    → ((k : ℕ) → k < end → is_blank (get_or line k 0) ≡ false)
    → words_of line ≡ take end line ∷ words_of (take (length line - (end + 1)) (drop (end + 1) line))
words-cut line end within first blank before =
    let whole : line ≡ take end line ++ get_or line end 0 ∷ drop (end + 1) line =
    sym (take-append-drop end line) ∙ ap (λ xs. take end line ++ xs) (drop_more line end 0 within) in
    let some : 0 < length (take end line) = omega (arith, length-take end line, later-first line end first blank) in
    let none : NoBlank (take end line) = λ k below.
    let lower : k < end = omega (arith, length-take end line) in
    ap is_blank (get_or-take end line k 0 lower) ∙ before k lower in
    ap words_of whole ∙ words-at_blank (take end line) (drop (end + 1) line) (get_or line end 0) some none blank
    ∙ ap (λ xs. take end line ∷ words_of xs) (sym (take_rest line (end + 1)))
