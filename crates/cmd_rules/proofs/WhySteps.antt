-- The line `cells`.
use Rattle.std.proofs.Common.{◌≡◌, ℕ, ◌+◌, ◌<◌, ◌≤◌, ◌==◌, Bool, true, false, List, [], ◌∷◌, ◌++◌, codes, drop, take, length, get_or, refl, sym, ap, subst, ◌∙◌, arith, append-nil, append_assoc}
use Rattle.std.proofs.lemmas.Bool.{eqb-true}
use Rattle.std.proofs.lemmas.List.{drop_all, drop_more, take_all, take_more}
use Rattle.std.specs.Str.{bytes_eq}
use Rattle.text_io.specs.Words.{is_silent, words_of}
use Rattle.cmd_rules.specs.WhyText.{are_cells, before_comment, says_cells}

-- ---- the octets before a comment

-- What is looked at so far has no comment.
abbrev pub IsLooked : List ℕ → ℕ → Type 0
IsLooked line at = (at ≤ length line) × (before_comment line ≡ take at line ++ before_comment (drop at line))

octet_first : (octet : ℕ) (rest : List ℕ) → (octet == 35) ≡ true → before_comment (octet ∷ rest) ≡ []
octet_first octet rest e = rw e refl

octet_passed : (octet : ℕ) (rest : List ℕ) → (octet == 35) ≡ false → before_comment (octet ∷ rest) ≡ octet ∷ before_comment rest
octet_passed octet rest e = rw e refl

pub looked_none : (line : List ℕ) → IsLooked line 0
looked_none line = (omega arith, refl)

pub looked_found : (line : List ℕ) (at : ℕ) → at < length line → IsLooked line at → (get_or line at 0 == 35) ≡ true → take at line ≡ before_comment line
looked_found line at lt looked found =
    let cut = drop_more line at 0 lt in
    sym (looked.1 ∙ ap (λ (rest : List ℕ). take at line ++ rest) (ap before_comment cut ∙ octet_first (get_or line at 0) (drop (at + 1) line) found) ∙ append-nil (take at line))

pub looked_more : (line : List ℕ) (at : ℕ) → at < length line → IsLooked line at → (get_or line at 0 == 35) ≡ false → IsLooked line (at + 1)
looked_more line at lt looked other =
    let cut = drop_more line at 0 lt in
    let octet = get_or line at 0 in
    let rest = before_comment (drop (at + 1) line) in (
      omega arith,
      looked.1 ∙ ap (λ (xs : List ℕ). take at line ++ xs) (ap before_comment cut ∙ octet_passed octet (drop (at + 1) line) other)
          ∙ sym (append_assoc (take at line) (octet ∷ []) rest) ∙ ap (λ (xs : List ℕ). xs ++ rest) (sym (take_more line at 0 lt)),
    )

pub looked_all : (line : List ℕ) (at : ℕ) → length line ≤ at → IsLooked line at → line ≡ before_comment line
looked_all line at le looked =
    sym (looked.1 ∙ ap (λ (xs : List ℕ). take at line ++ before_comment xs) (drop_all at line le) ∙ append-nil (take at line) ∙ take_all at line le)

-- ---- the line `cells`

pub one_word : (line cut word : List ℕ) (is : Bool) → cut ≡ before_comment line → words_of cut ≡ word ∷ [] → is ≡ bytes_eq word (codes "cells") → is ≡ says_cells line
unfolding says_cells
one_word line cut word is same words e =
    e ∙ ap are_cells (sym words) ∙ ap (λ (octets : List ℕ). are_cells (words_of octets)) same

no_remark : (octet : ℕ) (octets : List ℕ) → octet ≡ 35 → false ≡ bytes_eq (octet ∷ octets) (codes "cells")
no_remark octet octets e = subst (λ (o : ℕ). false ≡ bytes_eq (o ∷ octets) (codes "cells")) (sym e) refl

silent_words : (words : List (List ℕ)) → is_silent words ≡ true → false ≡ are_cells words
silent_words [] e = refl
silent_words ([] ∷ []) e = cc
silent_words ((octet ∷ octets) ∷ []) e = no_remark octet octets (eqb-true octet 35 e)
silent_words (word ∷ other ∷ words) e = refl

pub silent_line : (line cut : List ℕ) → cut ≡ before_comment line → is_silent (words_of cut) ≡ true → false ≡ says_cells line
unfolding says_cells
silent_line line cut same silent = silent_words (words_of cut) silent ∙ ap (λ (octets : List ℕ). are_cells (words_of octets)) same

several_words : (words : List (List ℕ)) (word other : List ℕ) (more : List (List ℕ)) → words ≡ word ∷ other ∷ more → false ≡ are_cells words
several_words words word other more e = ap are_cells (sym e)

pub several_line : (line cut word other : List ℕ) (more : List (List ℕ)) → cut ≡ before_comment line → words_of cut ≡ word ∷ other ∷ more → false ≡ says_cells line
unfolding says_cells
several_line line cut word other more same words = several_words (words_of cut) word other more words ∙ ap (λ (octets : List ℕ). are_cells (words_of octets)) same
