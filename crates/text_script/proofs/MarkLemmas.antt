-- How a word is cut at its first mark.
use Rattle.std.proofs.Common.{◌≡◌, ℕ, zero, suc, ◌+◌, ◌-◌, ◌<◌, ◌==◌, Bool, true, false, if◌then◌else◌, List, [], ◌∷◌, Option, Some, None, length, get_or, take, drop, refl, ap, sym, ◌∙◌, arith, option_map}
use Rattle.std.proofs.lemmas.List.{take_rest}
use Rattle.text_script.specs.ScriptWords.{cut_at}

abbrev Cut : Type 0
Cut = List ℕ × List ℕ

-- There is no mark.
pub uncut : (mark : ℕ) (text : List ℕ) → ((k : ℕ) → k < length text → (get_or text k 0 == mark) ≡ false) → cut_at mark text ≡ None
unfolding cut_at
uncut mark [] none = refl
uncut mark (octet ∷ octets) none =
    let rest = uncut mark octets (λ k below. none (suc k) (omega arith)) in
    ap (λ b. if b then Some ([], octets) else option_map (λ (c : Cut). (octet ∷ c.0, c.1)) (cut_at mark octets)) (none 0 (omega arith))
    ∙ ap (λ o. option_map (λ (c : Cut). (octet ∷ c.0, c.1)) o) rest

-- The first mark.
cut-first : (mark : ℕ) (text : List ℕ) (place : ℕ) → place < length text → (get_or text place 0 == mark) ≡ true
    → ((k : ℕ) → k < place → (get_or text k 0 == mark) ≡ false) → cut_at mark text ≡ Some (take place text, drop (suc place) text)
unfolding cut_at
cut-first mark [] place within here before = absurd (omega arith)
cut-first mark (octet ∷ octets) zero within here before =
    ap (λ b. if b then Some ([], octets) else option_map (λ (c : Cut). (octet ∷ c.0, c.1)) (cut_at mark octets)) here
cut-first mark (octet ∷ octets) (suc place) within here before =
    let rest = cut-first mark octets place (omega arith) here (λ k below. before (suc k) (omega arith)) in
    ap (λ b. if b then Some ([], octets) else option_map (λ (c : Cut). (octet ∷ c.0, c.1)) (cut_at mark octets)) (before 0 (omega arith))
    ∙ ap (λ o. option_map (λ (c : Cut). (octet ∷ c.0, c.1)) o) rest

pub cut_there : (mark : ℕ) (text : List ℕ) (place : ℕ) → place < length text → (get_or text place 0 == mark) ≡ true
    → ((k : ℕ) → k < place → (get_or text k 0 == mark) ≡ false)
    → Some (take place text, take (length text - (place + 1)) (drop (place + 1) text)) ≡ cut_at mark text
cut_there mark text place within here before =
    let more : suc place ≡ place + 1 = omega arith in
    let P : List ℕ → Option Cut = λ xs. Some (take place text, xs) in
    ap P (take_rest text (place + 1)) ∙ ap (λ n. P (drop n text)) (sym more) ∙ sym (cut-first mark text place within here before)

pub not_true : (b : Bool) → (b ≡ true → ⊥) → b ≡ false
not_true true h = absurd (h refl)
not_true false h = refl
