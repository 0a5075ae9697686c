-- Texts that grow part by part.
use Rattle.std.proofs.Common.{◌≡◌, ℕ, List, ◌++◌, ◌∙◌, ap, append_assoc}

pub three_grow : (old a b d one two new : List ℕ) → one ≡ old ++ a → two ≡ one ++ b → new ≡ two ++ d → new ≡ old ++ (a ++ (b ++ d))
three_grow old a b d one two new first second third =
    third ∙ ap (λ xs. xs ++ d) (second ∙ ap (λ xs. xs ++ b) first) ∙ append_assoc (old ++ a) b d ∙ append_assoc old a (b ++ d)

pub four_grow : (old a b d e one two three new : List ℕ) → one ≡ old ++ a → two ≡ one ++ b → three ≡ two ++ d → new ≡ three ++ e
    → new ≡ old ++ (a ++ (b ++ (d ++ e)))
four_grow old a b d e one two three new first second third fourth =
    fourth ∙ ap (λ xs. xs ++ e) (three_grow old a b d one two three first second third)
    ∙ append_assoc old (a ++ (b ++ d)) e ∙ ap (λ xs. old ++ xs) (append_assoc a (b ++ d) e ∙ ap (λ xs. a ++ xs) (append_assoc b d e))
