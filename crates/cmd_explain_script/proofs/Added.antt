-- Three texts, one after another.
use Rattle.std.proofs.Common.{◌≡◌, ℕ, List, ◌++◌, ap, ◌∙◌, append_assoc}

pub three-added : (old first second new one two three : List ℕ) → first ≡ old ++ one → second ≡ first ++ two → new ≡ second ++ three
    → new ≡ old ++ (one ++ (two ++ three))
three-added old first second new one two three p q r =
    r ∙ ap (λ (xs : List ℕ). xs ++ three) (q ∙ ap (λ (xs : List ℕ). xs ++ two) p) ∙ append_assoc (old ++ one) two three ∙ append_assoc old one (two ++ three)
