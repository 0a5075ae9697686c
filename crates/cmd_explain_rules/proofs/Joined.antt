-- Texts that are appended one after the other are appended as one.
use Rattle.std.proofs.Common.{◌≡◌, ℕ, List, ◌++◌, ap, ◌∙◌, append_assoc}

pub joined_two : (before one two first second : List ℕ) → first ≡ before ++ one → second ≡ first ++ two → second ≡ before ++ (one ++ two)
joined_two before one two first second e f = f ∙ ap (λ (xs : List ℕ). xs ++ two) e ∙ append_assoc before one two

pub joined_three : (before one two three first second third : List ℕ) → first ≡ before ++ one → second ≡ first ++ two → third ≡ second ++ three
    → third ≡ before ++ (one ++ (two ++ three))
joined_three before one two three first second third e f g =
    joined_two before one (two ++ three) first third e (joined_two first two three second third f g)

pub joined_four : (before one two three four first second third fourth : List ℕ) → first ≡ before ++ one → second ≡ first ++ two → third ≡ second ++ three
    → fourth ≡ third ++ four → fourth ≡ before ++ (one ++ (two ++ (three ++ four)))
joined_four before one two three four first second third fourth e f g h =
    joined_two before one (two ++ (three ++ four)) first fourth e (joined_three first two three four second third fourth f g h)
