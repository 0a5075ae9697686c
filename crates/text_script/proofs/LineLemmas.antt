-- The first line of a text, and the lines after it.
use Rattle.std.proofs.Common.{◌≡◌, ◌≢◌, ℕ, suc, ◌<◌, List, [], ◌∷◌, ◌++◌, length, get_or, refl, ap, sym, subst, ◌∙◌, arith}
use Rattle.std.proofs.lemmas.List.Elements.{All-head, All-tail}
use Rattle.text_script.specs.Dealing.{IsOneLine, text_of, AreLinesOf}

-- No octet of the line is a line feed.
abbrev pub NoneBefore : List ℕ → List ℕ → Type 0
NoneBefore line octets = (k : ℕ) → k < length line → get_or octets k 0 ≢ 10

feed_at : (line rest : List ℕ) → get_or (line ++ 10 ∷ rest) (length line) 0 ≡ 10
feed_at [] rest = refl
feed_at (c ∷ cs) rest = feed_at cs rest

below_end : (line rest : List ℕ) → length line < length (line ++ 10 ∷ rest)
below_end [] rest = omega arith
below_end (c ∷ cs) rest = let later = below_end cs rest in omega (arith, later)

not_empty : (line rest : List ℕ) → [] ≡ line ++ 10 ∷ rest → ⊥
not_empty [] rest cut = let both : [] ≡ 10 ∷ rest = cut in cc
not_empty (c ∷ cs) rest cut = let both : [] ≡ c ∷ (cs ++ 10 ∷ rest) = cut in cc

-- The octets before the first line feed are one line.
same_line : (line rest other more : List ℕ) → NoneBefore line (line ++ 10 ∷ rest) → IsOneLine other
    → line ++ 10 ∷ rest ≡ other ++ 10 ∷ more → (line ≡ other) × (rest ≡ more)
same_line [] rest [] more none one cut = let both : 10 ∷ rest ≡ 10 ∷ more = cut in (refl, cc)
same_line [] rest (d ∷ ds) more none one cut =
    let both : 10 ∷ rest ≡ d ∷ (ds ++ 10 ∷ more) = cut in
    let feed : d ≡ 10 = cc in
    absurd (one 0 (omega arith) feed)
same_line (c ∷ cs) rest [] more none one cut =
    let both : c ∷ (cs ++ 10 ∷ rest) ≡ 10 ∷ more = cut in
    let feed : c ≡ 10 = cc in
    absurd (none 0 (omega arith) feed)
same_line (c ∷ cs) rest (d ∷ ds) more none one cut =
    let both : c ∷ (cs ++ 10 ∷ rest) ≡ d ∷ (ds ++ 10 ∷ more) = cut in
    let later : cs ++ 10 ∷ rest ≡ ds ++ 10 ∷ more = cc in
    let left = same_line cs rest ds more (λ k below. none (suc k) (omega (arith, below))) (λ k below. one (suc k) (omega (arith, below))) later in
    let first : c ≡ d = cc in
    let lines : cs ≡ ds = left.0 in
    (cc, left.1)

-- The first line is the octets before the first line feed, and the others are the lines of the octets after it.
pub record StartsWith (line rest : List ℕ) (lines : List (List ℕ)) : Type 0 where
  pub others : List (List ℕ)
  pub all : lines ≡ line ∷ others
  pub left : AreLinesOf rest others

pub starts_with : (line rest octets : List ℕ) (lines : List (List ℕ)) → octets ≡ line ++ 10 ∷ rest → NoneBefore line octets
    → AreLinesOf octets lines → StartsWith line rest lines
starts_with line rest octets [] cut none are = absurd (not_empty line rest (sym are.text ∙ cut))
starts_with line rest octets (first ∷ others) cut none are =
    let P : List ℕ → Type 0 = λ xs. NoneBefore line xs in
    let same = same_line line rest first (text_of others) (subst P cut none) (All-head IsOneLine first others are.each) (sym cut ∙ are.text) in
    record {
      others = others;
      all = ap (λ l. l ∷ others) (sym same.0);
      left = record { text = same.1; each = All-tail IsOneLine first others are.each };
    }

-- Octets without a line feed are the text of no lines.
pub no_lines : (octets : List ℕ) (lines : List (List ℕ)) → NoneBefore octets octets → AreLinesOf octets lines → lines ≡ []
no_lines octets [] none are = refl
no_lines octets (first ∷ others) none are =
    let P : List ℕ → Type 0 = λ xs. NoneBefore xs xs in
    let without = subst P are.text none in
    absurd (without (length first) (below_end first (text_of others)) (feed_at first (text_of others)))
