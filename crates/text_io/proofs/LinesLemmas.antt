-- How octets split into lines.
use Rattle.std.proofs.Common.{◌≡◌, ◌≢◌, ℕ, suc, ◌<◌, ◌≤◌, true, false, nat_eq, List, [], ◌∷◌, ◌++◌, length, get_or, refl, ap, ◌∙◌, arith, if◌then◌else◌}
use Rattle.std.proofs.lemmas.Bool.{ne_eqb}
use Rattle.text_io.specs.Lines.{Line, lines_of, begun_with}

-- No octet is a line feed.
abbrev pub NoFeed : List ℕ → Type 0
NoFeed octets = (k : ℕ) → k < length octets → get_or octets k 0 ≢ 10

-- The octets after the first have none either.
pub no-feed-after : (octet : ℕ) (octets : List ℕ) → NoFeed (octet ∷ octets) → NoFeed octets
no-feed-after octet octets none k below = none (suc k) (omega arith)

pub first-no-feed : (octet : ℕ) (octets : List ℕ) → NoFeed (octet ∷ octets) → nat_eq octet 10 ≡ false
first-no-feed octet octets none = ne_eqb octet 10 (none 0 (omega arith))

-- Octets up to a line feed are the first line.
pub lines-at_feed : (line rest : List ℕ) → NoFeed line → lines_of (line ++ 10 ∷ rest) ≡ (record { octets = line; ended = true }) ∷ lines_of rest
lines-at_feed [] rest none = refl
lines-at_feed (c ∷ cs) rest none =
    ap (λ b. if b then (record { octets = []; ended = true }) ∷ lines_of (cs ++ 10 ∷ rest) else begun_with c (lines_of (cs ++ 10 ∷ rest))) (first-no-feed c cs none)
    ∙ ap (λ lines. begun_with c lines) (lines-at_feed cs rest (no-feed-after c cs none))

-- Octets without a line feed are the last line.
pub lines-of_last : (c : ℕ) (cs : List ℕ) → NoFeed (c ∷ cs) → lines_of (c ∷ cs) ≡ (record { octets = c ∷ cs; ended = false }) ∷ []
lines-of_last c [] none =
    ap (λ b. if b then (record { octets = []; ended = true }) ∷ [] else begun_with c []) (first-no-feed c [] none)
lines-of_last c (d ∷ ds) none =
    ap (λ b. if b then (record { octets = []; ended = true }) ∷ lines_of (d ∷ ds) else begun_with c (lines_of (d ∷ ds))) (first-no-feed c (d ∷ ds) none)
    ∙ ap (λ lines. begun_with c lines) (lines-of_last d ds (no-feed-after c (d ∷ ds) none))

-- The first line is at least as long as the prefix without a line feed.
pub record FirstLine (octets : List ℕ) (all : List ℕ) : Type 0 where
  pub line : Line
  pub lines : List Line
  pub cut : lines_of all ≡ line ∷ lines
  pub long : length octets ≤ length line.octets

begins-longer : (c : ℕ) (octets : List ℕ) (lines : List Line) → (line : Line) (more : List Line) → lines ≡ line ∷ more → length octets ≤ length line.octets
    → (line' : Line) × (more' : List Line) × (begun_with c lines ≡ line' ∷ more') × (length (c ∷ octets) ≤ length line'.octets)
begins-longer c octets lines line more is long =
    (record { octets = c ∷ line.octets; ended = line.ended }, more, ap (λ ls. begun_with c ls) is, omega arith)

begins : (c : ℕ) (lines : List Line) → (line' : Line) × (more' : List Line) × (begun_with c lines ≡ line' ∷ more') × (1 ≤ length line'.octets)
begins c [] = (record { octets = c ∷ []; ended = false }, [], refl, omega arith)
begins c (line ∷ lines) = (record { octets = c ∷ line.octets; ended = line.ended }, lines, refl, omega arith)

pub lines-first : (c : ℕ) (cs rest : List ℕ) → NoFeed (c ∷ cs) → FirstLine (c ∷ cs) ((c ∷ cs) ++ rest)
lines-first c [] rest none =
    let here = begins c (lines_of rest) in
    record {
      line = here.0;
      lines = here.1;
      cut = ap (λ b. if b then (record { octets = []; ended = true }) ∷ lines_of rest else begun_with c (lines_of rest)) (first-no-feed c [] none) ∙ here.2;
      long = here.3;
    }
lines-first c (d ∷ ds) rest none =
    let after = lines-first d ds rest (no-feed-after c (d ∷ ds) none) in
    let here = begins-longer c (d ∷ ds) (lines_of ((d ∷ ds) ++ rest)) after.line after.lines after.cut after.long in
    record {
      line = here.0;
      lines = here.1;
      cut = ap (λ b. if b then (record { octets = []; ended = true }) ∷ lines_of ((d ∷ ds) ++ rest) else begun_with c (lines_of ((d ∷ ds) ++ rest))) (first-no-feed c (d ∷ ds) none) ∙ here.2;
      long = here.3;
    }

pub lines-of_rest : (octets : List ℕ) → 0 < length octets → NoFeed octets → lines_of octets ≡ (record { octets = octets; ended = false }) ∷ []
lines-of_rest [] some none = absurd (omega arith)
lines-of_rest (c ∷ cs) some none = lines-of_last c cs none
