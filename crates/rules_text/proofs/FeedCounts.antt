-- The line feeds of a text are counted as its lines are.
use Rattle.std.proofs.Common.{◌≡◌, ℕ, ◌+◌, ◌==◌, Bool, true, false, if◌then◌else◌, List, [], ◌∷◌, ◌++◌, length, map, refl, ap, ◌∙◌, arith}
use Rattle.std.proofs.lemmas.List.{length-map, map-append}
use Rattle.bpf_asm.specs.SourceLines.{source_lines}
use Rattle.text_io.specs.Lines.{Line, begun_with, line_content, lines_of}
use Rattle.rules_text.specs.ContinuedLines.{feed_count}

-- The line feeds of two parts.
pub feeds_joined : (one other : List ℕ) → feed_count (one ++ other) ≡ feed_count one + feed_count other
unfolding feed_count
feeds_joined [] other = omega arith
feeds_joined (octet ∷ one) other = more (octet == 10) (feeds_joined one other)
  where
    more : (feed : Bool) → feed_count (one ++ other) ≡ feed_count one + feed_count other
        → (if feed then feed_count (one ++ other) + 1 else feed_count (one ++ other)) ≡ (if feed then feed_count one + 1 else feed_count one) + feed_count other
    more true e = omega (arith, e)
    more false e = e

begun_length : (octet : ℕ) (lines : List Line) (n : ℕ) → length lines ≡ n + 1 → length (begun_with octet lines) ≡ n + 1
begun_length octet [] n e = absurd (omega (arith, e))
begun_length octet (line ∷ lines) n e = e

-- Octets that end with a line feed have a line for each line feed.
pub lines_fed : (front : List ℕ) → length (lines_of (front ++ 10 ∷ [])) ≡ feed_count front + 1
unfolding feed_count
lines_fed [] = refl
lines_fed (octet ∷ front) = more (octet == 10) (lines_fed front)
  where
    more : (feed : Bool) → length (lines_of (front ++ 10 ∷ [])) ≡ feed_count front + 1
        → length (if feed then (record { octets = []; ended = true }) ∷ lines_of (front ++ 10 ∷ []) else begun_with octet (lines_of (front ++ 10 ∷ [])))
        ≡ (if feed then feed_count front + 1 else feed_count front) + 1
    more true e = omega (arith, e)
    more false e = begun_length octet (lines_of (front ++ 10 ∷ [])) (feed_count front) e

begun_joined : (octet : ℕ) (lines more : List Line) (n : ℕ) → length lines ≡ n + 1 → begun_with octet (lines ++ more) ≡ begun_with octet lines ++ more
begun_joined octet [] more n e = absurd (omega (arith, e))
begun_joined octet (line ∷ lines) more n e = refl

fed_apart : (front rest : List ℕ) → lines_of (front ++ 10 ∷ rest) ≡ lines_of (front ++ 10 ∷ []) ++ lines_of rest
fed_apart [] rest = refl
fed_apart (octet ∷ front) rest = more (octet == 10) (fed_apart front rest)
  where
    more : (feed : Bool) → lines_of (front ++ 10 ∷ rest) ≡ lines_of (front ++ 10 ∷ []) ++ lines_of rest
        → (if feed then (record { octets = []; ended = true }) ∷ lines_of (front ++ 10 ∷ rest) else begun_with octet (lines_of (front ++ 10 ∷ rest)))
        ≡ (if feed then (record { octets = []; ended = true }) ∷ lines_of (front ++ 10 ∷ []) else begun_with octet (lines_of (front ++ 10 ∷ []))) ++ lines_of rest
    more true e = ap (λ (lines : List Line). (record { octets = []; ended = true }) ∷ lines) e
    more false e = ap (begun_with octet) e ∙ begun_joined octet (lines_of (front ++ 10 ∷ [])) (lines_of rest) (feed_count front) (lines_fed front)

-- After a line feed no source line is cut.
pub lines_apart : (front rest : List ℕ) → source_lines (front ++ 10 ∷ rest) ≡ source_lines (front ++ 10 ∷ []) ++ source_lines rest
unfolding source_lines
lines_apart front rest = ap (map line_content) (fed_apart front rest) ∙ map-append line_content (lines_of (front ++ 10 ∷ [])) (lines_of rest)

-- Up to a line feed there is a source line for each.
pub lines_counted : (front : List ℕ) → length (source_lines (front ++ 10 ∷ [])) ≡ feed_count front + 1
unfolding source_lines
lines_counted front = length-map (lines_of (front ++ 10 ∷ [])) line_content ∙ lines_fed front
