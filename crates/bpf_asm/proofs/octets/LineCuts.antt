-- A text is its first line and the rest.
use Rattle.std.proofs.Common.{◌≡◌, ℕ, ◌+◌, ◌<◌, true, false, not, ◌==◌, List, [], ◌∷◌, ◌++◌, length, map, get_or, take, drop, refl, sym, ap, ◌∙◌, arith, take-append-drop}
use Rattle.std.proofs.lemmas.Bool.{and_parts, not-true}
use Rattle.std.proofs.lemmas.List.{drop_all, drop_more, take_all}
use Rattle.bpf_asm.specs.SourceLines.{source_lines}
use Rattle.bpf_asm.specs.inner.Feeds.{no_feed}
use Rattle.text_io.specs.Lines.{begun_with, lines_of, line_content, without_return}

ended : (line rest : List ℕ) → no_feed line ≡ true → lines_of (line ++ 10 ∷ rest) ≡ (record { octets = line; ended = true }) ∷ lines_of rest
ended [] rest n = refl
ended (octet ∷ line) rest n =
    let both = and_parts (not (octet == 10)) (no_feed line) n in
    rw (not-true _ both.0) (ap (begun_with octet) (ended line rest both.1))

last : (octet : ℕ) (line : List ℕ) → no_feed (octet ∷ line) ≡ true → lines_of (octet ∷ line) ≡ (record { octets = octet ∷ line; ended = false }) ∷ []
last octet [] n =
    let both = and_parts (not (octet == 10)) true n in
    rw (not-true _ both.0) refl
last octet (next ∷ line) n =
    let both = and_parts (not (octet == 10)) (no_feed (next ∷ line)) n in
    rw (not-true _ both.0) (ap (begun_with octet) (last next line both.1))

-- A line that ends with a line feed.
pub line_ended : (line rest : List ℕ) → no_feed line ≡ true → source_lines (line ++ 10 ∷ rest) ≡ without_return line ∷ source_lines rest
unfolding source_lines
line_ended line rest n = ap (map line_content) (ended line rest n)

-- The last line, without a line feed.
pub line_last : (line : List ℕ) → 0 < length line → no_feed line ≡ true → source_lines line ≡ line ∷ []
unfolding source_lines
line_last [] h n = absurd (omega arith)
line_last (octet ∷ line) h n = ap (map line_content) (last octet line n)

-- The first line ends at a line feed.
pub line_cut : (text : List ℕ) (at : ℕ) → at < length text → no_feed (take at text) ≡ true → get_or text at 0 ≡ 10 → source_lines text ≡ without_return (take at text) ∷ source_lines (drop (at + 1) text)
line_cut text at h n f =
    let split : text ≡ take at text ++ 10 ∷ drop (at + 1) text =
    sym (take-append-drop at text) ∙ ap (λ (r : List ℕ). take at text ++ r) (drop_more text at 0 h ∙ ap (λ (o : ℕ). o ∷ drop (at + 1) text) f) in
    ap source_lines split ∙ line_ended (take at text) (drop (at + 1) text) n

-- The first line ends at the end of the text.
pub line_rest : (text : List ℕ) (at : ℕ) → 0 < length text → at ≡ length text → no_feed (take at text) ≡ true → source_lines text ≡ text ∷ source_lines (drop at text)
unfolding source_lines
line_rest text at h e n =
    let whole : take at text ≡ text = take_all at text (omega arith) in
    let none : drop at text ≡ [] = drop_all at text (omega arith) in
    line_last text h (sym (ap no_feed whole) ∙ n) ∙ ap (λ (r : List ℕ). text ∷ source_lines r) (sym none)

-- An empty text has no line.
pub lines_none : (text : List ℕ) → length text ≡ 0 → source_lines text ≡ []
unfolding source_lines
lines_none [] h = refl
lines_none (octet ∷ rest) h = absurd (omega arith)
