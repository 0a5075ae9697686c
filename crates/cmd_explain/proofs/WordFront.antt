-- The first line of an input.
use Rattle.std.proofs.Common.{◌≡◌, ◌≢◌, ◌⊎◌, inl, inr, ℕ, zero, suc, ◌+◌, ◌<◌, ◌≤◌, ◌==◌, ◌||◌, Bool, true, false, nat_le, if◌then◌else◌, List, [], ◌∷◌, ◌++◌, Option, Some, None, get_or, length, take, drop, option_map, refl, sym, ap, ◌∙◌, subst, arith, append-nil, append_assoc, length-append}
use Rattle.std.proofs.lemmas.Bool.{and_left, eqb-true, lt-leb, ne_eqb, or_parts, or_right}
use Rattle.std.proofs.lemmas.List.{drop-drop, drop_all, drop_at, drop_more, length-take-le, take-append-drop, take_at}
use Rattle.text_io.specs.Limits.{most_line_octets}
use Rattle.text_io.specs.Lines.{Line, begun_with, line_content, lines_of}
use Rattle.text_io.specs.Words.{words_of}
use Rattle.cmd_explain.specs.InputKinds.{after_first, after_word, is_alone, is_word_line}
use Rattle.cmd_explain.specs.inner.FirstLines.{HoldsFirstLine, has_feed}

-- A line that a line feed ended, and one that the octets end.
abbrev pub ended_line : List ℕ → Line
ended_line octets = record { octets = octets; ended = true }

abbrev pub last_line : List ℕ → Line
last_line octets = record { octets = octets; ended = false }

-- The lines of octets of which the first is a line feed, or not.
abbrev begun : Bool → ℕ → List Line → List Line
begun is_feed octet lines = if is_feed then ended_line [] ∷ lines else begun_with octet lines

-- Octets up to a line feed are the first line.
pub lines_fed : (line rest : List ℕ) → has_feed line ≡ false → lines_of (line ++ 10 ∷ rest) ≡ ended_line line ∷ lines_of rest
lines_fed [] rest none = refl
lines_fed (octet ∷ line) rest none =
    let parts = or_parts (octet == 10) (has_feed line) none in
    ap (λ (b : Bool). begun b octet (lines_of (line ++ 10 ∷ rest))) parts.0 ∙ ap (λ (lines : List Line). begun_with octet lines) (lines_fed line rest parts.1)

-- Octets without a line feed are the last line.
lines_last : (octet : ℕ) (line : List ℕ) → has_feed (octet ∷ line) ≡ false → lines_of (octet ∷ line) ≡ last_line (octet ∷ line) ∷ []
lines_last octet [] none = ap (λ (b : Bool). begun b octet []) (or_parts (octet == 10) false none).0
lines_last octet (next ∷ line) none =
    let parts = or_parts (octet == 10) (has_feed (next ∷ line)) none in
    ap (λ (b : Bool). begun b octet (lines_of (next ∷ line))) parts.0 ∙ ap (λ (lines : List Line). begun_with octet lines) (lines_last next line parts.1)

-- The octets are a line that a line feed ends, and others.
record Fed (octets : List ℕ) : Type 0 where
  pub line : List ℕ
  pub rest : List ℕ
  pub cut : octets ≡ line ++ 10 ∷ rest
  pub free : has_feed line ≡ false

fed_from : (octet : ℕ) (octets : List ℕ) (b : Bool) → (octet == 10) ≡ b → (has_feed octets ≡ true → Fed octets) → has_feed (octet ∷ octets) ≡ true → Fed (octet ∷ octets)
fed_from octet octets true is later some =
    record { line = []; rest = octets; cut = ap (λ (n : ℕ). n ∷ octets) (eqb-true octet 10 is); free = refl }
fed_from octet octets false is later some =
    let fed = later (sym (ap (λ (b : Bool). b || has_feed octets) is) ∙ some) in
    record {
      line = octet ∷ fed.line;
      rest = fed.rest;
      cut = ap (λ (xs : List ℕ). octet ∷ xs) fed.cut;
      free = ap (λ (b : Bool). b || has_feed fed.line) is ∙ fed.free;
    }

fed : (octets : List ℕ) → has_feed octets ≡ true → Fed octets
fed [] some = let no = some in cc
fed (octet ∷ octets) some = fed_from octet octets (octet == 10) refl (fed octets) some

-- Octets without a line feed are a part of the first line.
record Part (octets all : List ℕ) : Type 0 where
  pub line : Line
  pub lines : List Line
  pub cut : lines_of all ≡ line ∷ lines
  pub long : length octets ≤ length line.octets

part_begun : (octet : ℕ) (lines : List Line) → (line : Line) × (more : List Line) × (begun_with octet lines ≡ line ∷ more) × (1 ≤ length line.octets)
part_begun octet [] = (last_line (octet ∷ []), [], refl, omega arith)
part_begun octet (line ∷ lines) = (record { octets = octet ∷ line.octets; ended = line.ended }, lines, refl, omega arith)

part : (octet : ℕ) (octets rest : List ℕ) → has_feed (octet ∷ octets) ≡ false → Part (octet ∷ octets) (octet ∷ (octets ++ rest))
part octet [] rest none =
    let here = part_begun octet (lines_of rest) in
    record {
      line = here.0;
      lines = here.1;
      cut = ap (λ (b : Bool). begun b octet (lines_of rest)) (or_parts (octet == 10) false none).0 ∙ here.2;
      long = here.3;
    }
part octet (next ∷ octets) rest none =
    let parts = or_parts (octet == 10) (has_feed (next ∷ octets)) none in
    let after = part next octets rest parts.1 in
    record {
      line = record { octets = octet ∷ after.line.octets; ended = after.line.ended };
      lines = after.lines;
      cut = ap (λ (b : Bool). begun b octet (lines_of (next ∷ (octets ++ rest)))) parts.0 ∙ ap (λ (lines : List Line). begun_with octet lines) after.cut;
      long = omega (arith, after.long);
    }

-- What a first line leaves, if it is the word.
abbrev left_by : List ℕ → Line → List ℕ → Option (List ℕ)
left_by word first rest = if is_word_line word first then Some rest else None

drop_line : (line rest : List ℕ) → drop (length line + 1) (line ++ 10 ∷ rest) ≡ rest
drop_line line rest =
    let sized : length (line ++ 10 ∷ []) ≡ length line + 1 = length-append line (10 ∷ []) in
    ap (λ (xs : List ℕ). drop (length line + 1) xs) (sym (append_assoc line (10 ∷ []) rest)) ∙ drop_at (line ++ 10 ∷ []) rest (length line + 1) sized

pub word_fed : (word : List ℕ) (line rest : List ℕ) → has_feed line ≡ false → after_word word (line ++ 10 ∷ rest) ≡ left_by word (ended_line line) rest
unfolding after_word
word_fed word line rest free =
    ap (λ (lines : List Line). after_first word (line ++ 10 ∷ rest) lines) (lines_fed line rest free)
    ∙ ap (λ (xs : List ℕ). left_by word (ended_line line) xs) (drop_line line rest)

pub word_alone : (word : List ℕ) (octet : ℕ) (octets : List ℕ) → has_feed (octet ∷ octets) ≡ false → after_word word (octet ∷ octets) ≡ left_by word (last_line (octet ∷ octets)) []
unfolding after_word
word_alone word octet octets none =
    ap (λ (lines : List Line). after_first word (octet ∷ octets) lines) (lines_last octet octets none)
    ∙ ap (λ (xs : List ℕ). left_by word (last_line (octet ∷ octets)) xs) (drop_all (length (octet ∷ octets) + 1) (octet ∷ octets) (omega arith))

pub word_none : (word : List ℕ) → after_word word [] ≡ None
unfolding after_word
word_none word = refl

-- A line over the limit isn't the word.
long_line : (word : List ℕ) (first : Line) (rest : List ℕ) → most_line_octets < length first.octets → left_by word first rest ≡ None
long_line word first rest long =
    ap (λ (b : Bool). if b then Some rest else None)
    (and_left (nat_le (length first.octets) most_line_octets) (is_alone word (words_of (line_content first))) (lt-leb (length first.octets) most_line_octets long))

word_long : (word : List ℕ) (octets rest : List ℕ) → has_feed octets ≡ false → most_line_octets < length octets → after_word word (octets ++ rest) ≡ None
unfolding after_word
word_long word [] rest none long = absurd (omega (arith, long))
word_long word (octet ∷ octets) rest none long =
    let first = part octet octets rest none in
    let all = octet ∷ (octets ++ rest) in
    ap (λ (lines : List Line). after_first word all lines) first.cut
    ∙ long_line word first.line (drop (length first.line.octets + 1) all) (omega (arith, long, first.long))

-- The octets begin with this front, which is the word alone on its line, and these octets follow. Without its line feed, the line is all.
pub record WordFront (word octets source : List ℕ) : Type 0 where
  pub front : List ℕ
  pub cut : octets ≡ front ++ source
  pub starts : ((x : List ℕ) → after_word word (front ++ x) ≡ Some x)
      ⊎ ((after_word word front ≡ Some []) × (source ≡ []) × (lines_of front ≡ last_line front ∷ []) × (is_word_line word (last_line front) ≡ true))

front_fed : (word : List ℕ) (octets source : List ℕ) (it : Fed octets) (b : Bool) → is_word_line word (ended_line it.line) ≡ b → after_word word octets ≡ Some source → WordFront word octets source
front_fed word octets source it false is e =
    let no : None ≡ Some source =
    sym (ap (λ (xs : List ℕ). after_word word xs) it.cut ∙ word_fed word it.line it.rest it.free ∙ ap (λ (b : Bool). if b then Some it.rest else None) is) ∙ e in
    absurd cc
front_fed word octets source it true is e =
    let same : Some it.rest ≡ Some source =
    sym (ap (λ (xs : List ℕ). after_word word xs) it.cut ∙ word_fed word it.line it.rest it.free ∙ ap (λ (b : Bool). if b then Some it.rest else None) is) ∙ e in
    let left : it.rest ≡ source = cc in
    record {
      front = it.line ++ 10 ∷ [];
      cut = it.cut ∙ sym (append_assoc it.line (10 ∷ []) it.rest) ∙ ap (λ (xs : List ℕ). (it.line ++ 10 ∷ []) ++ xs) left;
      starts = inl
          (λ x. ap (λ (xs : List ℕ). after_word word xs) (append_assoc it.line (10 ∷ []) x) ∙ word_fed word it.line x it.free
          ∙ ap (λ (b : Bool). if b then Some x else None) is);
    }

front_alone : (word : List ℕ) (octet : ℕ) (octets source : List ℕ) (b : Bool) → has_feed (octet ∷ octets) ≡ false → is_word_line word (last_line (octet ∷ octets)) ≡ b
    → after_word word (octet ∷ octets) ≡ Some source → WordFront word (octet ∷ octets) source
front_alone word octet octets source false none is e =
    let no : None ≡ Some source = sym (word_alone word octet octets none ∙ ap (λ (b : Bool). if b then Some [] else None) is) ∙ e in
    absurd cc
front_alone word octet octets source true none is e =
    let alone : after_word word (octet ∷ octets) ≡ Some [] = word_alone word octet octets none ∙ ap (λ (b : Bool). if b then Some [] else None) is in
    let same : Some [] ≡ Some source = sym alone ∙ e in
    let left : [] ≡ source = cc in
    record {
      front = octet ∷ octets;
      cut = sym (append-nil (octet ∷ octets)) ∙ ap (λ (xs : List ℕ). (octet ∷ octets) ++ xs) left;
      starts = inr (alone, sym left, lines_last octet octets none, is);
    }

front_by : (word : List ℕ) (octets source : List ℕ) (b : Bool) → has_feed octets ≡ b → after_word word octets ≡ Some source → WordFront word octets source
front_by word octets source true some e =
    let it = fed octets some in
    front_fed word octets source it (is_word_line word (ended_line it.line)) refl e
front_by word [] source false none e = let no : None ≡ Some source = sym (word_none word) ∙ e in absurd cc
front_by word (octet ∷ octets) source false none e = front_alone word octet octets source (is_word_line word (last_line (octet ∷ octets))) none refl e

-- What follows this word alone on its line.
pub word_front : (word : List ℕ) (octets source : List ℕ) → after_word word octets ≡ Some source → WordFront word octets source
word_front word octets source e = front_by word octets source (has_feed octets) refl e

left_more : (b : Bool) (xs rest : List ℕ) → (if b then Some (xs ++ rest) else None) ≡ option_map (λ (xs : List ℕ). xs ++ rest) (if b then Some xs else None)
left_more true xs rest = refl
left_more false xs rest = refl

option_append : (found : Option (List ℕ)) → option_map (λ (xs : List ℕ). xs ++ []) found ≡ found
option_append None = refl
option_append (Some xs) = ap (λ (ys : List ℕ). Some ys) (append-nil xs)

-- The first line decides.
line_decides : (word : List ℕ) (front rest : List ℕ) (b : Bool) → has_feed front ≡ b → HoldsFirstLine front → after_word word (front ++ rest) ≡ option_map (λ (xs : List ℕ). xs ++ rest) (after_word word front)
line_decides word front rest true some held =
    let it = fed front some in
    ap (λ (xs : List ℕ). after_word word (xs ++ rest)) it.cut ∙ ap (λ (xs : List ℕ). after_word word xs) (append_assoc it.line (10 ∷ it.rest) rest)
    ∙ word_fed word it.line (it.rest ++ rest) it.free ∙ left_more (is_word_line word (ended_line it.line)) it.rest rest
    ∙ ap (λ (found : Option (List ℕ)). option_map (λ (xs : List ℕ). xs ++ rest) found) (sym (ap (λ (xs : List ℕ). after_word word xs) it.cut ∙ word_fed word it.line it.rest it.free))
line_decides word front rest false none (inl some) = let no : false ≡ true = sym none ∙ some in absurd cc
line_decides word front rest false none (inr long) =
    let alone : after_word word front ≡ None = ap (λ (xs : List ℕ). after_word word xs) (sym (append-nil front)) ∙ word_long word front [] none long in
    word_long word front rest none long ∙ ap (λ (found : Option (List ℕ)). option_map (λ (xs : List ℕ). xs ++ rest) found) (sym alone)

-- The first line of an input, or all of it, decides whether it begins with this word alone on its line.
pub ahead_decides : (word : List ℕ) (front rest : List ℕ) → HoldsFirstLine front ⊎ (rest ≡ []) → after_word word (front ++ rest) ≡ option_map (λ (xs : List ℕ). xs ++ rest) (after_word word front)
ahead_decides word front rest (inl held) = line_decides word front rest (has_feed front) refl held
ahead_decides word front rest (inr none) =
    let P : List ℕ → Type 0 = λ (rest : List ℕ). after_word word (front ++ rest) ≡ option_map (λ (xs : List ℕ). xs ++ rest) (after_word word front) in
    subst P (sym none) (ap (after_word word) (append-nil front) ∙ sym (option_append (after_word word front)))

-- Places of line feeds.
pub feed_there : (octets : List ℕ) (at : ℕ) → at < length octets → get_or octets at 0 ≡ 10 → has_feed octets ≡ true
feed_there [] at within is = absurd (omega (arith, within))
feed_there (octet ∷ octets) zero within is = ap (λ (n : ℕ). (n == 10) || has_feed octets) is
feed_there (octet ∷ octets) (suc at) within is = or_right (octet == 10) (has_feed octets) (feed_there octets at (omega (arith, within)) is)

pub feed_nowhere : (octets : List ℕ) → ((k : ℕ) → k < length octets → get_or octets k 0 ≢ 10) → has_feed octets ≡ false
feed_nowhere [] none = refl
feed_nowhere (octet ∷ octets) none =
    ap (λ (b : Bool). b || has_feed octets) (ne_eqb octet 10 (none 0 (omega arith))) ∙ feed_nowhere octets (λ k within. none (suc k) (omega (arith, within)))

pub feed_last : (octets : List ℕ) (octet : ℕ) → octet ≡ 10 → has_feed (octets ++ octet ∷ []) ≡ true
feed_last [] octet is = ap (λ (n : ℕ). (n == 10) || false) is
feed_last (first ∷ octets) octet is = or_right (first == 10) (has_feed (octets ++ octet ∷ [])) (feed_last octets octet is)

-- No line feed comes before the first.
free_before : (octets : List ℕ) (at : ℕ) → at < length octets → ((k : ℕ) → k < at → get_or octets k 0 ≢ 10) → has_feed (take at octets) ≡ false
free_before [] at within none = absurd (omega (arith, within))
free_before (octet ∷ octets) zero within none = refl
free_before (octet ∷ octets) (suc at) within none =
    ap (λ (b : Bool). b || has_feed (take at octets)) (ne_eqb octet 10 (none 0 (omega arith)))
    ∙ free_before octets at (omega (arith, within)) (λ k less. none (suc k) (omega (arith, less)))

-- What the first line leaves, by the place of its line feed.
pub word_at : (word : List ℕ) (octets : List ℕ) (at : ℕ) → at < length octets → get_or octets at 0 ≡ 10 → ((k : ℕ) → k < at → get_or octets k 0 ≢ 10)
    → after_word word octets ≡ left_by word (ended_line (take at octets)) (drop (at + 1) octets)
word_at word octets at within feed before =
    let cut : octets ≡ take at octets ++ 10 ∷ drop (at + 1) octets =
    sym (take-append-drop at octets) ∙ ap (λ (xs : List ℕ). take at octets ++ xs) (drop_more octets at 0 within ∙ ap (λ (n : ℕ). n ∷ drop (at + 1) octets) feed) in
    ap (λ (xs : List ℕ). after_word word xs) cut ∙ word_fed word (take at octets) (drop (at + 1) octets) (free_before octets at within before)

-- And if it has none.
pub word_whole : (word : List ℕ) (octets : List ℕ) → ((k : ℕ) → k < length octets → get_or octets k 0 ≢ 10) → after_word word octets ≡ left_by word (last_line octets) []
word_whole word [] none = word_none word
word_whole word (octet ∷ octets) none = word_alone word octet octets (feed_nowhere (octet ∷ octets) none)

-- Octets that were looked at, in the first places of a room.
pub taken : (octets copy others later : List ℕ) (given count : ℕ) → count ≤ length (drop given octets) → copy ≡ take count (drop given octets)
    → drop given octets ++ later ≡ take count (copy ++ others) ++ (drop (given + count) octets ++ later)
taken octets copy others later given count within is =
    let sized : length copy ≡ count = ap length is ∙ length-take-le count (drop given octets) within in
    ap (λ (xs : List ℕ). xs ++ later) (sym (take-append-drop count (drop given octets))) ∙ append_assoc (take count (drop given octets)) (drop count (drop given octets)) later
    ∙ ap (λ (xs : List ℕ). xs ++ (drop count (drop given octets) ++ later)) (sym is) ∙ ap (λ (xs : List ℕ). copy ++ (xs ++ later)) (drop-drop count given octets)
    ∙ ap (λ (xs : List ℕ). xs ++ (drop (given + count) octets ++ later)) (sym (take_at copy others count sized))
