-- The listing with its comments adds comment lines to the listing.
use Rattle.std.proofs.Common.{◌≡◌, ◌⊎◌, inl, inr, ℕ, zero, suc, ◌+◌, ◌-◌, ◌/◌, ◌%◌, ◌<◌, ◌==◌, ◌&&◌, not, Bool, true, false, if◌then◌else◌, List, [], ◌∷◌, ◌++◌, Result, Ok, Err, codes, decimal, length, map, take, drop, get_or, Option, Some, None, refl, sym, ap, subst, ◌∙◌, arith, append_assoc, append-nil}
use Rattle.std.specs.Fmt.{digit_glyph, digits, digits_onto}
use Rattle.std.proofs.lemmas.Bool.{agree_below_at}
use Rattle.std.proofs.lemmas.Nat.{mod_below}
use Rattle.std.specs.Result.{OnOk}
use Rattle.bpf_asm.specs.Listing.{listing_of}
use Rattle.bpf_asm.specs.Meaning.{IsMeaning}
use Rattle.bpf_asm.specs.SourceLines.{source_lines}
use Rattle.bpf_code.specs.declared.instr.Instr.{Instr}
use Rattle.rules_text.specs.declared.compiler.CodeWithPlaces.{CodeWithPlaces}
use Rattle.text_io.specs.Lines.{Line, begun_with, line_content, line_with_feed, lines_of, without_return}
use Rattle.rules_text.specs.declared.place.RulePlace.{RulePlace}
use Rattle.cmd_rules.specs.RuleBegins.{begin_at, begin_text, column_text}
use Rattle.cmd_rules.specs.AsmText.{asm_text, comment_at, comment_line, comments_from, from_column, lines_with, next_start_from_end, rule_comment}
use Rattle.cmd_rules.specs.CommentLines.{AddsComments, is_comment}
use Rattle.cmd_rules.proofs.CommentsAdded.{comments_mean_nothing}

-- No octet is a line feed.
abbrev pub AllFree : List ℕ → Type 0
AllFree [] = Unit {0}
AllFree (octet ∷ rest) = ((octet == 10) ≡ false) × AllFree rest

pub free_append : (one other : List ℕ) → AllFree one → AllFree other → AllFree (one ++ other)
free_append [] other f g = g
free_append (octet ∷ one) other f g = (f.0, free_append one other f.1 g)

free_take : (count : ℕ) (octets : List ℕ) → AllFree octets → AllFree (take count octets)
free_take zero octets f = tt
free_take (suc count) [] f = tt
free_take (suc count) (octet ∷ octets) f = (f.0, free_take count octets f.1)

glyph_free : (digit : ℕ) → digit < 10 → (digit_glyph false digit == 10) ≡ false
glyph_free digit h = agree_below_at (λ d. digit_glyph false d == 10) (λ d. false) 10 digit refl h

onto_by : (is : Bool) (one other : List ℕ) → AllFree one → AllFree other → AllFree (if is then one else other)
onto_by true one other f g = f
onto_by false one other f g = g

onto_free : (most n : ℕ) (digits : List ℕ) → AllFree digits → AllFree (digits_onto most 10 false n digits)
onto_free zero n digits f = f
onto_free (suc most) n digits f =
    let more : AllFree (digit_glyph false (n % 10) ∷ digits) = (glyph_free (n % 10) (mod_below n 10 (omega arith)), f) in
    onto_by (n / 10 == 0) (digit_glyph false (n % 10) ∷ digits) (digits_onto most 10 false (n / 10) (digit_glyph false (n % 10) ∷ digits)) more
    (onto_free most (n / 10) (digit_glyph false (n % 10) ∷ digits) more)

decimal_free : (value : ℕ) → AllFree (decimal value)
unfolding digits
decimal_free value = onto_free 64 value [] tt

column_free : (column : Option ℕ) → AllFree (column_text column)
column_free None = tt
column_free (Some column) = (refl, decimal_free column)

begin_free : (begin : RulePlace) → AllFree (begin_text begin)
begin_free begin = free_append (decimal begin.line) (column_text begin.column) (decimal_free begin.line) (column_free begin.column)

free_drop : (count : ℕ) (octets : List ℕ) → AllFree octets → AllFree (drop count octets)
free_drop zero octets f = f
free_drop (suc count) [] f = tt
free_drop (suc count) (octet ∷ octets) f = free_drop count octets f.1

free_from : (column : Option ℕ) (line : List ℕ) → AllFree line → AllFree (from_column column line)
free_from None line f = f
free_from (Some column) line f = free_drop (column - 1) line f

-- ---- the lines of a text have no line feed

-- Lines of a text: none has a line feed, and each but the last is ended by one.
abbrev pub AreCut : List Line → Type 0
AreCut [] = Unit {0}
AreCut (line ∷ lines) = AllFree line.octets × ((line.ended ≡ true) ⊎ ((line.ended ≡ false) × (lines ≡ []) × (0 < length line.octets))) × AreCut lines

begun_cut : (octet : ℕ) (lines : List Line) → (octet == 10) ≡ false → AreCut lines → AreCut (begun_with octet lines)
begun_cut octet [] e c = ((e, tt), inr (refl, refl, omega arith), tt)
begun_cut octet (line ∷ lines) e c = ((e, c.0), ends line.ended refl c.1, c.2)
  where
    ends : (ended : Bool) → line.ended ≡ ended → ((line.ended ≡ true) ⊎ ((line.ended ≡ false) × (lines ≡ []) × (0 < length line.octets)))
        → ((line.ended ≡ true) ⊎ ((line.ended ≡ false) × (lines ≡ []) × (0 < length (octet ∷ line.octets))))
    ends ended is (inl h) = inl h
    ends ended is (inr h) = inr (h.0, h.1, omega arith)

cut_by : (is : Bool) (octet : ℕ) (octets : List ℕ) → (octet == 10) ≡ is → AreCut (lines_of octets)
    → AreCut (if is then (record { octets = []; ended = true }) ∷ lines_of octets else begun_with octet (lines_of octets))
cut_by true octet octets e c = (tt, inl refl, c)
cut_by false octet octets e c = begun_cut octet (lines_of octets) e c

pub cut : (octets : List ℕ) → AreCut (lines_of octets)
cut [] = tt
cut (octet ∷ octets) = cut_by (octet == 10) octet octets refl (cut octets)

ended_lines : (line rest : List ℕ) → AllFree line → lines_of (line ++ 10 ∷ rest) ≡ (record { octets = line; ended = true }) ∷ lines_of rest
ended_lines [] rest f = refl
ended_lines (octet ∷ line) rest f = rw f.0 (ap (begun_with octet) (ended_lines line rest f.1))

last_line : (octet : ℕ) (line : List ℕ) → AllFree (octet ∷ line) → lines_of (octet ∷ line) ≡ (record { octets = octet ∷ line; ended = false }) ∷ []
last_line octet [] f = rw f.0 refl
last_line octet (next ∷ line) f = rw f.0 (ap (begun_with octet) (last_line next line f.1))

pub ended_source : (line rest : List ℕ) → AllFree line → source_lines (line ++ 10 ∷ rest) ≡ without_return line ∷ source_lines rest
unfolding source_lines
ended_source line rest f = ap (map line_content) (ended_lines line rest f)

free_without : (octets : List ℕ) → AllFree octets → AllFree (without_return octets)
free_without octets f = go (get_or octets (length octets - 1) 0 == 13)
  where
    go : (is : Bool) → AllFree (if is then take (length octets - 1) octets else octets)
    go true = free_take (length octets - 1) octets f
    go false = f

pub free_content : (line : Line) → AllFree line.octets → AllFree (line_content line)
free_content line f = go line.ended
  where
    go : (is : Bool) → AllFree (if is then without_return line.octets else line.octets)
    go true = free_without line.octets f
    go false = f

-- Every line of these has no line feed.
abbrev AllLinesFree : List (List ℕ) → Type 0
AllLinesFree [] = Unit {0}
AllLinesFree (line ∷ lines) = AllFree line × AllLinesFree lines

content_free : (lines : List Line) → AreCut lines → AllLinesFree (map line_content lines)
content_free [] c = tt
content_free (line ∷ lines) c = (free_content line c.0, content_free lines c.2)

source_free : (octets : List ℕ) → AllLinesFree (source_lines octets)
unfolding source_lines
source_free octets = content_free (lines_of octets) (cut octets)

line_free : (lines : List (List ℕ)) (before : ℕ) → AllLinesFree lines → AllFree (get_or lines before [])
line_free [] before f = tt
line_free (line ∷ lines) zero f = f.0
line_free (line ∷ lines) (suc before) f = line_free lines before f.1

-- ---- comments

-- In front of a source, this adds comment lines alone.
abbrev PutsComments : List ℕ → Type 0
PutsComments text = (lines : List (List ℕ)) (rest : List ℕ) → AddsComments lines (source_lines rest) → AddsComments lines (source_lines (text ++ rest))

puts_nothing : PutsComments []
puts_nothing lines rest adds = adds

puts_both : (one other : List ℕ) → PutsComments one → PutsComments other → PutsComments (one ++ other)
puts_both one other p q lines rest adds =
    subst (λ (text : List ℕ). AddsComments lines (source_lines text)) (sym (append_assoc one other rest)) (p lines (other ++ rest) (q lines rest adds))

still_comment : (is : Bool) (octet : ℕ) (rest : List ℕ) → is_comment (if is then take (length (59 ∷ octet ∷ rest) - 1) (59 ∷ octet ∷ rest) else 59 ∷ octet ∷ rest) ≡ true
still_comment true octet rest =
    let some : length (59 ∷ octet ∷ rest) - 1 ≡ suc (length rest) = omega arith in
    ap (λ n. is_comment (take n (59 ∷ octet ∷ rest))) some
still_comment false octet rest = refl

puts_comment : (text : List ℕ) → AllFree text → PutsComments (comment_line text)
puts_comment text f lines rest adds =
    let line = 59 ∷ 32 ∷ text in
    let free : AllFree line = (refl, (refl, f)) in
    let same : comment_line text ++ rest ≡ line ++ 10 ∷ rest = ap (λ (t : List ℕ). 59 ∷ 32 ∷ t) (append_assoc text (codes "\n") rest) in
    let split : source_lines (comment_line text ++ rest) ≡ without_return line ∷ source_lines rest = ap source_lines same ∙ ended_source line rest free in
    subst (λ (ls : List (List ℕ)). AddsComments lines ls) (sym split) (inl (still_comment (get_or line (length line - 1) 0 == 13) 32 text, adds))

module _ (lines : List (List ℕ)) (begins : List RulePlace) (free : AllLinesFree lines) where
  puts_rule : (begin : RulePlace) → PutsComments (rule_comment lines begin)
  puts_rule begin =
      let line = from_column begin.column (get_or lines (begin.line - 1) []) in
      puts_comment (begin_text begin ++ (codes ": " ++ line))
      (free_append (begin_text begin) (codes ": " ++ line) (begin_free begin)
      (refl, (refl, free_from begin.column (get_or lines (begin.line - 1) []) (line_free lines (begin.line - 1) free))))

  puts_if : (is : Bool) (text : List ℕ) → PutsComments text → PutsComments (if is then text else [])
  puts_if true text p = p
  puts_if false text p = puts_nothing

  puts_from : (left place : ℕ) (starts_from_end : List ℕ) → PutsComments (comments_from lines begins left place starts_from_end)
  puts_from left place [] = puts_if (left == 1) (comment_line (codes "otherwise")) (puts_comment (codes "otherwise") (refl, (refl, (refl, (refl, (refl, (refl, (refl, (refl, (refl, tt))))))))))
  puts_from left place (size ∷ starts_from_end) =
      puts_both (comment_at lines begins left place size (next_start_from_end starts_from_end)) (comments_from lines begins left (place + 1) starts_from_end)
      (puts_if (size == left && not (size == next_start_from_end starts_from_end)) (rule_comment lines (begin_at begins place)) (puts_rule (begin_at begins place)))
      (puts_from left (place + 1) starts_from_end)

-- ---- the whole

module _ (put : ℕ → List ℕ) (puts : (place : ℕ) → PutsComments (put place)) where
  line_put : (line : Line) (lines : List Line) (rest : List ℕ) → AllFree line.octets → AddsComments (map line_content lines) (source_lines rest) → line.ended ≡ true
      → AddsComments (line_content line ∷ map line_content lines) (source_lines (line_with_feed line ++ rest))
  line_put line lines rest f adds ended =
      let whole : line_with_feed line ++ rest ≡ line.octets ++ 10 ∷ rest =
      ap (λ (is : Bool). (if is then line.octets ++ codes "\n" else line.octets) ++ rest) ended ∙ append_assoc line.octets (codes "\n") rest in
      let says : without_return line.octets ≡ line_content line = sym (ap (λ (is : Bool). if is then without_return line.octets else line.octets) ended) in
      let split : source_lines (line_with_feed line ++ rest) ≡ line_content line ∷ source_lines rest =
      ap source_lines whole ∙ ended_source line.octets rest f ∙ ap (λ (l : List ℕ). l ∷ source_lines rest) says in
      subst (λ (ls : List (List ℕ)). AddsComments (line_content line ∷ map line_content lines) ls) (sym split) (inr (map line_content lines, refl, adds))

  last_put : (line : Line) (octets : List ℕ) → line.octets ≡ octets → AllFree octets → 0 < length octets → line.ended ≡ false → source_lines (line_with_feed line) ≡ line_content line ∷ []
  unfolding source_lines
  last_put line [] is f some ended = absurd (omega arith)
  last_put line (octet ∷ octets) is f some ended =
      let whole : line_with_feed line ≡ octet ∷ octets = ap (λ (e : Bool). if e then line.octets ++ codes "\n" else line.octets) ended ∙ is in
      let says : line_content line ≡ octet ∷ octets = ap (λ (e : Bool). if e then without_return line.octets else line.octets) ended ∙ is in
      ap (λ (t : List ℕ). map line_content (lines_of t)) whole ∙ ap (map line_content) (last_line octet octets f) ∙ ap (λ (l : List ℕ). l ∷ []) (sym says)

  one_put : (line : Line) (lines : List Line) (place : ℕ) → AllFree line.octets
      → ((line.ended ≡ true) ⊎ ((line.ended ≡ false) × (lines ≡ []) × (0 < length line.octets)))
      → AddsComments (map line_content lines) (source_lines (lines_with put place lines))
      → AddsComments (line_content line ∷ map line_content lines) (source_lines (line_with_feed line ++ lines_with put place lines))
  one_put line lines place f (inl e) adds = line_put line lines (lines_with put place lines) f adds e
  one_put line lines place f (inr h) adds =
      let alone : source_lines (line_with_feed line ++ []) ≡ line_content line ∷ [] = ap source_lines (append-nil (line_with_feed line)) ∙ last_put line line.octets refl f h.2 h.0 in
      let none : AddsComments (line_content line ∷ []) (line_content line ∷ []) = inr ([], refl, refl) in
      subst (λ (ls : List Line). AddsComments (line_content line ∷ map line_content ls) (source_lines (line_with_feed line ++ lines_with put place ls))) (sym h.1)
      (subst (λ (ls : List (List ℕ)). AddsComments (line_content line ∷ []) ls) (sym alone) none)

  lines_put : (place : ℕ) (lines : List Line) → AreCut lines → AddsComments (map line_content lines) (source_lines (lines_with put place lines))
  unfolding source_lines
  lines_put place [] c = refl
  lines_put place (line ∷ lines) c =
      puts place (line_content line ∷ map line_content lines) (line_with_feed line ++ lines_with put (place + 1) lines)
      (one_put line lines (place + 1) c.0 c.1 (lines_put (place + 1) lines c.2))

text_put : (put : ℕ → List ℕ) → ((place : ℕ) → PutsComments (put place)) → (text : List ℕ) → AddsComments (source_lines text) (source_lines (lines_with put 0 (lines_of text)))
unfolding source_lines
text_put put puts text = lines_put put puts 0 (lines_of text) (cut text)

-- The listing with its comments means what the listing does.
pub asm_means : (text : List ℕ) (made : CodeWithPlaces) → IsMeaning (listing_of made.placed.code.items) made.placed.code.items → IsMeaning (asm_text (source_lines text) made) made.placed.code.items
asm_means text made means =
    let code = made.placed.code.items in
    let put : ℕ → List ℕ = λ place. comments_from (source_lines text) made.begins.items (length code - place) 0 made.placed.starts_from_end.items in
    comments_mean_nothing (listing_of code) (asm_text (source_lines text) made) code
    (text_put put (λ place. puts_from (source_lines text) made.begins.items (source_free text) (length code - place) 0 made.placed.starts_from_end.items) (listing_of code)) means

-- What holds always holds if a call succeeds.
pub always_ok : {T E : Type 0} {P : Type 0} (result : Result T E) → P → OnOk result P
always_ok (Ok value) p = p
always_ok (Err error) p = tt

-- The listing of a code, where both are seen through a slice.
pub listed_means : (code seen : List Instr) (source : List ℕ) → seen ≡ code → source ≡ listing_of seen → IsMeaning source seen → IsMeaning (listing_of code) code
listed_means code seen source e f means = subst (λ (c : List Instr). IsMeaning (listing_of c) c) e (subst (λ (s : List ℕ). IsMeaning s seen) f means)
