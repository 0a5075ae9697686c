-- A spelling whose parts don't run into each other reads as it was written.
use Rattle.std.proofs.Common.{◌≡◌, ℕ, ◌<◌, ◌^◌, Bool, true, false, not, ◌&&◌, ◌==◌, List, [], ◌∷◌, ◌++◌, decimal, refl, sym, ap, ◌∙◌, append-nil, arith, inl, inr, ◌+◌, ◌-◌, zero, suc, cond, length, get_or, take, one-add}
use Rattle.std.specs.List.{before_first}
use Rattle.std.proofs.lemmas.Bool.{and_cases, and_left, and_parts, and_from, and_right, eqb-true, not-true}
use Rattle.bpf_asm.specs.SourceLines.{source_lines}
use Rattle.bpf_asm.specs.inner.Feeds.{no_feed}
use Rattle.text_io.specs.Lines.{without_return}
use Rattle.bpf_asm.proofs.octets.LineCuts.{line_ended}
use Rattle.bpf_asm.specs.StatementSpelling.{Part, text, num, label, part_octets, part_tokens, spelling_octets, spelling_tokens}
use Rattle.bpf_asm.specs.Tokens.{Token, name, number, faulty, mark, is_run, is_word, signed, signed_after, pieces_of, tokens_of}
use Rattle.bpf_asm.specs.inner.WordRuns.{all_word}
use Rattle.bpf_asm.proofs.octets.Decimals.{tokens_of-decimal, decimal_word}
use Rattle.bpf_asm.proofs.octets.Pieces.{ends_word, tokens_of-append}

-- Whether a part may run into what follows it.
abbrev pub part_ends : Part → Bool
part_ends (text octets) = ends_word octets
part_ends _ = true

-- Whether a part may run into what comes before it.
abbrev pub part_begins : Part → Bool
part_begins (text []) = true
part_begins (text (octet ∷ rest)) = is_word octet
part_begins _ = true

-- Whether no part runs into the next one.
abbrev pub is_apart : List Part → Bool
is_apart [] = true
is_apart (part ∷ []) = true
is_apart (part ∷ next ∷ parts) = not (part_ends part && part_begins next) && is_apart (next ∷ parts)

-- A part reads as its token.
abbrev pub ReadsPart : Part → Type 0
ReadsPart (text octets) = Unit {0}
ReadsPart (num value) = value < 2 ^ 32
ReadsPart (label octets) = (tokens_of octets ≡ name octets ∷ []) × (all_word octets ≡ true)

-- Each part reads as its token.
abbrev pub ReadParts : List Part → Type 0
ReadParts [] = Unit {0}
ReadParts (part ∷ parts) = ReadsPart part × ReadParts parts

ends-part : (part : Part) → part_ends part ≡ false → ends_word (part_octets part) ≡ false
ends-part (text octets) h = h
ends-part (num value) h = cc
ends-part (label octets) h = cc

begins-part : (part : Part) (more : List ℕ) → part_begins part ≡ false → is_run (part_octets part ++ more) ≡ false
begins-part (text []) more h = cc
begins-part (text (octet ∷ rest)) more h = h
begins-part (num value) more h = cc
begins-part (label octets) more h = cc

apart-parts : (part next : Part) (more : List ℕ) → not (part_ends part && part_begins next) ≡ true → (ends_word (part_octets part) && is_run (part_octets next ++ more)) ≡ false
apart-parts part next more h =
    elim (and_cases (part_ends part) (part_begins next) (not-true _ h)) [ inl e ↦ and_left _ _ (ends-part part e) | inr e ↦ and_right _ _ (begins-part next more e) ]

part_read : (part : Part) → ReadsPart part → tokens_of (part_octets part) ≡ part_tokens part
part_read (text octets) r = refl
part_read (num value) r = tokens_of-decimal value r
part_read (label octets) r = r.0

-- The octets of a spelling have its tokens.
pub parts_read : (parts : List Part) → is_apart parts ≡ true → ReadParts parts → tokens_of (spelling_octets parts) ≡ spelling_tokens parts
unfolding tokens_of pieces_of
parts_read [] h r = refl
parts_read (part ∷ []) h r = ap tokens_of (append-nil (part_octets part)) ∙ part_read part r.0 ∙ sym (append-nil (part_tokens part))
parts_read (part ∷ next ∷ parts) h r =
    let both = and_parts _ (is_apart (next ∷ parts)) h in
    let later = parts_read (next ∷ parts) both.1 r.1 in
    tokens_of-append (part_octets part) (spelling_octets (next ∷ parts)) (apart-parts part next (spelling_octets parts) both.0)
    ∙ ap (λ (ts : List Token). ts ++ tokens_of (spelling_octets (next ∷ parts))) (part_read part r.0)
    ∙ ap (λ (ts : List Token). part_tokens part ++ ts) later

-- Whether the octet neither ends a line nor begins a comment.
abbrev pub is_inline : ℕ → Bool
is_inline octet = not (octet == 10) && (not (octet == 13) && not (octet == 59))

-- Whether this is so for every octet.
abbrev pub all_inline : List ℕ → Bool
all_inline [] = true
all_inline (octet ∷ rest) = is_inline octet && all_inline rest

all_inline-append : (some more : List ℕ) → all_inline some ≡ true → all_inline more ≡ true → all_inline (some ++ more) ≡ true
all_inline-append [] more h g = g
all_inline-append (octet ∷ some) more h g =
    let both = and_parts (is_inline octet) (all_inline some) h in
    and_from _ _ both.0 (all_inline-append some more both.1 g)

other_by : (octet n : ℕ) (t : Bool) → (octet == n) ≡ t → is_word n ≡ false → is_word octet ≡ true → not t ≡ true
other_by octet n false e f h = refl
other_by octet n true e f h =
    let same : octet ≡ n = eqb-true octet n e in
    let both : false ≡ true = sym f ∙ sym (ap is_word same) ∙ h in
    cc

other_octet : (octet n : ℕ) → is_word n ≡ false → is_word octet ≡ true → not (octet == n) ≡ true
other_octet octet n f h = other_by octet n (octet == n) refl f h

-- Octets of words neither end a line nor begin a comment.
word_inline : (octet : ℕ) → is_word octet ≡ true → is_inline octet ≡ true
word_inline octet h = and_from _ _ (other_octet octet 10 refl h) (and_from _ _ (other_octet octet 13 refl h) (other_octet octet 59 refl h))

words_inline : (octets : List ℕ) → all_word octets ≡ true → all_inline octets ≡ true
words_inline [] h = refl
words_inline (octet ∷ rest) h =
    let both = and_parts (is_word octet) (all_word rest) h in
    and_from _ _ (word_inline octet both.0) (words_inline rest both.1)

-- Whether the texts of the parts have only such octets.
abbrev pub texts_inline : List Part → Bool
texts_inline [] = true
texts_inline (text octets ∷ parts) = all_inline octets && texts_inline parts
texts_inline (_ ∷ parts) = texts_inline parts

-- Then so have the octets of the whole spelling.
pub parts_inline : (parts : List Part) → texts_inline parts ≡ true → ReadParts parts → all_inline (spelling_octets parts) ≡ true
parts_inline [] h r = refl
parts_inline (text octets ∷ parts) h r =
    let both = and_parts (all_inline octets) (texts_inline parts) h in
    all_inline-append octets (spelling_octets parts) both.0 (parts_inline parts both.1 r.1)
parts_inline (num value ∷ parts) h r =
    all_inline-append (decimal value) (spelling_octets parts) (words_inline (decimal value) (decimal_word value (omega arith))) (parts_inline parts h r.1)
parts_inline (label octets ∷ parts) h r =
    all_inline-append octets (spelling_octets parts) (words_inline octets r.0.1) (parts_inline parts h r.1)

-- Such an octet is none of the three.
inline_tests : (octet : ℕ) → is_inline octet ≡ true → ((octet == 10) ≡ false) × ((octet == 13) ≡ false) × ((octet == 59) ≡ false)
inline_tests octet h =
    let both = and_parts (not (octet == 10)) (not (octet == 13) && not (octet == 59)) h in
    let inner = and_parts (not (octet == 13)) (not (octet == 59)) both.1 in
    (not-true _ both.0, not-true _ inner.0, not-true _ inner.1)

-- An octet that fails the test comes before the first that passes.
pub before_more : (octet : ℕ) (rest : List ℕ) (count : ℕ) (t : Bool) → t ≡ false → take (cond (not t) (1 + count) 0) (octet ∷ rest) ≡ octet ∷ take count rest
before_more octet rest count true e = cc
before_more octet rest count false e = rw one-add refl

-- A line of such octets has no comment.
pub inline_whole : (octets : List ℕ) → all_inline octets ≡ true → before_first (λ octet. octet == 59) octets ≡ octets
inline_whole [] h = refl
inline_whole (octet ∷ rest) h =
    let both = and_parts (is_inline octet) (all_inline rest) h in
    let tests = inline_tests octet both.0 in
    before_more octet rest _ (octet == 59) tests.2 ∙ ap (λ (xs : List ℕ). octet ∷ xs) (inline_whole rest both.1)

inline_free : (line : List ℕ) → all_inline line ≡ true → no_feed line ≡ true
inline_free [] h = refl
inline_free (octet ∷ line) h =
    let both = and_parts (is_inline octet) (all_inline line) h in
    rw ((inline_tests octet both.0).0) (inline_free line both.1)

inline_at : (line : List ℕ) (at : ℕ) → all_inline line ≡ true → (get_or line at 0 == 13) ≡ false
inline_at [] at h = refl
inline_at (octet ∷ line) zero h = let both = and_parts (is_inline octet) (all_inline line) h in (inline_tests octet both.0).1
inline_at (octet ∷ line) (suc at) h = let both = and_parts (is_inline octet) (all_inline line) h in inline_at line at both.1

-- Such a line is the first of a text if a line feed ends it.
pub source_lines-line : (line rest : List ℕ) → all_inline line ≡ true → source_lines (line ++ 10 ∷ rest) ≡ line ∷ source_lines rest
source_lines-line line rest h =
    let whole : without_return line ≡ line = rw (inline_at line (length line - 1) h) refl in
    line_ended line rest (inline_free line h) ∙ ap (λ l. l ∷ source_lines rest) whole

-- Whether no token is `-`.
abbrev pub no_minus : List Token → Bool
no_minus [] = true
no_minus (mark octet ∷ tokens) = not (octet == 45) && no_minus tokens
no_minus (_ ∷ tokens) = no_minus tokens

after_same : (octet : ℕ) (tokens : List Token) → no_minus tokens ≡ true → signed_after (mark octet) tokens ≡ mark octet ∷ tokens
after_same octet [] h = refl
after_same octet (name octets ∷ tokens) h = refl
after_same octet (number value ∷ tokens) h = refl
after_same octet (faulty ∷ tokens) h = refl
after_same octet (mark minus ∷ []) h = refl
after_same octet (mark minus ∷ name octets ∷ tokens) h = refl
after_same octet (mark minus ∷ faulty ∷ tokens) h = refl
after_same octet (mark minus ∷ mark other ∷ tokens) h = refl
after_same octet (mark minus ∷ number value ∷ tokens) h =
    let both = and_parts (not (minus == 45)) (no_minus tokens) h in
    let no : (octet == 35 && minus == 45) ≡ false = and_right _ _ (not-true _ both.0) in
    rw no refl

-- Such tokens are read unchanged.
pub signed_same : (tokens : List Token) → no_minus tokens ≡ true → signed tokens ≡ tokens
unfolding signed
signed_same [] h = refl
signed_same (name octets ∷ tokens) h = ap (λ (ts : List Token). name octets ∷ ts) (signed_same tokens h)
signed_same (number value ∷ tokens) h = ap (λ (ts : List Token). number value ∷ ts) (signed_same tokens h)
signed_same (faulty ∷ tokens) h = ap (λ (ts : List Token). faulty ∷ ts) (signed_same tokens h)
signed_same (mark octet ∷ tokens) h =
    let both = and_parts (not (octet == 45)) (no_minus tokens) h in
    ap (signed_after (mark octet)) (signed_same tokens both.1) ∙ after_same octet tokens both.1
