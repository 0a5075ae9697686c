-- The pieces and tokens of a line.
use Rattle.std.proofs.Common.{◌≡◌, ℕ, Bool, true, false, ◌&&◌, if◌then◌else◌, List, [], ◌∷◌, ◌++◌, refl, ap, ◌∙◌, ◌==◌, ◌<◌, length, inl, inr, arith}
use Rattle.std.specs.List.{filter_map}
use Rattle.std.proofs.lemmas.List.Elements.{filter_map-append}
use Rattle.std.proofs.lemmas.Bool.{and_left, and_parts, and_right, eqb-true, or_cases}
use Rattle.bpf_asm.specs.Tokens.{Token, is_run, is_word, joined, pieces_of, token_of, tokens_of, word_token, mark}
use Rattle.bpf_asm.specs.inner.WordRuns.{all_word}
use Rattle.text_io.specs.Words.{is_blank}

-- The text ends in an octet of a word.
abbrev pub ends_word : List ℕ → Bool
ends_word [] = false
ends_word (octet ∷ []) = is_word octet
ends_word (octet ∷ next ∷ rest) = ends_word (next ∷ rest)

-- The first piece is a run.
abbrev first_run : List (List ℕ) → Bool
first_run [] = false
first_run (piece ∷ pieces) = is_run piece

joined-run : (octet : ℕ) (pieces : List (List ℕ)) → first_run (joined octet pieces) ≡ is_word octet
joined-run octet [] = refl
joined-run octet (piece ∷ pieces) =
    elim (is_word octet && is_run piece) as (λ t. first_run (if t then (octet ∷ piece) ∷ pieces else (octet ∷ []) ∷ piece ∷ pieces) ≡ is_word octet) [ true ↦ refl | false ↦ refl ]

-- Pieces begin as the text does.
pieces_run : (text : List ℕ) → first_run (pieces_of text) ≡ is_run text
unfolding pieces_of
pieces_run [] = refl
pieces_run (octet ∷ rest) = joined-run octet (pieces_of rest)

joined-apart : (octet : ℕ) (pieces : List (List ℕ)) → (is_word octet && first_run pieces) ≡ false → joined octet pieces ≡ (octet ∷ []) ∷ pieces
joined-apart octet [] h = refl
joined-apart octet (piece ∷ pieces) h = rw h refl

joined-append : (octet : ℕ) (piece : List ℕ) (pieces more : List (List ℕ)) → joined octet (piece ∷ pieces ++ more) ≡ joined octet (piece ∷ pieces) ++ more
joined-append octet piece pieces more =
    elim (is_word octet && is_run piece) as (λ t. (if t then (octet ∷ piece) ∷ (pieces ++ more) else (octet ∷ []) ∷ piece ∷ (pieces ++ more)) ≡ (if t then (octet ∷ piece) ∷ pieces else (octet ∷ []) ∷ piece ∷ pieces) ++ more) [ true ↦ refl | false ↦ refl ]

-- A text that isn't empty has some piece.
joined-some : (octet : ℕ) (pieces more : List (List ℕ)) (next : ℕ) → joined octet (joined next pieces ++ more) ≡ joined octet (joined next pieces) ++ more
joined-some octet [] more next = joined-append octet (next ∷ []) [] more
joined-some octet (piece ∷ pieces) more next =
    elim (is_word next && is_run piece) as (λ t. joined octet ((if t then (next ∷ piece) ∷ pieces else (next ∷ []) ∷ piece ∷ pieces) ++ more) ≡ joined octet (if t then (next ∷ piece) ∷ pieces else (next ∷ []) ∷ piece ∷ pieces) ++ more)
    [ true ↦ joined-append octet (next ∷ piece) pieces more | false ↦ joined-append octet (next ∷ []) (piece ∷ pieces) more ]

-- Two texts have the pieces of each, if the first doesn't run into the second.
pub pieces_of-append : (text more : List ℕ) → (ends_word text && is_run more) ≡ false → pieces_of (text ++ more) ≡ pieces_of text ++ pieces_of more
unfolding pieces_of
pieces_of-append [] more h = refl
pieces_of-append (octet ∷ []) more h =
    let apart : (is_word octet && first_run (pieces_of more)) ≡ false = rw pieces_run h in
    joined-apart octet (pieces_of more) apart
pieces_of-append (octet ∷ next ∷ rest) more h =
    ap (joined octet) (pieces_of-append (next ∷ rest) more h) ∙ joined-some octet (pieces_of rest) (pieces_of more) next

-- The same for their tokens.
pub tokens_of-append : (text more : List ℕ) → (ends_word text && is_run more) ≡ false → tokens_of (text ++ more) ≡ tokens_of text ++ tokens_of more
unfolding tokens_of
tokens_of-append text more h = ap (filter_map token_of) (pieces_of-append text more h) ∙ filter_map-append token_of (pieces_of text) (pieces_of more)

pieces_of-word : (octet : ℕ) (rest : List ℕ) → all_word (octet ∷ rest) ≡ true → pieces_of (octet ∷ rest) ≡ (octet ∷ rest) ∷ []
unfolding pieces_of
pieces_of-word octet [] h = refl
pieces_of-word octet (next ∷ rest) h =
    let both = and_parts (is_word octet) (is_word next && all_word rest) h in
    let later = pieces_of-word next rest both.1 in
    let inner = and_parts (is_word next) (all_word rest) both.1 in
    ap (joined octet) later ∙ rw (both.0, inner.0) refl

-- A word is one token.
pub tokens_of-word : (octet : ℕ) (rest : List ℕ) → all_word (octet ∷ rest) ≡ true → tokens_of (octet ∷ rest) ≡ word_token (octet ∷ rest) ∷ []
unfolding tokens_of
tokens_of-word octet rest h =
    let both = and_parts (is_word octet) (all_word rest) h in
    ap (filter_map token_of) (pieces_of-word octet rest h) ∙ rw both.0 refl

blank_by : (octet n : ℕ) → is_word n ≡ false → (octet == n) ≡ true → is_word octet ≡ false
blank_by octet n f e = let same : octet ≡ n = eqb-true octet n e in rw same f

-- A blank doesn't belong to words.
pub blank_no_word : (octet : ℕ) → is_blank octet ≡ true → is_word octet ≡ false
blank_no_word octet h = elim (or_cases (octet == 32) (octet == 9) h) [ inl e ↦ blank_by octet 32 refl e | inr e ↦ blank_by octet 9 refl e ]

-- An octet that neither belongs to words nor is a blank is a token.
pub tokens_of-mark : (octet : ℕ) (rest : List ℕ) → is_word octet ≡ false → is_blank octet ≡ false → tokens_of (octet ∷ rest) ≡ mark octet ∷ tokens_of rest
unfolding tokens_of pieces_of
tokens_of-mark octet rest w b = tokens_of-append (octet ∷ []) rest (and_left _ _ w) ∙ ap (λ (ts : List Token). ts ++ tokens_of rest) {y = mark octet ∷ []} (rw (w, b) refl)

-- A blank is no token.
pub tokens_of-blank : (octet : ℕ) (rest : List ℕ) → is_blank octet ≡ true → tokens_of (octet ∷ rest) ≡ tokens_of rest
unfolding tokens_of pieces_of
tokens_of-blank octet rest b =
    let w = blank_no_word octet b in
    tokens_of-append (octet ∷ []) rest (and_left _ _ w) ∙ ap (λ (ts : List Token). ts ++ tokens_of rest) {y = []} (rw (w, b) refl)

-- A word is one token if no word follows it directly.
pub tokens_of-words : (word rest : List ℕ) → 0 < length word → all_word word ≡ true → is_run rest ≡ false → tokens_of (word ++ rest) ≡ word_token word ∷ tokens_of rest
tokens_of-words [] rest h w r = absurd (omega arith)
tokens_of-words (octet ∷ word) rest h w r =
    tokens_of-append (octet ∷ word) rest (and_right _ _ r) ∙ ap (λ (ts : List Token). ts ++ tokens_of rest) (tokens_of-word octet word w)
