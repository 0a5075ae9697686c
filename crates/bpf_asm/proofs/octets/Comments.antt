-- A line before its comment: by one octet, word or blank more.
use Rattle.std.proofs.Common.{◌≡◌, ℕ, suc, ◌+◌, ◌<◌, ◌≤◌, Bool, true, false, ◌==◌, List, [], ◌∷◌, ◌++◌, length, get_or, take, drop, refl, sym, ap, ◌∙◌, arith, length-take, take-append-drop}
use Rattle.std.specs.List.{position_or_len}
use Rattle.std.proofs.lemmas.Bool.{and_parts, eqb-true}
use Rattle.std.proofs.lemmas.List.{at_drop_more}
use Rattle.bpf_asm.specs.SourceLines.{without_comment}
use Rattle.bpf_asm.specs.Tokens.{is_run, is_word, mark, tokens_of, word_token}
use Rattle.bpf_asm.specs.inner.LineTokens.{line_tokens}
use Rattle.bpf_asm.specs.inner.WordRuns.{all_word}
use Rattle.text_io.specs.Words.{is_blank}
use Rattle.bpf_asm.proofs.octets.Pieces.{tokens_of-blank, tokens_of-mark, tokens_of-words}
use Rattle.bpf_asm.proofs.octets.Reading.{some_word, tokens_of-none}

-- An octet that passes a test which `;` fails isn't `;`.
other_octet : (octet : ℕ) (t : Bool) (test : ℕ → Bool) → t ≡ (octet == 59) → test 59 ≡ false → test octet ≡ true → t ≡ false
other_octet octet true test e fails passes =
    let same : octet ≡ 59 = eqb-true octet 59 (sym e) in
    let both : true ≡ false = sym passes ∙ ap test same ∙ fails in
    cc
other_octet octet false test e fails passes = refl

pub word_apart : (octet : ℕ) → is_word octet ≡ true → (octet == 59) ≡ false
word_apart octet w = other_octet octet (octet == 59) (λ o. is_word o) refl refl w

blank_apart : (octet : ℕ) → is_blank octet ≡ true → (octet == 59) ≡ false
blank_apart octet b = other_octet octet (octet == 59) (λ o. is_blank o) refl refl b

one_more : (octet : ℕ) (rest : List ℕ) (count : ℕ) → take (1 + count) (octet ∷ rest) ≡ octet ∷ take count rest
one_more octet rest count =
    let e : 1 + count ≡ suc count = omega arith in
    ap (λ (n : ℕ). take n (octet ∷ rest)) e

-- Any other octet is before the comment.
pub apart_comment : (octet : ℕ) (rest : List ℕ) → (octet == 59) ≡ false → without_comment (octet ∷ rest) ≡ octet ∷ without_comment rest
apart_comment octet rest h = rw h (one_more octet rest (position_or_len (λ o. o == 59) rest))

-- The first `;` begins it.
pub comment_first : (octet : ℕ) (rest : List ℕ) → (octet == 59) ≡ true → without_comment (octet ∷ rest) ≡ []
comment_first octet rest h = rw h refl

-- A word is before the comment.
comment_word : (word rest : List ℕ) → all_word word ≡ true → without_comment (word ++ rest) ≡ word ++ without_comment rest
comment_word [] rest w = refl
comment_word (octet ∷ word) rest w =
    let both = and_parts (is_word octet) (all_word word) w in
    apart_comment octet (word ++ rest) (word_apart octet both.0) ∙ ap (λ (xs : List ℕ). octet ∷ xs) (comment_word word rest both.1)

run_by : (octet : ℕ) (rest : List ℕ) (t : Bool) → (octet == 59) ≡ t → is_word octet ≡ false → is_run (without_comment (octet ∷ rest)) ≡ false
run_by octet rest true e h = rw (comment_first octet rest e) refl
run_by octet rest false e h = rw (apart_comment octet rest e) h

-- A text that doesn't begin with a word doesn't do so before its comment.
comment_run : (text : List ℕ) → is_run text ≡ false → is_run (without_comment text) ≡ false
comment_run [] h = refl
comment_run (octet ∷ rest) h = run_by octet rest (octet == 59) refl h

-- A text without octets has no token.
pub line_none : (text : List ℕ) → length text ≡ 0 → line_tokens text ≡ []
line_none [] h = tokens_of-none [] refl
line_none (octet ∷ rest) h = absurd (omega arith)

-- A comment has no token.
pub line_comment : (text : List ℕ) → 0 < length text → (get_or text 0 0 == 59) ≡ true → line_tokens text ≡ []
line_comment [] h e = absurd (omega arith)
line_comment (octet ∷ rest) h e = rw (comment_first octet rest e) (tokens_of-none [] refl)

-- A blank has no token.
line_tokens-blank : (octet : ℕ) (rest : List ℕ) → is_blank octet ≡ true → line_tokens (octet ∷ rest) ≡ line_tokens rest
line_tokens-blank octet rest b = rw (apart_comment octet rest (blank_apart octet b)) (tokens_of-blank octet (without_comment rest) b)

-- One more blank.
pub line_blank_more : (text : List ℕ) (at : ℕ) → at < length text → line_tokens (drop at text) ≡ line_tokens text → is_blank (get_or text at 0) ≡ true → line_tokens (drop (at + 1) text) ≡ line_tokens text
line_blank_more text at h e b = sym (line_tokens-blank (get_or text at 0) (drop (at + 1) text) b) ∙ sym (at_drop_more line_tokens text at 0 h) ∙ e

-- A text that begins with an octet which is a token by itself.
pub line_mark : (text : List ℕ) → 0 < length text → is_word (get_or text 0 0) ≡ false → (get_or text 0 0 == 59) ≡ false → is_blank (get_or text 0 0) ≡ false → line_tokens text ≡ mark (get_or text 0 0) ∷ line_tokens (drop 1 text)
line_mark [] h w c b = absurd (omega arith)
line_mark (octet ∷ rest) h w c b = rw (apart_comment octet rest c) (tokens_of-mark octet (without_comment rest) w b)

-- A text that begins with a word.
pub line_word : (text : List ℕ) (at : ℕ) → 0 < length text → at ≤ length text → is_word (get_or text 0 0) ≡ true → all_word (take at text) ≡ true → is_run (drop at text) ≡ false → line_tokens text ≡ word_token (take at text) ∷ line_tokens (drop at text)
line_word text at h n w a r =
    let some = some_word text at w r h in
    ap line_tokens (sym (take-append-drop at text))
    ∙ ap tokens_of (comment_word (take at text) (drop at text) a)
    ∙ tokens_of-words (take at text) (without_comment (drop at text)) (omega (arith, length-take at text)) a (comment_run (drop at text) r)
