-- Words and numbers, octet by octet.
use Rattle.std.proofs.Common.{◌≡◌, ℕ, ◌+◌, ◌*◌, ◌<◌, ◌≤◌, ◌^◌, true, false, ◌&&◌, nat_lt, if◌then◌else◌, List, [], ◌∷◌, ◌++◌, length, get_or, take, drop, Option, Some, None, refl, sym, ap, ◌∙◌, arith, zero, suc, ◌==◌, ◌||◌, length-take, take-append-drop}
use Rattle.std.proofs.lemmas.Bool.{and_from, and_parts, le-ltb, lt-ltb}
use Rattle.std.proofs.lemmas.List.{at_drop_all, at_drop_more, drop_more, take_more}
use Rattle.bpf_asm.specs.Numbers.{digit_of, is_hexadecimal, number_of_word, value_after, value_in, within_word}
use Rattle.bpf_asm.specs.Tokens.{is_run, is_word, mark, name, number, faulty, number_token, pieces_of, tokens_of, word_token}
use Rattle.bpf_asm.specs.inner.WordRuns.{all_word}
use Rattle.text_io.specs.Words.{is_blank, is_digit}
use Rattle.bpf_asm.proofs.octets.Pieces.{tokens_of-blank, tokens_of-mark, tokens_of-words}

all_word-snoc : (word : List ℕ) (octet : ℕ) → all_word word ≡ true → is_word octet ≡ true → all_word (word ++ octet ∷ []) ≡ true
all_word-snoc [] octet w h = rw h refl
all_word-snoc (first ∷ word) octet w h =
    let both = and_parts (is_word first) (all_word word) w in
    and_from _ _ both.0 (all_word-snoc word octet both.1 h)

-- One more octet of a word.
pub word_more : (text : List ℕ) (at : ℕ) → at < length text → all_word (take at text) ≡ true → is_word (get_or text at 0) ≡ true → all_word (take (at + 1) text) ≡ true
word_more text at h w o = ap all_word (take_more text at 0 h) ∙ all_word-snoc (take at text) (get_or text at 0) w o

-- An octet that doesn't belong to words.
pub word_stops : (text : List ℕ) (at : ℕ) → at < length text → is_word (get_or text at 0) ≡ false → is_run (drop at text) ≡ false
word_stops text at h o = at_drop_more is_run text at 0 h ∙ o

-- One more blank.
pub blank_more : (text : List ℕ) (at : ℕ) → at < length text → tokens_of (drop at text) ≡ tokens_of text → is_blank (get_or text at 0) ≡ true → tokens_of (drop (at + 1) text) ≡ tokens_of text
blank_more text at h e b = sym (tokens_of-blank (get_or text at 0) (drop (at + 1) text) b) ∙ sym (at_drop_more tokens_of text at 0 h) ∙ e

-- An octet that isn't a blank.
pub blank_stops : (text : List ℕ) (at : ℕ) → at < length text → is_blank (get_or text at 0) ≡ false → is_blank (get_or (drop at text) 0 0) ≡ false
blank_stops text at h b = ap (λ (xs : List ℕ). is_blank (get_or xs 0 0)) (drop_more text at 0 h) ∙ b

-- A text without octets has no token.
pub tokens_of-none : (text : List ℕ) → length text ≡ 0 → tokens_of text ≡ []
unfolding tokens_of pieces_of
tokens_of-none [] h = refl
tokens_of-none (octet ∷ rest) h = absurd (omega arith)

-- A text that begins with an octet that neither belongs to words nor is a blank.
pub mark_first : (text : List ℕ) → 0 < length text → is_word (get_or text 0 0) ≡ false → is_blank (get_or text 0 0) ≡ false → tokens_of text ≡ mark (get_or text 0 0) ∷ tokens_of (drop 1 text)
mark_first [] h w b = absurd (omega arith)
mark_first (octet ∷ rest) h w b = tokens_of-mark octet rest w b

-- A run that begins with an octet of a word isn't empty.
pub some_word : (text : List ℕ) (at : ℕ) → is_word (get_or text 0 0) ≡ true → is_run (drop at text) ≡ false → 0 < length text → 0 < at
some_word [] at w r h = absurd (omega arith)
some_word (octet ∷ rest) zero w r h = let both : true ≡ false = sym w ∙ r in cc
some_word (octet ∷ rest) (suc at) w r h = omega arith

-- A text that begins with a word.
pub word_first : (text : List ℕ) (at : ℕ) → 0 < length text → at ≤ length text → is_word (get_or text 0 0) ≡ true → all_word (take at text) ≡ true → is_run (drop at text) ≡ false → tokens_of text ≡ word_token (take at text) ∷ tokens_of (drop at text)
word_first text at h n w a r =
    let some = some_word text at w r h in
    ap tokens_of (sym (take-append-drop at text)) ∙ tokens_of-words (take at text) (drop at text) (omega (arith, length-take at text)) a r

-- A word of two or more octets.
pub hexadecimal_read : (word : List ℕ) → 2 ≤ length word → is_hexadecimal word ≡ (get_or word 0 0 == 48 && (get_or word 1 0 == 120 || get_or word 1 0 == 88))
hexadecimal_read [] h = absurd (omega arith)
hexadecimal_read (octet ∷ []) h = absurd (omega arith)
hexadecimal_read (octet ∷ sign ∷ rest) h = refl

-- A shorter word is decimal.
pub hexadecimal_short : (word : List ℕ) → length word < 2 → is_hexadecimal word ≡ false
hexadecimal_short [] h = refl
hexadecimal_short (octet ∷ []) h = refl
hexadecimal_short (octet ∷ sign ∷ rest) h = absurd (omega arith)

-- The token of a word, from its first octet.
pub word_token_read : (word : List ℕ) → 0 < length word → word_token word ≡ (if is_digit (get_or word 0 0) then number_token (number_of_word word) else name word)
unfolding word_token
word_token_read [] h = absurd (omega arith)
word_token_read (octet ∷ rest) h = refl

-- A word that is a number.
pub number_word : (word : List ℕ) (value : ℕ) → 0 < length word → is_digit (get_or word 0 0) ≡ true → number_of_word word ≡ Some value → number value ≡ word_token word
number_word word value h d n = rw (word_token_read word h, d, n) refl

-- A word that is no number and begins with a digit.
pub faulty_word : (word : List ℕ) → 0 < length word → is_digit (get_or word 0 0) ≡ true → number_of_word word ≡ None → faulty ≡ word_token word
faulty_word word h d n = rw (word_token_read word h, d, n) refl

-- A word that is a name.
pub name_word : (word : List ℕ) → 0 < length word → is_digit (get_or word 0 0) ≡ false → name word ≡ word_token word
name_word word h d = rw (word_token_read word h, d) refl

value_after-step : (base high octet : ℕ) (rest : List ℕ) → value_after base high (octet ∷ rest) ≡ (if nat_lt (digit_of octet) base then value_after base (high * base + digit_of octet) rest else None)
unfolding value_after
value_after-step base high octet rest = refl

value_in-some : (base : ℕ) (digits : List ℕ) → 0 < length digits → value_in base digits ≡ value_after base 0 digits
value_in-some base [] h = absurd (omega arith)
value_in-some base (octet ∷ rest) h = refl

-- One more digit.
pub value_more : (base high : ℕ) (digits : List ℕ) (at : ℕ) (whole : Option ℕ) → at < length digits → digit_of (get_or digits at 0) < base → value_after base high (drop at digits) ≡ whole → value_after base (high * base + digit_of (get_or digits at 0)) (drop (at + 1) digits) ≡ whole
value_more base high digits at whole h d e =
    let l = lt-ltb (digit_of (get_or digits at 0)) base d in
    sym (at_drop_more (value_after base high) digits at 0 h ∙ value_after-step base high (get_or digits at 0) (drop (at + 1) digits) ∙ rw l refl) ∙ e

-- An octet that isn't a digit.
pub value_stops : (base high : ℕ) (digits : List ℕ) (at : ℕ) → at < length digits → base ≤ digit_of (get_or digits at 0) → value_after base high (drop at digits) ≡ value_after base 0 digits → None ≡ within_word (value_in base digits)
value_stops base high digits at h d e =
    let l = le-ltb (digit_of (get_or digits at 0)) base d in
    let none : value_after base high (drop at digits) ≡ None = at_drop_more (value_after base high) digits at 0 h ∙ value_after-step base high (get_or digits at 0) (drop (at + 1) digits) ∙ rw l refl in
    sym (ap within_word (value_in-some base digits (omega arith) ∙ sym e ∙ none))

large_times : (high base : ℕ) → 1 ≤ base → high ≤ high * base
large_times high base b = grind arith

large_none : (base high : ℕ) (digits : List ℕ) → 1 ≤ base → 2 ^ 32 ≤ high → within_word (value_after base high digits) ≡ None
unfolding value_after
large_none base high [] b h = rw (le-ltb high (2 ^ 32) h) refl
large_none base high (octet ∷ rest) b h =
    let more : high ≤ high * base = large_times high base b in
    elim (nat_lt (digit_of octet) base) as (λ t. within_word (if t then value_after base (high * base + digit_of octet) rest else None) ≡ None)
    [ true ↦ large_none base (high * base + digit_of octet) rest b (omega arith) | false ↦ refl ]

-- A number that is too large.
pub value_large : (base high : ℕ) (digits rest : List ℕ) → 0 < length digits → 1 ≤ base → 2 ^ 32 ≤ high → value_after base high rest ≡ value_after base 0 digits → None ≡ within_word (value_in base digits)
value_large base high digits rest some b h e =
    sym (ap within_word (value_in-some base digits some ∙ sym e) ∙ large_none base high rest b h)

-- The whole number.
pub value_end : (base high : ℕ) (digits : List ℕ) (at : ℕ) → 0 < length digits → length digits ≤ at → high < 2 ^ 32 → value_after base high (drop at digits) ≡ value_after base 0 digits → Some high ≡ within_word (value_in base digits)
unfolding value_after
value_end base high digits at some h l e =
    let whole : value_after base high (drop at digits) ≡ Some high = at_drop_all (value_after base high) digits at h in
    sym (ap within_word (value_in-some base digits some ∙ sym e ∙ whole) ∙ rw (lt-ltb high (2 ^ 32) l) refl)
