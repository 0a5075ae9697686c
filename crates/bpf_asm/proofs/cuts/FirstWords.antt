-- The first word or mark of a text, as the cuts read it.
use Rattle.std.proofs.Common.{◌≡◌, ◌≢◌, ℕ, ◌<◌, Bool, true, false, not, ◌&&◌, ◌==◌, List, [], ◌∷◌, Option, Some, None, length, get_or, drop, refl, sym, ap, ◌∙◌, subst, arith, eq-eqb}
use Rattle.std.proofs.lemmas.Bool.{and_parts, ne_eqb, not-true}
use Rattle.text_io.specs.Words.{is_blank, is_digit}
use Rattle.bpf_asm.specs.Numbers.{number_of_word}
use Rattle.bpf_asm.specs.SourceLines.{without_comment}
use Rattle.bpf_asm.specs.Tokens.{Token, is_word, mark, name, number_token, signed_after, tokens_in, word_token}
use Rattle.bpf_asm.specs.inner.LineTokens.{line_tokens}
use Rattle.bpf_asm.specs.inner.Reading.{HasNoWord, cut_mark, cut_name, cut_number}
use Rattle.bpf_asm.specs.inner.WordRuns.{is_mark}
use Rattle.bpf_asm.proofs.cuts.Cuts.{cut_mark-found, mark_after, name_after, name_none, number_after, number_none, read_cons}
use Rattle.bpf_asm.proofs.cuts.Peeks.{none_no_cut, word_no_cut}
use Rattle.bpf_asm.proofs.octets.Comments.{line_comment, line_mark}
use Rattle.bpf_asm.proofs.octets.Reading.{name_word, word_token_read}

-- A token, and what follows it.
pub in_cons : (text rest : List ℕ) (token : Token) → line_tokens text ≡ token ∷ line_tokens rest → tokens_in text ≡ signed_after token (tokens_in rest)
unfolding tokens_in
in_cons text rest token e = read_cons (without_comment text) (without_comment rest) token e

-- A text that begins with an octet that is a token by itself.
in_mark : (first : ℕ) (rest : List ℕ) → is_word first ≡ false → (first == 59) ≡ false → is_blank first ≡ false → tokens_in (first ∷ rest) ≡ signed_after (mark first) (tokens_in rest)
in_mark first rest w e b = in_cons (first ∷ rest) rest (mark first) (line_mark (first ∷ rest) (omega arith) w e b)

-- The first octet is the mark.
pub mark_front : (octet : ℕ) (text : List ℕ) → is_mark octet ≡ true → 0 < length text → get_or text 0 0 ≡ octet → line_tokens text ≡ mark octet ∷ line_tokens (drop 1 text)
mark_front octet [] m some e = absurd (omega arith)
mark_front octet (first ∷ rest) m some e =
    let whole : is_mark first ≡ true = ap (λ (o : ℕ). is_mark o) e ∙ m in
    let parts = and_parts (not (is_word first)) (not (first == 59) && not (is_blank first)) whole in
    let more = and_parts (not (first == 59)) (not (is_blank first)) parts.1 in
    subst (λ (o : ℕ). line_tokens (first ∷ rest) ≡ mark o ∷ line_tokens rest) e
    (line_mark (first ∷ rest) (omega arith) (not-true _ parts.0) (not-true _ more.0) (not-true _ more.1))

-- The mark is cut.
pub mark_cut : (octet : ℕ) (text rest : List ℕ) → octet ≢ 35 → line_tokens text ≡ mark octet ∷ line_tokens rest → cut_mark octet (tokens_in text) ≡ Some (tokens_in rest)
mark_cut octet text rest h e = rw (in_cons text rest (mark octet) e, cut_mark-found octet (tokens_in rest) h, eq-eqb octet octet refl) refl

other_by : (octet first : ℕ) (rest : List ℕ) (w e : Bool) → is_word first ≡ w → (first == 59) ≡ e → is_blank first ≡ false → (first ≡ octet → ⊥) → cut_mark octet (tokens_in (first ∷ rest)) ≡ None
other_by octet first rest true e wi ei b n = word_no_cut (first ∷ rest) (omega arith) wi octet
other_by octet first rest false true wi ei b n = none_no_cut (first ∷ rest) (line_comment (first ∷ rest) (omega arith) ei) octet
other_by octet first rest false false wi ei b n = rw (in_mark first rest wi ei b) (mark_after first octet (tokens_in rest) (ne_eqb first octet n))

-- If the first octet is another one, the mark is not cut.
pub other_front : (octet : ℕ) (text : List ℕ) → 0 < length text → is_blank (get_or text 0 0) ≡ false → (get_or text 0 0 ≡ octet → ⊥) → cut_mark octet (tokens_in text) ≡ None
other_front octet [] some b n = absurd (omega arith)
other_front octet (first ∷ rest) some b n = other_by octet first rest (is_word first) (first == 59) refl refl b n

-- Without a token there is no word.
pub none_no_word : (text : List ℕ) → line_tokens text ≡ [] → HasNoWord (tokens_in text)
unfolding tokens_in
none_no_word text e = (name_none (without_comment text) e, number_none (without_comment text) e)

no_word_by : (first : ℕ) (rest : List ℕ) (t : Bool) → (first == 59) ≡ t → is_word first ≡ false → is_blank first ≡ false → HasNoWord (tokens_in (first ∷ rest))
no_word_by first rest true e w b = none_no_word (first ∷ rest) (line_comment (first ∷ rest) (omega arith) e)
no_word_by first rest false e w b = (
  rw (in_mark first rest w e b) (name_after first (tokens_in rest)),
  rw (in_mark first rest w e b) (number_after first (tokens_in rest)),
)

-- If the first octet doesn't belong to words, there is no word.
pub no_word : (text : List ℕ) → 0 < length text → is_word (get_or text 0 0) ≡ false → is_blank (get_or text 0 0) ≡ false → HasNoWord (tokens_in text)
no_word [] some w b = absurd (omega arith)
no_word (first ∷ rest) some w b = no_word_by first rest (first == 59) refl w b

number_no_name : (found : Option ℕ) (tokens : List Token) → cut_name (signed_after (number_token found) tokens) ≡ None
number_no_name (Some value) tokens = refl
number_no_name None tokens = refl

in_digit : (word text rest : List ℕ) → 0 < length word → is_digit (get_or word 0 0) ≡ true → line_tokens text ≡ word_token word ∷ line_tokens rest → tokens_in text ≡ signed_after (number_token (number_of_word word)) (tokens_in rest)
in_digit word text rest h d e =
    let token : word_token word ≡ number_token (number_of_word word) = rw (word_token_read word h, d) refl in
    in_cons text rest (number_token (number_of_word word)) (e ∙ ap (λ (t : Token). t ∷ line_tokens rest) token)

in_name : (word text rest : List ℕ) → 0 < length word → is_digit (get_or word 0 0) ≡ false → line_tokens text ≡ word_token word ∷ line_tokens rest → tokens_in text ≡ signed_after (name word) (tokens_in rest)
in_name word text rest h d e = in_cons text rest (name word) (e ∙ ap (λ (t : Token). t ∷ line_tokens rest) (sym (name_word word h d)))

-- A word that begins with a digit is not a name.
pub digit_no_name : (word text rest : List ℕ) → 0 < length word → is_digit (get_or word 0 0) ≡ true → line_tokens text ≡ word_token word ∷ line_tokens rest → cut_name (tokens_in text) ≡ None
digit_no_name word text rest h d e = rw (in_digit word text rest h d e) (number_no_name (number_of_word word) (tokens_in rest))

-- Any other word is a name.
pub name_cut : (word text rest : List ℕ) → 0 < length word → is_digit (get_or word 0 0) ≡ false → line_tokens text ≡ word_token word ∷ line_tokens rest → cut_name (tokens_in text) ≡ Some (word, tokens_in rest)
name_cut word text rest h d e = ap cut_name (in_name word text rest h d e)

-- And it is not a number.
pub name_no_number : (word text rest : List ℕ) → 0 < length word → is_digit (get_or word 0 0) ≡ false → line_tokens text ≡ word_token word ∷ line_tokens rest → cut_number (tokens_in text) ≡ None
name_no_number word text rest h d e = ap cut_number (in_name word text rest h d e)

-- A word that begins with a digit is the number that it spells.
pub number_cut : (word text rest : List ℕ) (value : ℕ) → 0 < length word → is_digit (get_or word 0 0) ≡ true → number_of_word word ≡ Some value → line_tokens text ≡ word_token word ∷ line_tokens rest → cut_number (tokens_in text) ≡ Some (value, tokens_in rest)
number_cut word text rest value h d n e = rw (in_digit word text rest h d e, n) refl

-- If it spells no number, there is no number.
pub faulty_no_number : (word text rest : List ℕ) → 0 < length word → is_digit (get_or word 0 0) ≡ true → number_of_word word ≡ None → line_tokens text ≡ word_token word ∷ line_tokens rest → cut_number (tokens_in text) ≡ None
faulty_no_number word text rest h d n e = rw (in_digit word text rest h d e, n) refl
