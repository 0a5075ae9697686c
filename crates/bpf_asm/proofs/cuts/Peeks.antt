-- The first token of a text, from its first octet.
use Rattle.std.proofs.Common.{◌≡◌, ℕ, ◌<◌, Bool, true, false, ◌&&◌, ◌==◌, if◌then◌else◌, List, [], ◌∷◌, Option, Some, None, length, get_or, drop, refl, sym, ap, ◌∙◌, arith}
use Rattle.std.specs.List.{cons_option, filter_map}
use Rattle.text_io.specs.Words.{is_blank, is_digit}
use Rattle.bpf_asm.specs.inner.Reading.{cut_mark, is_ended}
use Rattle.bpf_asm.specs.Numbers.{number_of_word}
use Rattle.bpf_asm.specs.SourceLines.{without_comment}
use Rattle.bpf_asm.specs.Tokens.{Token, name, mark, is_run, is_word, joined, number_token, pieces_of, signed, signed_after, token_of, tokens_in, tokens_of, tokens_read, word_token}
use Rattle.bpf_asm.specs.inner.LineTokens.{line_tokens}
use Rattle.bpf_asm.proofs.cuts.Cuts.{mark_none, read_none, some_after}
use Rattle.bpf_asm.proofs.octets.Comments.{apart_comment, comment_first, word_apart}
use Rattle.bpf_asm.proofs.octets.Reading.{mark_first, tokens_of-none}

-- A piece that begins with an octet of a word.
word-token_of : (octet : ℕ) (rest : List ℕ) → is_word octet ≡ true → token_of (octet ∷ rest) ≡ Some (word_token (octet ∷ rest))
word-token_of octet rest w =
    ap (λ (t : Bool). if t then Some (word_token (octet ∷ rest)) else (if is_blank octet then None else Some (mark octet))) w

-- An octet of a word begins the first token.
begun : (octet : ℕ) (pieces : List (List ℕ)) → is_word octet ≡ true
    → (word : List ℕ) × (tokens : List Token) × (filter_map token_of (joined octet pieces) ≡ word_token (octet ∷ word) ∷ tokens)
begun octet [] w = ([], [], ap (λ (o : Option Token). cons_option o []) (word-token_of octet [] w))
begun octet (piece ∷ pieces) w =
    elim (is_run piece) as (λ r. (word : List ℕ) × (tokens : List Token) × (filter_map token_of (if is_word octet && r then (octet ∷ piece) ∷ pieces else (octet ∷ []) ∷ piece ∷ pieces) ≡ word_token (octet ∷ word) ∷ tokens)) [
      | true ↦ (
        piece,
        filter_map token_of pieces,
        ap (λ (t : Bool). filter_map token_of (if t && true then (octet ∷ piece) ∷ pieces else (octet ∷ []) ∷ piece ∷ pieces)) w
            ∙ ap (λ (o : Option Token). cons_option o (filter_map token_of pieces)) (word-token_of octet piece w),
      )
      | false ↦ (
        [],
        filter_map token_of (piece ∷ pieces),
        ap (λ (t : Bool). filter_map token_of (if t && false then (octet ∷ piece) ∷ pieces else (octet ∷ []) ∷ piece ∷ pieces)) w
            ∙ ap (λ (o : Option Token). cons_option o (filter_map token_of (piece ∷ pieces))) (word-token_of octet [] w),
      )
    ]

word-begun : (octet : ℕ) (rest : List ℕ) → is_word octet ≡ true
    → (word : List ℕ) × (tokens : List Token) × (tokens_of (octet ∷ rest) ≡ word_token (octet ∷ word) ∷ tokens)
unfolding tokens_of pieces_of
word-begun octet rest w = begun octet (pieces_of rest) w

-- A number is not a mark.
number-no_mark : (octet : ℕ) (found : Option ℕ) (tokens : List Token) → cut_mark octet (signed_after (number_token found) tokens) ≡ None
number-no_mark octet (Some value) tokens = refl
number-no_mark octet None tokens = refl

word-no_mark : (octet first : ℕ) (word : List ℕ) (tokens : List Token) → cut_mark octet (signed_after (word_token (first ∷ word)) tokens) ≡ None
unfolding word_token
word-no_mark octet first word tokens =
    elim (is_digit first) as (λ d. cut_mark octet (signed_after (if d then number_token (number_of_word (first ∷ word)) else name (first ∷ word)) tokens) ≡ None) [
      | true ↦ number-no_mark octet (number_of_word (first ∷ word)) tokens
      | false ↦ refl
    ]

read-begun : (text : List ℕ) (token : Token) (tokens : List Token) → tokens_of text ≡ token ∷ tokens → tokens_read text ≡ signed_after token (signed tokens)
unfolding tokens_read signed
read-begun text token tokens e = ap signed e

-- If the text begins with a word, no mark is cut.
no_mark : (text : List ℕ) → 0 < length text → is_word (get_or text 0 0) ≡ true → (octet : ℕ) → cut_mark octet (tokens_read text) ≡ None
no_mark [] some w octet = absurd (omega arith)
no_mark (first ∷ rest) some w octet =
    let begins = word-begun first rest w in
    rw (read-begun (first ∷ rest) (word_token (first ∷ begins.0)) begins.1 begins.2) (word-no_mark octet first begins.0 (signed begins.1))

read-same : (text skipped : List ℕ) → tokens_of skipped ≡ tokens_of text → tokens_read skipped ≡ tokens_read text
unfolding tokens_read
read-same text skipped e = ap signed e

-- The same for the text before its comment.
pub word_no_cut : (text : List ℕ) → 0 < length text → is_word (get_or text 0 0) ≡ true → (octet : ℕ) → cut_mark octet (tokens_in text) ≡ None
unfolding tokens_in
word_no_cut [] some w octet = absurd (omega arith)
word_no_cut (first ∷ rest) some w octet = rw (apart_comment first rest (word_apart first w)) (no_mark (first ∷ without_comment rest) (omega arith) w octet)

-- Without a token no mark is cut.
pub none_no_cut : (text : List ℕ) → line_tokens text ≡ [] → (octet : ℕ) → cut_mark octet (tokens_in text) ≡ None
unfolding tokens_in
none_no_cut text e octet = mark_none octet (without_comment text) e

pub line_same : (text skipped : List ℕ) → line_tokens skipped ≡ line_tokens text → tokens_in skipped ≡ tokens_in text
unfolding tokens_in
line_same text skipped e = read-same (without_comment text) (without_comment skipped) e

-- A text that doesn't begin with a blank has a token.
first-token : (first : ℕ) (rest : List ℕ) (b : Bool) → is_word first ≡ b → is_blank first ≡ false → is_ended (tokens_read (first ∷ rest)) ≡ false
first-token first rest true w blank =
    let begins = word-begun first rest w in
    ap is_ended (read-begun (first ∷ rest) (word_token (first ∷ begins.0)) begins.1 begins.2) ∙ some_after (word_token (first ∷ begins.0)) (signed begins.1)
first-token first rest false w blank =
    let begins = mark_first (first ∷ rest) (omega arith) w blank in
    ap is_ended (read-begun (first ∷ rest) (mark first) (tokens_of (drop 1 (first ∷ rest))) begins) ∙ some_after (mark first) (signed (tokens_of (drop 1 (first ∷ rest))))

-- Without a token the end is reached.
pub spent_none : (text : List ℕ) → line_tokens text ≡ [] → true ≡ is_ended (tokens_in text)
unfolding tokens_in
spent_none text e = sym (ap is_ended (read_none (without_comment text) e))

spent_by : (first : ℕ) (rest : List ℕ) (t : Bool) → (first == 59) ≡ t → is_blank first ≡ false → t ≡ is_ended (tokens_in (first ∷ rest))
unfolding tokens_in
spent_by first rest true e blank = rw (comment_first first rest e) (sym (ap is_ended (read_none [] (tokens_of-none [] refl))))
spent_by first rest false e blank = rw (apart_comment first rest e) (sym (first-token first (without_comment rest) (is_word first) refl blank))

-- After blanks the first octet decides whether a token is left: there is none if a comment begins.
pub spent_first : (text : List ℕ) → 0 < length text → is_blank (get_or text 0 0) ≡ false → (get_or text 0 0 == 59) ≡ is_ended (tokens_in text)
spent_first [] some blank = absurd (omega arith)
spent_first (first ∷ rest) some blank = spent_by first rest (first == 59) refl blank
