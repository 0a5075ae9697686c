-- A comment at the end of a line changes none of the line's tokens.
use Rattle.std.proofs.Common.{◌≡◌, ℕ, zero, suc, ◌-◌, ◌/◌, ◌%◌, ◌^◌, ◌<◌, decimal, subst, Bool, true, false, not, ◌&&◌, ◌==◌, List, [], ◌∷◌, ◌++◌, codes, length, get_or, refl, sym, ap, ◌∙◌, append-nil, append_assoc}
use Rattle.std.proofs.lemmas.Bool.{and_from, and_parts, and_right, not-true}
use Rattle.bpf_asm.proofs.listings.Apart.{all_inline, inline_whole, is_inline, parts_inline}
use Rattle.bpf_asm.proofs.octets.Comments.{apart_comment, comment_first}
use Rattle.bpf_asm.proofs.octets.LineCuts.{line_ended}
use Rattle.bpf_asm.proofs.octets.Pieces.{ends_word, tokens_of-append}
use Rattle.bpf_asm.specs.SourceLines.{source_lines, without_comment}
use Rattle.bpf_asm.specs.StatementSpelling.{num}
use Rattle.bpf_asm.specs.Tokens.{pieces_of, signed, tokens_in, tokens_of, tokens_read}
use Rattle.bpf_asm.specs.inner.Feeds.{no_feed}
use Rattle.hex.specs.Hex.{encode_lower, encode_with, lower_digits}
use Rattle.text_io.specs.Lines.{without_return}
use Rattle.cmd_list.specs.Comments.{commented}
use Rattle.cmd_list.specs.ListedProgram.{longest_line}

-- Before a comment, the line has its own octets and a blank.
cut : (listed comment : List ℕ) → all_inline listed ≡ true → without_comment (listed ++ (codes " ; " ++ comment)) ≡ listed ++ 32 ∷ []
cut [] comment h = apart_comment 32 (59 ∷ 32 ∷ comment) refl ∙ ap (λ (rest : List ℕ). 32 ∷ rest) (comment_first 59 (32 ∷ comment) refl)
cut (octet ∷ listed) comment h =
    let both = and_parts (is_inline octet) (all_inline listed) h in
    let others = and_parts (not (octet == 10)) (not (octet == 13) && not (octet == 59)) both.0 in
    let last = and_parts (not (octet == 13)) (not (octet == 59)) others.1 in
    apart_comment octet (listed ++ (codes " ; " ++ comment)) (not-true _ last.1) ∙ ap (λ (rest : List ℕ). octet ∷ rest) (cut listed comment both.1)

blank_tokens : (listed : List ℕ) → tokens_of (listed ++ 32 ∷ []) ≡ tokens_of listed
unfolding tokens_of pieces_of
blank_tokens listed = tokens_of-append listed (32 ∷ []) (and_right (ends_word listed) false refl) ∙ append-nil (tokens_of listed)

pub tokens_commented : (listed comment : List ℕ) → all_inline listed ≡ true → tokens_in (listed ++ (codes " ; " ++ comment)) ≡ tokens_in listed
unfolding tokens_in tokens_read
tokens_commented listed comment h =
    ap (λ (octets : List ℕ). signed (tokens_of octets)) (cut listed comment h)
    ∙ ap signed (blank_tokens listed)
    ∙ ap (λ (octets : List ℕ). signed (tokens_of octets)) (sym (inline_whole listed h))

-- Whether the octet doesn't end a line.
abbrev is_kept : ℕ → Bool
is_kept octet = not (octet == 10) && not (octet == 13)

-- Whether this is so for every octet.
abbrev all_kept : List ℕ → Bool
all_kept [] = true
all_kept (octet ∷ rest) = is_kept octet && all_kept rest

kept-append : (some more : List ℕ) → all_kept some ≡ true → all_kept more ≡ true → all_kept (some ++ more) ≡ true
kept-append [] more h g = g
kept-append (octet ∷ some) more h g =
    let both = and_parts (is_kept octet) (all_kept some) h in
    and_from _ _ both.0 (kept-append some more both.1 g)

inline-kept : (listed : List ℕ) → all_inline listed ≡ true → all_kept listed ≡ true
inline-kept [] h = refl
inline-kept (octet ∷ listed) h =
    let both = and_parts (is_inline octet) (all_inline listed) h in
    let others = and_parts (not (octet == 10)) (not (octet == 13) && not (octet == 59)) both.0 in
    let last = and_parts (not (octet == 13)) (not (octet == 59)) others.1 in
    and_from _ _ (and_from _ _ others.0 last.0) (inline-kept listed both.1)

kept-at : (line : List ℕ) (at : ℕ) → all_kept line ≡ true → is_kept (get_or line at 0) ≡ true
kept-at [] at h = refl
kept-at (octet ∷ line) zero h = (and_parts (is_kept octet) (all_kept line) h).0
kept-at (octet ∷ line) (suc at) h = kept-at line at (and_parts (is_kept octet) (all_kept line) h).1

kept-free : (line : List ℕ) → all_kept line ≡ true → no_feed line ≡ true
kept-free [] h = refl
kept-free (octet ∷ line) h =
    let both = and_parts (is_kept octet) (all_kept line) h in
    let tests = and_parts (not (octet == 10)) (not (octet == 13)) both.0 in
    and_from _ _ tests.0 (kept-free line both.1)

digits-kept : (octets : List ℕ) → all_kept (encode_lower octets) ≡ true
unfolding encode_with
digits-kept [] = refl
digits-kept (octet ∷ octets) = and_from _ _ (kept-at lower_digits (octet / 16) refl) (and_from _ _ (kept-at lower_digits (octet % 16) refl) (digits-kept octets))

whole_line : (line : List ℕ) → all_kept line ≡ true → without_return line ≡ line
whole_line line h =
    let tests = and_parts (not (get_or line (length line - 1) 0 == 10)) (not (get_or line (length line - 1) 0 == 13)) (kept-at line (length line - 1) h) in
    rw (not-true _ tests.1) refl

-- A line with octets as its comment is the first line of a text that begins with it.
pub line_commented : (listed octets rest : List ℕ) → all_inline listed ≡ true
    → source_lines (commented listed (encode_lower octets) ++ rest) ≡ (listed ++ (codes " ; " ++ encode_lower octets)) ∷ source_lines rest
line_commented listed octets rest h =
    let text : List ℕ = listed ++ (codes " ; " ++ encode_lower octets) in
    let kept : all_kept text ≡ true = kept-append listed (codes " ; " ++ encode_lower octets) (inline-kept listed h) (kept-append (codes " ; ") (encode_lower octets) refl (digits-kept octets)) in
    let parted : commented listed (encode_lower octets) ++ rest ≡ text ++ 10 ∷ rest =
    ap (λ (octets : List ℕ). (octets ++ 10 ∷ []) ++ rest) (append_assoc listed (codes " ; ") (encode_lower octets)) ∙ append_assoc text (10 ∷ []) rest in
    ap source_lines parted ∙ line_ended text rest (kept-free text kept) ∙ ap (λ (first : List ℕ). first ∷ source_lines rest) (whole_line text kept)

digits_kept : (value : ℕ) → value < 2 ^ 32 → all_kept (decimal value) ≡ true
digits_kept value h =
    inline-kept (decimal value) (subst (λ (octets : List ℕ). all_inline octets ≡ true) (append-nil (decimal value)) (parts_inline (num value ∷ []) refl (h, tt)))

-- The comment of the longest run is a line by itself.
pub longest_commented : (most : ℕ) → most < 2 ^ 32 → source_lines (longest_line most) ≡ (codes "; longest " ++ decimal most) ∷ []
unfolding source_lines
longest_commented most h =
    let text : List ℕ = codes "; longest " ++ decimal most in
    let kept : all_kept text ≡ true = kept-append (codes "; longest ") (decimal most) refl (digits_kept most h) in
    line_ended text [] (kept-free text kept) ∙ ap (λ (first : List ℕ). first ∷ []) (whole_line text kept)
