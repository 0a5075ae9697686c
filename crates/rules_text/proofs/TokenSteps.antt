-- The tokens of a line, one blank or token after the other.
use Rattle.std.proofs.Common.{◌≡◌, ℕ, zero, suc, ◌+◌, ◌-◌, ◌<◌, ◌≤◌, Bool, true, false, not, ◌&&◌, ◌||◌, ◌==◌, List, [], ◌∷◌, length, get_or, drop, refl, sym, ap, ◌∙◌, arith}
use Rattle.std.proofs.lemmas.List.{at_drop_all, at_drop_more, drop-drop, drop_all}
use Rattle.bpf_asm.specs.Tokens.{is_word}
use Rattle.text_io.specs.Words.{is_blank}
use Rattle.rules_text.specs.RuleTokens.{RuleFound, TokenCut, before_feed, begins_with_feed, first_cut, found_at, letters_len, separates, tokens_from}
use Rattle.rules_text.specs.inner.SeenLines.{skipped}

tokens_separated : (column octet : ℕ) (rest : List ℕ) → separates octet rest ≡ true → tokens_from column 0 (octet ∷ rest) ≡ tokens_from (column + 1) 0 rest
unfolding tokens_from
tokens_separated column octet rest b = rw b refl

-- An octet that separates tokens.
pub separated : (line : List ℕ) (at : ℕ) → at < length line → separates (get_or line at 0) (drop (at + 1) line) ≡ true
    → tokens_from (at + 1) 0 (drop at line) ≡ tokens_from (at + 1 + 1) 0 (drop (at + 1) line)
separated line at h b = at_drop_more (tokens_from (at + 1) 0) line at 0 h ∙ tokens_separated (at + 1) (get_or line at 0) (drop (at + 1) line) b

comment_first : (column octet : ℕ) (rest : List ℕ) → separates octet rest ≡ false → (octet == 35) ≡ true
    → tokens_from column 0 (octet ∷ rest) ≡ tokens_from (column + 1) (before_feed rest) rest
unfolding tokens_from
comment_first column octet rest b c = rw (b, c) refl

-- A comment begins.
pub comment_begun : (line : List ℕ) (at : ℕ) → at < length line → separates (get_or line at 0) (drop (at + 1) line) ≡ false → (get_or line at 0 == 35) ≡ true
    → tokens_from (at + 1) 0 (drop at line) ≡ tokens_from (at + 1 + 1) (before_feed (drop (at + 1) line)) (drop (at + 1) line)
comment_begun line at h b c = at_drop_more (tokens_from (at + 1) 0) line at 0 h ∙ comment_first (at + 1) (get_or line at 0) (drop (at + 1) line) b c

feed_or : (blank other : Bool) → (blank || (true || other)) ≡ true
feed_or true other = refl
feed_or false other = refl

feed_separates : (octet : ℕ) (rest : List ℕ) → (octet == 10) ≡ true → separates octet rest ≡ true
feed_separates octet rest e = rw e (feed_or (is_blank octet) ((octet == 59) || ((octet == 13) && begins_with_feed rest)))

passed_one : (column n octet : ℕ) (rest : List ℕ) → tokens_from column (suc n) (octet ∷ rest) ≡ tokens_from (column + 1) n rest
unfolding tokens_from
passed_one column n octet rest = refl

in_comment : (feed : Bool) (column octet : ℕ) (rest : List ℕ) → (octet == 10) ≡ feed
    → tokens_from column (before_feed (octet ∷ rest)) (octet ∷ rest) ≡ tokens_from (column + 1) (skipped (not feed) rest) rest
unfolding before_feed
in_comment true column octet rest e = rw e (tokens_separated column octet rest (feed_separates octet rest e))
in_comment false column octet rest e = rw e (passed_one column (before_feed rest) octet rest)

-- An octet of a comment.
pub comment_more : (line : List ℕ) (at : ℕ) → at < length line
    → tokens_from (at + 1) (before_feed (drop at line)) (drop at line)
    ≡ tokens_from (at + 1 + 1) (skipped (not (get_or line at 0 == 10)) (drop (at + 1) line)) (drop (at + 1) line)
comment_more line at h =
    at_drop_more (λ (octets : List ℕ). tokens_from (at + 1) (before_feed octets) octets) line at 0 h
    ∙ in_comment (get_or line at 0 == 10) (at + 1) (get_or line at 0) (drop (at + 1) line) refl

skipped_none : (comment : Bool) (column : ℕ) → tokens_from column (skipped comment []) [] ≡ tokens_from column 0 []
unfolding tokens_from
skipped_none comment column = refl

-- At the end of the line nothing is skipped.
pub skipped_end : (line : List ℕ) (at : ℕ) (comment : Bool) → length line ≤ at
    → tokens_from (at + 1) (skipped comment (drop at line)) (drop at line) ≡ tokens_from (at + 1) 0 (drop at line)
skipped_end line at comment h =
    let none : drop at line ≡ [] = drop_all at line h in
    ap (λ (octets : List ℕ). tokens_from (at + 1) (skipped comment octets) octets) none ∙ skipped_none comment (at + 1) ∙ ap (tokens_from (at + 1) 0) (sym none)

-- The octets of a token are passed over.
tokens_passed : (column n : ℕ) (octets : List ℕ) → n ≤ length octets → tokens_from column n octets ≡ tokens_from (column + n) 0 (drop n octets)
unfolding tokens_from
tokens_passed column zero octets h = let e : column ≡ column + 0 = omega arith in ap (λ (c : ℕ). tokens_from c 0 octets) e
tokens_passed column (suc n) [] h = absurd (omega arith)
tokens_passed column (suc n) (octet ∷ rest) h =
    let e : column + 1 + n ≡ column + suc n = omega arith in
    tokens_passed (column + 1) n rest (omega arith) ∙ ap (λ (c : ℕ). tokens_from c 0 (drop n rest)) e

token_by_size : (column octet size : ℕ) (rest : List ℕ) → 0 < size → size ≤ length rest + 1
    → tokens_from (column + 1) (size - 1) rest ≡ tokens_from (column + size) 0 (drop size (octet ∷ rest))
token_by_size column octet zero rest s w = absurd (omega arith)
token_by_size column octet (suc n) rest s w =
    let same : suc n - 1 ≡ n = omega arith in
    let e : column + 1 + n ≡ column + suc n = omega arith in
    ap (λ (k : ℕ). tokens_from (column + 1) k rest) same ∙ tokens_passed (column + 1) n rest (omega arith) ∙ ap (λ (c : ℕ). tokens_from c 0 (drop n rest)) e

token_first : (column octet : ℕ) (rest : List ℕ) (cut : TokenCut) → separates octet rest ≡ false → (octet == 35) ≡ false → cut ≡ first_cut (octet ∷ rest)
    → 0 < cut.size → cut.size ≤ length rest + 1
    → tokens_from column 0 (octet ∷ rest) ≡ found_at column cut ∷ tokens_from (column + cut.size) 0 (drop cut.size (octet ∷ rest))
unfolding tokens_from
token_first column octet rest cut b c e s w =
    rw (b, c, sym e) (ap (λ ts. found_at column cut ∷ ts) (token_by_size column octet cut.size rest s w))

-- A token up to a column.
abbrev found_to : TokenCut → ℕ → ℕ → RuleFound
found_to cut column after = record { token = cut.token; column = column; after = after }

-- One more token.
pub token_more : (line : List ℕ) (start : ℕ) (cut : TokenCut) → start < length line → separates (get_or line start 0) (drop (start + 1) line) ≡ false → (get_or line start 0 == 35) ≡ false
    → cut ≡ first_cut (drop start line) → 0 < cut.size → cut.size ≤ length (drop start line)
    → tokens_from (start + 1) 0 (drop start line)
    ≡ found_to cut (start + 1) (start + cut.size + 1) ∷ tokens_from (start + cut.size + 1) 0 (drop (start + cut.size) line)
token_more line start cut h b c e s w =
    let split = at_drop_more (λ (xs : List ℕ). xs) line start 0 h in
    let column : start + 1 + cut.size ≡ start + cut.size + 1 = omega arith in
    let later : drop cut.size (get_or line start 0 ∷ drop (start + 1) line) ≡ drop (start + cut.size) line = ap (drop cut.size) (sym split) ∙ drop-drop cut.size start line in
    let within : cut.size ≤ length (drop (start + 1) line) + 1 = omega (arith, ap length split) in
    ap (tokens_from (start + 1) 0) split
    ∙ token_first (start + 1) (get_or line start 0) (drop (start + 1) line) cut b c (e ∙ ap first_cut split) s within
    ∙ ap (λ (k : ℕ). found_to cut (start + 1) k ∷ tokens_from k 0 (drop cut.size (get_or line start 0 ∷ drop (start + 1) line))) column
    ∙ ap (λ (xs : List ℕ). found_to cut (start + 1) (start + cut.size + 1) ∷ tokens_from (start + cut.size + 1) 0 xs) later

-- A line without more octets has no token.
pub tokens_none : (column : ℕ) (text : List ℕ) → length text ≡ 0 → tokens_from column 0 text ≡ []
unfolding tokens_from
tokens_none column [] h = refl
tokens_none column (octet ∷ rest) h = absurd (omega arith)

letters_word : (octet : ℕ) (rest : List ℕ) → is_word octet ≡ true → letters_len (octet ∷ rest) ≡ letters_len rest + 1
unfolding letters_len
letters_word octet rest w = rw w refl

letters_other : (octet : ℕ) (rest : List ℕ) → is_word octet ≡ false → letters_len (octet ∷ rest) ≡ 0
unfolding letters_len
letters_other octet rest w = rw w refl

-- One more octet of a word.
pub letters_more : (text : List ℕ) (at : ℕ) → at < length text → is_word (get_or text at 0) ≡ true
    → letters_len text ≡ at + letters_len (drop at text) → letters_len text ≡ at + 1 + letters_len (drop (at + 1) text)
letters_more text at h w e =
    let step = at_drop_more letters_len text at 0 h ∙ letters_word (get_or text at 0) (drop (at + 1) text) w in
    omega (arith, e, step)

-- The word ends before another octet.
pub letters_stop : (text : List ℕ) (at : ℕ) → at < length text → is_word (get_or text at 0) ≡ false
    → letters_len text ≡ at + letters_len (drop at text) → at ≡ letters_len text
letters_stop text at h w e =
    let step = at_drop_more letters_len text at 0 h ∙ letters_other (get_or text at 0) (drop (at + 1) text) w in
    omega (arith, e, step)

-- The word ends with the text.
pub letters_end : (text : List ℕ) (at : ℕ) → length text ≤ at → letters_len text ≡ at + letters_len (drop at text) → at ≡ letters_len text
unfolding letters_len
letters_end text at h e = let none : letters_len (drop at text) ≡ 0 = at_drop_all letters_len text at h in omega (arith, e, none)

-- A text that begins with an octet of a word has a word.
pub letters_some : (text : List ℕ) → 0 < length text → is_word (get_or text 0 0) ≡ true → 0 < letters_len text
letters_some [] h w = absurd (omega arith)
letters_some (octet ∷ rest) h w = omega (arith, letters_word octet rest w)
