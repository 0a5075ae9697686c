-- The tokens that are found are those of the assembler.
use Rattle.std.proofs.Common.{◌≡◌, ℕ, suc, ◌+◌, ◌-◌, ◌&&◌, Bool, true, false, not, if◌then◌else◌, List, [], ◌∷◌, ◌++◌, Option, Some, None, map, take, drop, refl, sym, ap, ◌∙◌, arith}
use Rattle.std.specs.List.{cons_option, filter_map}
use Rattle.std.proofs.lemmas.List.{drop-drop}
use Rattle.bpf_asm.specs.Tokens.{Token, is_run, is_word, joined, mark, pieces_of, token_of, tokens_of, word_token}
use Rattle.text_io.specs.Words.{is_blank}
use Rattle.cmd_explain.specs.FoundTokens.{FindsTokens, found_from, found_tokens, run_size}
use Rattle.cmd_explain_script.specs.FoundWords.{word_octets}
use Rattle.cmd_explain_script.specs.declared.found_words.FoundWord.{FoundWord}

-- The pieces after an octet that belongs to a word or doesn't, without the rest of the word.
abbrev left_pieces : Bool → List (List ℕ) → List (List ℕ)
left_pieces false pieces = pieces
left_pieces true [] = []
left_pieces true (piece ∷ pieces) = if is_run piece then pieces else piece ∷ pieces

take_one : (n octet : ℕ) (rest : List ℕ) → take (1 + n) (octet ∷ rest) ≡ octet ∷ take n rest
take_one n octet rest = let e : 1 + n ≡ suc n = omega arith in ap (λ (k : ℕ). take k (octet ∷ rest)) e

chosen : (b : Bool) (one other : List (List ℕ)) → b ≡ true → (if b then one else other) ≡ one
chosen true one other is = refl
chosen false one other is = let no = is in absurd cc

other_chosen : (b : Bool) (one other : List (List ℕ)) → b ≡ false → (if b then one else other) ≡ other
other_chosen true one other is = let no = is in absurd cc
other_chosen false one other is = refl

both_chosen : (w b : Bool) (one other : List (List ℕ)) → w ≡ true → b ≡ true → (if w && b then one else other) ≡ one
both_chosen true b one other word is = chosen b one other is
both_chosen false b one other word is = let no = word in absurd cc

not_chosen : (w b : Bool) (one other : List (List ℕ)) → b ≡ false → (if w && b then one else other) ≡ other
not_chosen true b one other is = other_chosen b one other is
not_chosen false b one other is = refl

none_joined : (w b : Bool) (one other : List (List ℕ)) → w ≡ false → (if w && b then one else other) ≡ other
none_joined true b one other is = let no = is in absurd cc
none_joined false b one other is = refl

-- An octet that belongs to no word is a piece of its own.
alone : (octet : ℕ) (pieces : List (List ℕ)) → is_word octet ≡ false → joined octet pieces ≡ (octet ∷ []) ∷ pieces
alone octet [] other = refl
alone octet (piece ∷ pieces) other = none_joined (is_word octet) (is_run piece) ((octet ∷ piece) ∷ pieces) ((octet ∷ []) ∷ piece ∷ pieces) other

-- An octet of a word begins a piece with the rest of the word.
module _ (octet next : ℕ) (more : List ℕ) (word : is_word octet ≡ true) where
  abbrev later : List (List ℕ)
  later = joined next (pieces_of more)

  runs_by : (b : Bool) → is_word next ≡ b → (is_word next ≡ true → later ≡ (next ∷ take (run_size more) more) ∷ left_pieces true (pieces_of more))
      → joined octet later ≡ (octet ∷ take (run_size (next ∷ more)) (next ∷ more)) ∷ left_pieces true later
  runs_by true is run =
      let rest = take (run_size more) more in
      let left = left_pieces true (pieces_of more) in
      let taken : take (run_size (next ∷ more)) (next ∷ more) ≡ next ∷ rest =
      ap (λ (b : Bool). take (if b then 1 + run_size more else 0) (next ∷ more)) is ∙ take_one (run_size more) next more in
      let lefts : left_pieces true later ≡ left = ap (left_pieces true) (run is) ∙ chosen (is_word next) left ((next ∷ rest) ∷ left) is in
      ap (joined octet) (run is)
      ∙ both_chosen (is_word octet) (is_word next) ((octet ∷ next ∷ rest) ∷ left) ((octet ∷ []) ∷ (next ∷ rest) ∷ left) word is
      ∙ sym (ap (λ (xs : List ℕ). (octet ∷ xs) ∷ left_pieces true later) taken ∙ ap (λ (xs : List (List ℕ)). (octet ∷ next ∷ rest) ∷ xs) lefts)
  runs_by false is run =
      let pieces = pieces_of more in
      let own = alone next pieces is in
      let taken : take (run_size (next ∷ more)) (next ∷ more) ≡ [] = ap (λ (b : Bool). take (if b then 1 + run_size more else 0) (next ∷ more)) is in
      let lefts : left_pieces true later ≡ (next ∷ []) ∷ pieces = ap (left_pieces true) own ∙ other_chosen (is_word next) pieces ((next ∷ []) ∷ pieces) is in
      ap (joined octet) own ∙ not_chosen (is_word octet) (is_word next) ((octet ∷ next ∷ []) ∷ pieces) ((octet ∷ []) ∷ (next ∷ []) ∷ pieces) is
      ∙ sym (ap (λ (xs : List ℕ). (octet ∷ xs) ∷ left_pieces true later) taken ∙ ap (λ (xs : List (List ℕ)). (octet ∷ []) ∷ xs) lefts)

runs : (octet : ℕ) (rest : List ℕ) → is_word octet ≡ true → joined octet (pieces_of rest) ≡ (octet ∷ take (run_size rest) rest) ∷ left_pieces true (pieces_of rest)
unfolding pieces_of
runs octet [] word = refl
runs octet (next ∷ more) word = runs_by octet next more word (is_word next) refl (runs next more)

-- The tokens of pieces.
abbrev tokens : List (List ℕ) → List Token
tokens pieces = filter_map token_of pieces

module _ (text : List ℕ) where
  abbrev words : List FoundWord → List (List ℕ)
  words found = map (word_octets text) found

  module _ (place octet : ℕ) (rest : List ℕ) (is : drop place text ≡ octet ∷ rest) where
    back : drop (place + 1 - 1) text ≡ octet ∷ rest
    back = let same : place + 1 - 1 ≡ place = omega arith in ap (λ (n : ℕ). drop n text) same ∙ is

    -- The tokens of an octet of a word and of what follows it.
    word_tokens : (inside : Bool) → is_word octet ≡ true → tokens (words (found_from (place + 1 + 1) true rest)) ≡ tokens (left_pieces true (pieces_of rest))
        → tokens (words ((if not inside then record { column = place + 1; size = 1 + run_size rest } ∷ [] else []) ++ found_from (place + 1 + 1) true rest))
        ≡ tokens (left_pieces inside (joined octet (pieces_of rest)))
    word_tokens true word later =
        later
        ∙ sym (ap (λ (ps : List (List ℕ)). tokens (left_pieces true ps)) (runs octet rest word)
        ∙ ap tokens (chosen (is_word octet) (left_pieces true (pieces_of rest)) ((octet ∷ take (run_size rest) rest) ∷ left_pieces true (pieces_of rest)) word))
    word_tokens false word later =
        let found = found_from (place + 1 + 1) true rest in
        let piece = octet ∷ take (run_size rest) rest in
        let taken : take (1 + run_size rest) (drop (place + 1 - 1) text) ≡ piece =
        ap (λ (xs : List ℕ). take (1 + run_size rest) xs) back ∙ take_one (run_size rest) octet rest in
        ap (λ (xs : List ℕ). cons_option (token_of xs) (tokens (words found))) taken ∙ ap (λ (ts : List Token). cons_option (token_of piece) ts) later
        ∙ sym (ap tokens (runs octet rest word))

    -- The same for an octet of no word.
    left_alone : (inside : Bool) → is_word octet ≡ false → left_pieces inside (joined octet (pieces_of rest)) ≡ (octet ∷ []) ∷ pieces_of rest
    left_alone true other =
        ap (left_pieces true) (alone octet (pieces_of rest) other) ∙ other_chosen (is_word octet) (pieces_of rest) ((octet ∷ []) ∷ pieces_of rest) other
    left_alone false other = alone octet (pieces_of rest) other

    own_token : (b : Bool) → is_word octet ≡ false → is_blank octet ≡ b → token_of (octet ∷ []) ≡ (if b then None else Some (mark octet))
    own_token b other blank =
        ap (λ (w : Bool). if w then Some (word_token (octet ∷ [])) else (if is_blank octet then None else Some (mark octet))) other
        ∙ ap (λ (b : Bool). if b then None else Some (mark octet)) blank

    other_tokens : (inside b : Bool) → is_word octet ≡ false → is_blank octet ≡ b → tokens (words (found_from (place + 1 + 1) false rest)) ≡ tokens (pieces_of rest)
        → tokens (words ((if not b then record { column = place + 1; size = 1 } ∷ [] else []) ++ found_from (place + 1 + 1) false rest))
        ≡ tokens (left_pieces inside (joined octet (pieces_of rest)))
    other_tokens inside true other blank later =
        later
        ∙ sym (ap tokens (left_alone inside other) ∙ ap (λ (t : Option Token). cons_option t (tokens (pieces_of rest))) (own_token true other blank))
    other_tokens inside false other blank later =
        let found = found_from (place + 1 + 1) false rest in
        let taken : take 1 (drop (place + 1 - 1) text) ≡ octet ∷ [] = ap (λ (xs : List ℕ). take 1 xs) back in
        ap (λ (xs : List ℕ). cons_option (token_of xs) (tokens (words found))) taken ∙ ap (λ (ts : List Token). cons_option (token_of (octet ∷ [])) ts) later
        ∙ sym (ap tokens (left_alone inside other))

    octet_tokens : (inside w : Bool) → is_word octet ≡ w → tokens (words (found_from (place + 1 + 1) w rest)) ≡ tokens (left_pieces w (pieces_of rest))
        → tokens (words ((if (if w then not inside else not (is_blank octet)) then record { column = place + 1; size = if w then (if w then 1 + run_size rest else 0) else 1 } ∷ [] else []) ++ found_from (place + 1 + 1) w rest))
        ≡ tokens (left_pieces inside (joined octet (pieces_of rest)))
    octet_tokens inside true word later = word_tokens inside word later
    octet_tokens inside false other later = other_tokens inside (is_blank octet) other refl later

  found_tokens_from : (octets : List ℕ) (place : ℕ) (inside : Bool) → drop place text ≡ octets
      → tokens (words (found_from (place + 1) inside octets)) ≡ tokens (left_pieces inside (pieces_of octets))
  unfolding pieces_of
  found_tokens_from [] place true is = refl
  found_tokens_from [] place false is = refl
  found_tokens_from (octet ∷ rest) place inside is =
      octet_tokens place octet rest is inside (is_word octet) refl
      (found_tokens_from rest (place + 1) (is_word octet) (sym (drop-drop 1 place text) ∙ ap (λ (xs : List ℕ). drop 1 xs) is))

pub finds_tokens : FindsTokens
unfolding found_tokens tokens_of
finds_tokens text = found_tokens_from text text 0 false refl
