-- The words of a command line, shown one after another.
use Rattle.std.proofs.Common.{◌≡◌, ◌∙◌, ℕ, zero, suc, ◌+◌, ◌-◌, ◌<◌, ◌≤◌, Bool, true, false, if◌then◌else◌, List, [], ◌∷◌, ◌++◌, Option, Some, None, length, take, drop, map, refl, sym, ap, arith, append-nil}
use Rattle.std.specs.Prelude.{encode_utf8_all, slice_get, slice_index_or, nat_lt}
use Rattle.std.specs.Borrow.{Bor}
use Rattle.std.specs.Char.{encode_utf8}
use Rattle.std.specs.Option.{option_map}
use Rattle.std.proofs.lemmas.Bool.Decides.{nat_tests}
use Rattle.std.proofs.lemmas.List.{map-append}
use Rattle.std.proofs.lemmas.Str.{encodes-append}
use Rattle.text_command_line.specs.ShownWords.{IsLonger, most_word_octets, most_words, shown_character, shown_text, shown_word, shown_words}

-- One more character.
pub character-shown : (characters : List ℕ) (next : ℕ)
    → encode_utf8_all (map shown_character (characters ++ next ∷ [])) ≡ encode_utf8_all (map shown_character characters) ++ encode_utf8 (shown_character next)
character-shown characters next =
    ap encode_utf8_all (map-append shown_character characters (next ∷ []))
    ∙ encodes-append (map shown_character characters) (shown_character next ∷ [])
    ∙ ap (λ last. encode_utf8_all (map shown_character characters) ++ last) (append-nil (encode_utf8 (shown_character next)))

-- A word within the limit is shown whole, and a longer one as one octet.
pub shown-within : (word : List ℕ) → length word ≤ most_word_octets → shown_word word ≡ shown_text word
shown-within word within =
    let short : nat_lt most_word_octets (length word) ≡ false = grind (arith, nat_tests) in
    ap (λ (b : Bool). shown_text (if b then 255 ∷ [] else word)) short

shown-longer : (word : List ℕ) → most_word_octets < length word → shown_word word ≡ shown_text (255 ∷ [])
shown-longer word longer =
    let long : nat_lt most_word_octets (length word) ≡ true = grind (arith, nat_tests) in
    ap (λ (b : Bool). shown_text (if b then 255 ∷ [] else word)) long

pub found-longer : (found : Option (List ℕ)) → IsLonger most_word_octets found → Some (shown_text (255 ∷ [])) ≡ option_map shown_word found
found-longer None longer = absurd longer
found-longer (Some word) longer = ap (λ text. Some text) (sym (shown-longer word longer))

-- No word is at a place at or after the end.
pub found-none : (words : List (List ℕ)) (number : ℕ) → length words ≤ number → None ≡ option_map shown_word (slice_get words number)
found-none [] number end = refl
found-none (word ∷ words) zero end = absurd (omega (arith, end))
found-none (word ∷ words) (suc number) end = found-none words number (omega (arith, end))

-- The words up to a place.
some-taken : (words : List (List ℕ)) (place : ℕ) (text : List ℕ) → Some text ≡ option_map shown_word (slice_get words place)
    → (map shown_word (take (suc place) words) ≡ map shown_word (take place words) ++ text ∷ []) × (place < length words)
some-taken [] place text is = absurd (cc)
some-taken (word ∷ words) zero text is = let same : shown_word word ≡ text = cc in (ap (λ shown. shown ∷ []) same, omega arith)
some-taken (word ∷ words) (suc place) text is =
    let later = some-taken words place text is in
    (ap (λ shown. shown_word word ∷ shown) later.0, let below = later.1 in omega (arith, below))

all-taken : (words : List (List ℕ)) (place : ℕ) → None ≡ option_map shown_word (slice_get words place) → take place words ≡ words
all-taken [] zero is = refl
all-taken [] (suc place) is = refl
all-taken (word ∷ words) zero is = absurd (cc)
all-taken (word ∷ words) (suc place) is = ap (λ later. word ∷ later) (all-taken words place is)

-- The state of the reading before the word of this number.
pub record ReadsOn (words shown : List (List ℕ)) (number : ℕ) : Type 0 where
  pub read : ℕ
  pub at : number ≡ suc read
  pub so_far : shown ≡ map shown_word (take read (drop 1 words))
  pub within : read ≤ length (drop 1 words)
  pub few : 0 < read → length words < most_words

pub begins : (words : List (List ℕ)) → ReadsOn words [] 1
begins words = record { read = 0; at = refl; so_far = refl; within = omega arith; few = λ some. absurd (omega (arith, some)) }

pub goes-on : (words shown : List (List ℕ)) (text : List ℕ) (number : ℕ) → ReadsOn words shown number → length words < most_words
    → Some text ≡ option_map shown_word (slice_get words number) → ReadsOn words (shown ++ text ∷ []) (number + 1)
goes-on [] shown text number reads few is = absurd (cc)
goes-on (name ∷ words) shown text number reads few is =
    let there : Some text ≡ option_map shown_word (slice_get words reads.read) =
    is ∙ ap (λ n. option_map shown_word (slice_get (name ∷ words) n)) reads.at in
    let taken = some-taken words reads.read text there in
    record {
      read = suc reads.read;
      at = let at = reads.at in omega (arith, at);
      so_far = ap (λ xs. xs ++ text ∷ []) reads.so_far ∙ sym taken.0;
      within = let below = taken.1 in omega (arith, below);
      few = λ some. few;
    }

pub ends : (words shown : List (List ℕ)) (number : ℕ) → ReadsOn words shown number
    → None ≡ option_map shown_word (slice_get words number) → shown ≡ shown_words words
ends [] shown number reads is = reads.so_far ∙ ap (map shown_word) (all-taken [] reads.read refl)
ends (name ∷ words) shown number reads is =
    reads.so_far ∙ ap (map shown_word) (all-taken words reads.read (is ∙ ap (λ n. option_map shown_word (slice_get (name ∷ words) n)) reads.at))

shorter : (words : List (List ℕ)) → length (drop 1 words) ≤ length words - 1
shorter [] = omega arith
shorter (name ∷ words) = omega arith

pub never-far : (words shown : List (List ℕ)) (number : ℕ) → ReadsOn words shown number → most_words ≤ number → ⊥
never-far words shown number reads far =
    let at = reads.at in
    let within = reads.within in
    let less = shorter words in
    let few = reads.few (omega (arith, at, far)) in
    omega (arith, at, far, within, less, few)

-- The word at a place in memory.
pub word-there : (words : List (Bor (List ℕ))) (number : ℕ) (other : Bor (List ℕ)) → number < length words
    → slice_get (map (λ word. word.now) words) number ≡ Some (slice_index_or words number other).now
word-there [] number other below = absurd (omega (arith, below))
word-there (word ∷ words) zero other below = refl
word-there (word ∷ words) (suc number) other below = word-there words number other (omega (arith, below))
