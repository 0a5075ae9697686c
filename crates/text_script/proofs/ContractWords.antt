-- How the contracts of a connection are read, one word each.
use Rattle.std.proofs.Common.{◌≡◌, ℕ, ◌+◌, ◌<◌, ◌≤◌, Bool, true, false, if◌then◌else◌, List, [], ◌∷◌, ◌++◌, Option, Some, None, length, option_map, refl, sym, ap, ◌∙◌, arith}
use Rattle.std.specs.Prelude.{nat_le, ◌&&◌}
use Rattle.std.specs.Option.{option_and_then}
use Rattle.std.proofs.lemmas.Bool.Decides.{nat_tests}
use Rattle.std.proofs.lemmas.List.{append-nil, append_assoc, length-append}
use Rattle.text_script.specs.ScriptCommands.{wanted_contracts}
use Rattle.text_script.specs.ScriptWords.{wanted_of, wanted_of_each}
use Rattle.text_script.specs.declared.script_words.Wanted.{Wanted}

-- These contracts, and those of the words after them.
abbrev pub read_rest : List Wanted → List (List ℕ) → Option (List Wanted)
read_rest read words = option_map (λ later. read ++ later) (wanted_of_each words)

-- The contracts that were read so far and those of the remaining words are the contracts of all words.
pub record ReadsOn (words : List (List ℕ)) (read : List Wanted) (rest : List (List ℕ)) : Type 0 where
  pub many : length read + length rest ≡ length words
  pub reads : read_rest read rest ≡ wanted_of_each words
  pub few : length read ≤ 4

pub reads_first : (words : List (List ℕ)) → ReadsOn words [] words
reads_first words = record { many = omega arith; reads = same (wanted_of_each words); few = omega arith }
  where
    same : (o : Option (List Wanted)) → option_map (λ (later : List Wanted). [] ++ later) o ≡ o
    same None = refl
    same (Some later) = refl

next-read : (read : List Wanted) (first : Wanted) (later : Option (List Wanted))
    → option_map (λ (xs : List Wanted). (read ++ first ∷ []) ++ xs) later ≡ option_map (λ (xs : List Wanted). read ++ xs) (option_map (λ (xs : List Wanted). first ∷ xs) later)
next-read read first None = refl
next-read read first (Some later) = ap (λ xs. Some xs) (append_assoc read (first ∷ []) later)

pub reads_next : (words : List (List ℕ)) (read : List Wanted) (rest after : List (List ℕ)) (word : List ℕ) (first : Wanted)
    → ReadsOn words read rest → length read < 4 → rest ≡ word ∷ after → wanted_of word ≡ Some first → ReadsOn words (read ++ first ∷ []) after
reads_next words read rest after word first so_far room cut is = record {
  many =
      let longer : length (read ++ first ∷ []) ≡ length read + 1 = length-append read (first ∷ []) in
      let cut_length : length rest ≡ length after + 1 = ap length cut ∙ omega arith in
      omega (arith, longer, cut_length, so_far.many);
  reads = next-read read first (wanted_of_each after)
      ∙ sym (ap (λ o. option_map (λ (xs : List Wanted). read ++ xs) (option_and_then (λ (w : Wanted). option_map (λ (xs : List Wanted). w ∷ xs) (wanted_of_each after)) o)) is)
      ∙ sym (ap (read_rest read) cut) ∙ so_far.reads;
  few = let longer : length (read ++ first ∷ []) ≡ length read + 1 = length-append read (first ∷ []) in omega (arith, longer, room);
}

none-either : (b : Bool) (o : Option (List Wanted)) → o ≡ None → (if b then o else None) ≡ None
none-either true o e = e
none-either false o e = refl

pub reads_none : (words : List (List ℕ)) (read : List Wanted) (rest after : List (List ℕ)) (word : List ℕ)
    → ReadsOn words read rest → rest ≡ word ∷ after → wanted_of word ≡ None → wanted_contracts words ≡ None
reads_none words read rest after word so_far cut is =
    none-either (nat_le 1 (length words) && nat_le (length words) 4) (wanted_of_each words)
    (sym so_far.reads ∙ ap (read_rest read) cut
    ∙ ap (λ o. option_map (λ (xs : List Wanted). read ++ xs) (option_and_then (λ (w : Wanted). option_map (λ (xs : List Wanted). w ∷ xs) (wanted_of_each after)) o)) is)

test-false : (n : ℕ) → 4 < n → (nat_le 1 n && nat_le n 4) ≡ false
test-false n above = grind (arith, nat_tests)

test-none : (n : ℕ) → n ≡ 0 → (nat_le 1 n && nat_le n 4) ≡ false
test-none n none = grind (arith, nat_tests)

test-true : (n : ℕ) → 0 < n → n ≤ 4 → (nat_le 1 n && nat_le n 4) ≡ true
test-true n some few = grind (arith, nat_tests)

pub reads_many : (words : List (List ℕ)) (read : List Wanted) (rest after : List (List ℕ)) (word : List ℕ)
    → ReadsOn words read rest → rest ≡ word ∷ after → 4 ≤ length read → wanted_contracts words ≡ None
reads_many words read rest after word so_far cut full =
    let above : 4 < length words = (let cut_length : length rest ≡ length (word ∷ after) = ap length cut in omega (arith, cut_length, so_far.many, full)) in
    ap (λ b. if b then wanted_of_each words else None) (test-false (length words) above)

pub reads_empty : (words : List (List ℕ)) (read : List Wanted) (rest : List (List ℕ)) → ReadsOn words read rest → rest ≡ [] → length read ≡ 0 → wanted_contracts words ≡ None
reads_empty words read rest so_far ends none =
    let zero : length words ≡ 0 = (let cut_length : length rest ≡ 0 = ap length ends in omega (arith, cut_length, so_far.many, none)) in
    ap (λ b. if b then wanted_of_each words else None) (test-none (length words) zero)

pub reads_all : (words : List (List ℕ)) (read : List Wanted) (rest : List (List ℕ)) → ReadsOn words read rest → rest ≡ [] → 0 < length read
    → wanted_contracts words ≡ Some read
reads_all words read rest so_far ends some =
    let same : length words ≡ length read = (let cut_length : length rest ≡ 0 = ap length ends in omega (arith, cut_length, so_far.many)) in
    let test : (nat_le 1 (length words) && nat_le (length words) 4) ≡ true = test-true (length words) (omega (arith, same, some)) (omega (arith, same, so_far.few)) in
    ap (λ b. if b then wanted_of_each words else None) test
    ∙ sym so_far.reads ∙ ap (read_rest read) ends ∙ ap (λ xs. Some xs) (append-nil read)
