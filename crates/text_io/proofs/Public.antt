-- Lemmas for other crates.
use Rattle.std.proofs.Common.{◌≡◌, ℕ, ◌<◌, length, get_or, true, false, [], ◌∷◌, ◌++◌, List, refl, sym, append-nil}
use Rattle.text_io.specs.Devices.{Adds}
use Rattle.text_io.specs.Lines.{Line}
use Rattle.text_io.specs.Printing.{Rules, IsTotal, IsFunctional, EndsAt, Prints, IsFront}
use Rattle.text_io.specs.inner.Alike.{KeepsAlike}
use Rattle.text_io.proofs.AlikeLemmas as alike
use Rattle.text_io.specs.Words.{is_blank, words_of}
use Rattle.text_io.proofs.PrintingLemmas as texts
use Rattle.text_io.proofs.WordsLemmas as words
use Rattle.text_io.specs.declared.ending.Done.{Done}
use Rattle.text_io.specs.declared.ending.Done.TheVariants.{Whole}
-- Lines without words.
pub use Rattle.text_io.proofs.SilentLines.{silent-or, silent-sound}
-- Promises by a wider relation.
pub use Rattle.text_io.proofs.ServingLemmas.{served-wider}
-- A gathered input has a text, if all octets have one.
pub use Rattle.text_io.proofs.GatheredLemmas.{some-gathered}
-- The cases of what a driver or a step of it returns.
pub use Rattle.text_io.proofs.DriverLemmas.{at-ok, at-err, at-result, at-done, at-fault, at-given, all-moved}

-- Octets without a blank are one word.
pub one-word : (line : List ℕ) → 0 < length line → ((k : ℕ) → k < length line → is_blank (get_or line k 0) ≡ false) → words_of line ≡ line ∷ []
one-word line some none = words.words-of_word line some none

-- Octets without a blank, followed by a blank, are the first word.
pub first-word : (word rest : List ℕ) (blank : ℕ) → 0 < length word → ((k : ℕ) → k < length word → is_blank (get_or word k 0) ≡ false)
    → is_blank blank ≡ true → words_of (word ++ blank ∷ rest) ≡ word ∷ words_of rest
first-word word rest blank some none parts = words.words-at_blank word rest blank some none parts

-- With total rules, any list of lines has a text from every sound world.
pub some-text : {World : Type 0} (rules : Rules World) → IsTotal rules
    → (lines : List Line) (met : ℕ) (world : World) → rules.is_sound world → (text : List ℕ) × (done : Done) × Prints rules met world lines text done
some-text rules total lines met world sound = texts.some-text rules total lines met world sound

-- A text of lines that isn't ended early leads to a world.
pub prints-end : {World : Type 0} (rules : Rules World) (met : ℕ) (world : World) (lines : List Line) (text : List ℕ)
    → Prints rules met world lines text Whole → (last : World) × EndsAt rules met world lines text last
prints-end = texts.prints-end

-- And lines that lead to a world have that text.
pub ends-print : {World : Type 0} (rules : Rules World) (met : ℕ) (world last : World) (lines : List Line) (text : List ℕ)
    → EndsAt rules met world lines text last → Prints rules met world lines text Whole
ends-print = texts.ends-print

-- The empty text is a prefix of a text, if there is one.
pub nothing-begins : (IsWhole : List ℕ → Done → Type 0) (held : List ℕ) → ((text : List ℕ) × (done : Done) × IsWhole text done) → Adds (IsFront IsWhole) held held
nothing-begins IsWhole held whole = ([], sym (append-nil held), whole)

-- From worlds that are alike after `met` lines, a list of lines has one text.
pub one-text_alike : {World : Type 0} (rules : Rules World) (AreAlike : ℕ → World → World → Type 0) → KeepsAlike rules AreAlike
    → (lines : List Line) (met : ℕ) (one other : World) (text text' : List ℕ) (done done' : Done) → AreAlike met one other
    → Prints rules met one lines text done → Prints rules met other lines text' done' → (text ≡ text') × (done ≡ done')
one-text_alike = alike.one-text_alike

-- With functional rules, a list of lines has one text.
pub one-text : {World : Type 0} (rules : Rules World) → IsFunctional rules → (lines : List Line) (met : ℕ) (world : World) (text text' : List ℕ) (done done' : Done)
    → Prints rules met world lines text done → Prints rules met world lines text' done' → (text ≡ text') × (done ≡ done')
one-text rules one lines met world text text' done done' p q =
    alike.one-text_alike rules (λ met here there. here ≡ there) (alike.functional-alike rules one) lines met world world text text' done done' refl p q
