-- Reading a whole input, up to a limit, and answering it.
use Rattle.std.specs.Prelude.{◌≡◌, ℕ, ◌+◌, if◌then◌else◌, nat_lt, List, [], ◌++◌, length, Option, Some, None, MatchOption}
use Rattle.text_io.specs.declared.ending.Done.{Done}
use Rattle.text_io.specs.declared.ending.Done.TheVariants.{Ended}

-- All octets if there are at most `most`, otherwise nothing.
abbrev pub gathered : ℕ → List ℕ → Option (List ℕ)
gathered most octets = if nat_lt most (length octets) then None else Some octets

-- If the input was within the limit, nothing is left of it. Otherwise `most` + 1 octets were read.
abbrev pub LeavesAfter : ℕ → Option (List ℕ) → List ℕ → List ℕ → Type 0
LeavesAfter most found before after =
    MatchOption found ((taken : List ℕ) × (before ≡ taken ++ after) × (length taken ≡ most + 1)) (λ octets. after ≡ [])

-- The text answers the octets that were gathered, by this relation of octets, text and end of the run. If the input is over
-- the limit, the text is `too_long`, and the run ends early.
abbrev pub AnswersGathered : List ℕ → (List ℕ → List ℕ → Done → Type 0) → Option (List ℕ) → List ℕ → Done → Type 0
AnswersGathered too_long Prints found text done = MatchOption found ((text ≡ too_long) × (done ≡ Ended)) (λ octets. Prints octets text done)
