-- Hints about setups whose program names none of the contracts. They are no faults.
use Rattle.std.specs.Prelude.{ℕ, ◌-◌, ◌==◌, Bool, false, if◌then◌else◌, List, [], ◌∷◌, ◌++◌, codes, decimal, length, slice_get, Option, Some, None}
use Rattle.std.specs.Option.{option_and_then}
use Rattle.std.specs.Str.{bytes_eq}
use Rattle.line_record.specs.History.{numbered}
use Rattle.text_io.specs.Words.{words_of}
use Rattle.text_script.specs.ScriptWords.{program_of}
use Rattle.text_words.specs.FaultLines.{line}
use Rattle.cmd_explain_script.specs.ContractNumbers.{names_none_of}
use Rattle.cmd_explain_script.specs.FoundWords.{found_words, word_octets}
use Rattle.cmd_explain_script.specs.Places.{place_words}
use Rattle.cmd_explain_script.specs.declared.contract_numbers.NamesNoContract.{NamesNoContract}
use Rattle.cmd_explain_script.specs.declared.found_words.FoundWord.{FoundWord}

-- The numbers of several contracts, in words.
abbrev pub range_in_words : ℕ → List ℕ
range_in_words count = codes "1 to " ++ (decimal count ++ codes ", the numbers of the contracts")

-- The numbers of one contract or several.
abbrev pub numbers_in_words : ℕ → List ℕ
numbers_in_words count = if count == 1 then codes "1, the number of the contract" else range_in_words count

-- The sentence about a program that names none of this many contracts.
abbrev pub unnamed_sentence : ℕ → List ℕ
unnamed_sentence count =
    codes "this program never returns " ++ (numbers_in_words count ++ codes ", so each cell of the connection is refused")

-- The hint about the name of such a program, in this line and column.
abbrev pub unnamed_hint : ℕ → ℕ → ℕ → List ℕ
unnamed_hint number column count = codes "hint " ++ (place_words number (Some column) ++ line (unnamed_sentence count))

-- The hint about the name of a program, if there is one and it names none of this many contracts.
abbrev pub program_hint : ℕ → ℕ → ℕ → Option NamesNoContract → List ℕ
program_hint number column count None = []
program_hint number column count (Some none) = if names_none_of none count then unnamed_hint number column count else []

-- The hint about a word that names a program among these.
abbrev pub word_hint : List NamesNoContract → ℕ → List ℕ → ℕ → Option FoundWord → List ℕ
word_hint programs number content count None = []
word_hint programs number content count (Some word) =
    program_hint number word.column count (option_and_then (numbered programs) (program_of (word_octets content word)))

-- The hint about a setup with these words. The fourth names the program, and contracts follow.
abbrev pub words_hint : List NamesNoContract → ℕ → List ℕ → List FoundWord → List ℕ
words_hint programs number content words = word_hint programs number content (length words - 4) (slice_get words 3)

-- Whether the words are those of a setup.
abbrev pub is_setup : List (List ℕ) → Bool
is_setup [] = false
is_setup (name ∷ words) = bytes_eq name (codes "setup")

-- The hint about a line of this number, or nothing.
abbrev pub setup_hint : List NamesNoContract → ℕ → List ℕ → List ℕ
setup_hint programs number content = if is_setup (words_of content) then words_hint programs number content (found_words content) else []
