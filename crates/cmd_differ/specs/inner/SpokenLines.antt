-- The one word of lines with words.
use Rattle.std.specs.Prelude.{◌≡◌, ℕ, List, [], ◌∷◌}
use Rattle.text_io.specs.declared.words.LineWords.{LineWords}
use Rattle.text_io.specs.declared.words.LineWords.TheVariants.{Silent, One, Several}
use Rattle.cmd_programs.specs.Program.{is_refused}
use Rattle.text_words.specs.FaultLines.{bad_line}
use Rattle.cmd_differ.specs.ProgramText.{ReadsSpoken}

-- Silent: no line has words. One: there is one such line, and this is its one word. Several: these lines are no program for another reason.
abbrev pub IsOnlyWord : List (List (List ℕ)) → LineWords → Type 0
IsOnlyWord lines Silent = lines ≡ []
IsOnlyWord lines (One word) = lines ≡ (word.now ∷ []) ∷ []
IsOnlyWord lines Several = ReadsSpoken lines (is_refused bad_line)
