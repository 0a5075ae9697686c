-- A setup script with the programs of its files of rules.
use Rattle.std.specs.Prelude.{◌≡◌, ℕ, List, [], ◌∷◌, ◌++◌, codes, MatchOption}
use Rattle.bpf_code.specs.declared.instr.Instr.{Instr}
use Rattle.text_io.specs.Lines.{Line, line_with_feed, lines_of}
use Rattle.text_words.specs.FaultLines.{line as ended_by_feed}
use Rattle.cmd_police.specs.RulesFiles.{IsProgramOfRules, later_texts, next_text, program_digits}
use Rattle.cmd_setups.specs.RulesLines.{named_rules}

-- The command that loads a code.
abbrev pub load_command : List Instr → List ℕ
load_command code = codes "load " ++ program_digits code

-- The line of that command, which a line feed ends.
abbrev pub load_line : List Instr → List ℕ
load_line code = ended_by_feed (load_command code)

-- The octets are these lines, where each line `rules NAME` is replaced by the line that loads a program of its text. The first such line
-- has the first of these texts, the next one the next. Every other line is as it is.
abbrev pub HasProgramsIn : List Line → List (List ℕ) → List ℕ → Type 0
HasProgramsIn [] texts expanded = expanded ≡ []
HasProgramsIn (line ∷ lines) texts expanded = MatchOption (named_rules line)
    ((rest : List ℕ) × HasProgramsIn lines texts rest × (expanded ≡ line_with_feed line ++ rest))
    (λ name. (code : List Instr) × IsProgramOfRules (next_text texts) code
    × ((rest : List ℕ) × HasProgramsIn lines (later_texts texts) rest × (expanded ≡ load_line code ++ rest)))

-- The same for the lines of a script.
abbrev pub HasPrograms : List ℕ → List (List ℕ) → List ℕ → Type 0
HasPrograms script texts expanded = HasProgramsIn (lines_of script) texts expanded
