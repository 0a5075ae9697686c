-- What is proved of setup scripts with files of rules.
use Rattle.std.specs.Prelude.{◌≡◌, ℕ, List, [], ◌∷◌, length, Option, Some, MatchOption}
use Rattle.bpf_code.specs.Encoding.{code_octets}
use Rattle.bpf_code.specs.declared.instr.Instr.{Instr}
use Rattle.cmd_police.specs.declared.scope.PoliceScope.{PoliceScope}
use Rattle.text_io.specs.Lines.{Line, lines_of, line_content}
use Rattle.text_io.specs.Words.{words_of}
use Rattle.text_io.specs.declared.ending.Done.{Done}
use Rattle.upc_cell.specs.declared.side.Side.{Side}
use Rattle.cmd_programs.specs.Program.{ProgramReading, ReadsAs, is_program}
use Rattle.text_script.specs.ScriptCommands.{command_of, load}
use Rattle.text_words.specs.Hexadecimal.{octets_of_digits}
use Rattle.cmd_police.specs.RulesFiles.{IsProgramOfRules, later_texts, next_text, program_digits}
use Rattle.cmd_setups.specs.RulesLines.{named_rules, rules_names}
use Rattle.cmd_police.specs.SetupPrograms.{HasPrograms, load_command}
use Rattle.cmd_police.specs.SetupText.{MayBeSetupPoliced}

-- A setup script, texts of rules and a capture have a text, for each scope and tick.
abbrev pub PolicesEachSetup : Type 0
PolicesEachSetup = (scope : PoliceScope) (tick : ℕ) (setup : List ℕ) (texts : List (List ℕ)) (octets : List ℕ)
    → (text : List ℕ) × (done : Done) × MayBeSetupPoliced scope tick setup texts octets text done

-- The second lines are the first, one for one: each line `rules NAME` is replaced by one whose command loads a program of its
-- text, and every other line is as it is.
abbrev pub AreReplaced : List Line → List (List ℕ) → List Line → Type 0
AreReplaced [] texts others = others ≡ []
AreReplaced (line ∷ lines) texts [] = ⊥
AreReplaced (line ∷ lines) texts (other ∷ others) = MatchOption (named_rules line)
    ((other ≡ line) × AreReplaced lines texts others)
    (λ name. (code : List Instr) × IsProgramOfRules (next_text texts) code × (line_content other ≡ load_command code) × AreReplaced lines (later_texts texts) others)

-- The lines of a script with its programs are those of the script, replaced one for one. So each has its number.
pub record KeepsLines (script : List ℕ) (texts : List (List ℕ)) (expanded : List ℕ) : Type 0 where
  pub replaced : AreReplaced (lines_of script) texts (lines_of expanded)
  pub as_many : length (lines_of expanded) ≡ length (lines_of script)

-- That is so for every script and texts.
abbrev pub ProgramsKeepLines : Type 0
ProgramsKeepLines = (script : List ℕ) (texts : List (List ℕ)) (expanded : List ℕ) → HasPrograms script texts expanded → KeepsLines script texts expanded

-- The script with its programs is the script itself, and nothing else is.
pub record IsItsOwn (script : List ℕ) (texts : List (List ℕ)) : Type 0 where
  pub itself : HasPrograms script texts script
  pub only : (expanded : List ℕ) → HasPrograms script texts expanded → expanded ≡ script

-- That is so for every script without a line `rules NAME`.
abbrev pub ScriptsWithoutRulesStay : Type 0
ScriptsWithoutRulesStay = (script : List ℕ) (texts : List (List ℕ)) → rules_names script ≡ [] → IsItsOwn script texts

-- On a card of this side, `upc run` reads the command that loads a code as the load of that program, and of no other.
pub record LoadsItsCode (side : Side) (code : List Instr) : Type 0 where
  pub command : command_of side (words_of (load_command code)) ≡ Some (load (program_digits code))
  pub digits : octets_of_digits (program_digits code) ≡ Some (code_octets code)
  pub program : ReadsAs (code_octets code) (is_program code)
  pub only : (reading : ProgramReading) → ReadsAs (code_octets code) reading → reading ≡ is_program code

-- That is so for every program of a text of rules, on a card of either side.
abbrev pub LoadCommandsLoad : Type 0
LoadCommandsLoad = (side : Side) (text : List ℕ) (code : List Instr) → IsProgramOfRules text code → LoadsItsCode side code
