-- How the code replaces lines.
use Rattle.std.specs.Prelude.{◌≡◌, ℕ, List, ◌++◌, Some}
use Rattle.bpf_code.specs.declared.instr.Instr.{Instr}
use Rattle.bpf_verify.specs.Accepted.{IsAccepted}
use Rattle.cmd_rules.specs.RulesAnswers.{most_rules_octets}
use Rattle.rules_text.specs.CodeOfText.{IsCodeOfText}
use Rattle.rules_text.specs.ValuesRead.{FollowsText}
use Rattle.text_io.specs.Gathered.{gathered}
use Rattle.text_io.specs.Lines.{lines_of}
use Rattle.cmd_police.specs.FaultyRules.{HasFaultIn, HasFaultyRules}
use Rattle.cmd_police.specs.RulesFiles.{IsFaultOfRules, IsProgramOfRules}
use Rattle.cmd_police.specs.SetupPrograms.{HasPrograms, HasProgramsIn, load_line}
use Rattle.cmd_police.specs.declared.compiling.Compiled.{Compiled}
use Rattle.cmd_police.specs.declared.compiling.Compiled.TheVariants.{Program, Faulty}
use Rattle.cmd_police.specs.declared.expanding.Expanded.{Expanded}
use Rattle.cmd_police.specs.declared.expanding.Expanded.TheVariants as expanded

-- The code is the one that is defined for a text within the limit, and it is accepted.
pub record IsCodeOfRules (text : List ℕ) (code : List Instr) : Type 0 where
  pub within : gathered most_rules_octets text ≡ Some text
  pub accepted : IsAccepted code
  pub follows : FollowsText text code
  pub of_text : IsCodeOfText text code

-- What a text of rules leads to.
abbrev pub CompilesTo : List ℕ → Compiled → Type 0
CompilesTo text (Program code) = IsCodeOfRules text code.items
CompilesTo text (Faulty fault) = IsFaultOfRules text fault.line.items fault.reason.items

-- The script grew by the line that loads a program of this text.
abbrev pub GrowsByProgram : List ℕ → List ℕ → List ℕ → Type 0
GrowsByProgram text old new = (code : List Instr) × IsProgramOfRules text code × (new ≡ old ++ load_line code)

-- What a script leads to.
abbrev pub ExpandsTo : List ℕ → List (List ℕ) → Expanded → Type 0
ExpandsTo script texts expanded.Itself = HasPrograms script texts script
ExpandsTo script texts (expanded.Replaced made) = HasPrograms script texts made.items
ExpandsTo script texts (expanded.Faulty text) = HasFaultyRules IsFaultOfRules script texts text.items

-- The lines that are left, after `met` others, complete the script: what replaces them goes after what was made, and a fault among them
-- is the script's.
pub record Completes (script : List ℕ) (texts : List (List ℕ)) (made : List ℕ) (met : ℕ) (left : List ℕ) (texts_left : List (List ℕ)) : Type 0 where
  pub programs : (rest : List ℕ) → HasProgramsIn (lines_of left) texts_left rest → HasPrograms script texts (made ++ rest)
  pub faults : (text : List ℕ) → HasFaultIn IsFaultOfRules met (lines_of left) texts_left text → HasFaultyRules IsFaultOfRules script texts text
