-- The output of `upc-lab differ`, which compares two texts, each of rules or with a program. The old one is a file, and
-- the whole input is the new one.
use Rattle.std.specs.Prelude.{◌≡◌, ◌⊎◌, ℕ, Bool, List, ◌++◌, codes, decimal, Option, Some, MatchOption, Ok, Err}
use Rattle.bpf_code.specs.declared.instr.Instr.{Instr}
use Rattle.rules_diagrams.specs.Cases.{AreCasesOf}
use Rattle.rules_diagrams.specs.declared.case.Case.{Case}
use Rattle.rules_cells.specs.Fields.{IsCell}
use Rattle.rules_cells.specs.declared.deciding.Decision.{Decision}
use Rattle.cmd_rules.specs.RuleFaults.{rule_fault}
use Rattle.cmd_rules.specs.RulesAnswers.{most_rules_octets}
use Rattle.rules_text.specs.TextOfRules.{PlacedRulesRead, placed_rules_in}
use Rattle.rules_text.specs.declared.fault.RuleFault.{RuleFault}
use Rattle.text_io.specs.Gathered.{gathered}
use Rattle.text_io.specs.declared.ending.Done.{Done}
use Rattle.cmd_programs.specs.Program.{is_program, is_refused}
use Rattle.text_words.specs.FaultLines.{line, too_long}
use Rattle.cmd_differ.specs.ChangeLines.{cases_text}
use Rattle.cmd_differ.specs.Findings.{IsAnswerWith}
use Rattle.cmd_differ.specs.ProgramText.{ReadsProgramText}
use Rattle.cmd_differ.specs.Sides.{SideDecides, SideRead, SidesAgree, side_program, side_rules}
use Rattle.cmd_differ.specs.declared.finding.Finding.{Finding}
use Rattle.cmd_differ.specs.declared.finding.Finding.TheVariants.{Nothing, Something, Faulty, Undecided}
use Rattle.cmd_differ.specs.declared.kinds.TextKind.{TextKind}
use Rattle.cmd_differ.specs.declared.kinds.TextKind.TheVariants.{Rules, Program}
use Rattle.cmd_differ.specs.declared.kinds.TextKinds.{TextKinds}

-- What precedes the fault line of the old text.
abbrev pub old_mark : List ℕ
old_mark = codes "old: "

-- What precedes the fault line of the new text.
abbrev pub new_mark : List ℕ
new_mark = codes "new: "

-- The answer, after this mark, is the fault of the text that was found. If none was found, it is that the text is over the limit.
abbrev pub PrintsFaultAfter : List ℕ → Option (List ℕ) → List ℕ → Type 0
PrintsFaultAfter mark found answer = MatchOption found (answer ≡ mark ++ too_long)
    (λ text. (fault : RuleFault) × (placed_rules_in text ≡ Err fault) × (answer ≡ mark ++ rule_fault fault))

-- A text was found, and has these rules.
abbrev pub FindsText : Option (List ℕ) → PlacedRulesRead → Type 0
FindsText found placed_rules = (text : List ℕ) × (found ≡ Some text) × (placed_rules_in text ≡ Ok placed_rules)

-- The answer, after this mark, is the fault of the text with a program that was found. If none was found, it is that the text is over the
-- limit.
abbrev pub PrintsProgramFault : List ℕ → Option (List ℕ) → List ℕ → Type 0
PrintsProgramFault mark found answer = MatchOption found (answer ≡ mark ++ too_long)
    (λ text. (fault : List ℕ) × ReadsProgramText text (is_refused fault) × (answer ≡ mark ++ fault))

-- A text was found, and has this program.
abbrev pub FindsProgram : Option (List ℕ) → List Instr → Type 0
FindsProgram found code = (text : List ℕ) × (found ≡ Some text) × ReadsProgramText text (is_program code)

-- The answer is the fault of a text of this kind, after this mark.
abbrev pub PrintsSideFault : TextKind → List ℕ → Option (List ℕ) → List ℕ → Type 0
PrintsSideFault Rules = PrintsFaultAfter
PrintsSideFault Program = PrintsProgramFault

-- A text of this kind was found, and is this side.
abbrev pub FindsSide : TextKind → Option (List ℕ) → SideRead → Type 0
FindsSide Rules found side = (placed_rules : PlacedRulesRead) × FindsText found placed_rules × (side ≡ side_rules placed_rules)
FindsSide Program found side = (code : List Instr) × FindsProgram found code × (side ≡ side_program code)

-- The answer if a limit was met, of nodes, of steps, of pairs of decisions (65,536), or of what is remembered of a program. Nothing is
-- said of any cell.
abbrev pub not_decided : List ℕ
not_decided = codes "not decided: too many cases\n"

-- The answer if a program isn't followed at the instruction at this place, counted from 0. Nothing is said of any cell.
abbrev pub not_followed : ℕ → List ℕ
not_followed place = line (codes "not decided at instruction " ++ decimal place)

-- The answer if nothing is decided.
abbrev pub PrintsUndecided : List ℕ → Type 0
PrintsUndecided answer =
    (answer ≡ not_decided) ⊎ ((place : ℕ) × ((answer ≡ old_mark ++ not_followed place) ⊎ (answer ≡ new_mark ++ not_followed place)))

-- The answer that says that both texts give each cell the same value.
abbrev pub same_text : List ℕ
same_text = codes "same on every cell\n"

-- The cases of what both sides decide for cells.
pub record AreSideCases (old new : SideRead) (cases : List Case) : Type 0 where
  pub was : List ℕ → Decision
  pub is : List ℕ → Decision
  pub old_says : (cell : List ℕ) → IsCell cell → SideDecides old cell (was cell)
  pub new_says : (cell : List ℕ) → IsCell cell → SideDecides new cell (is cell)
  pub are_cases : AreCasesOf was is cases

-- The answer by all cases: that both sides give each cell the same value, exactly if they do, and then the lines of the cases.
abbrev pub PrintsCases : Bool → SideRead → SideRead → List Case → List ℕ → Finding → Type 0
PrintsCases lines old new cases answer finding =
    (SidesAgree old new × (answer ≡ same_text ++ cases_text lines old new cases) × (finding ≡ Nothing))
    ⊎ ((SidesAgree old new → ⊥) × (answer ≡ cases_text lines old new cases) × (finding ≡ Something))

-- The answer is by all cases of what both sides decide.
pub record IsDecided (lines : Bool) (old new : SideRead) (answer : List ℕ) (finding : Finding) : Type 0 where
  pub cases : List Case
  pub are_cases : AreSideCases old new cases
  pub prints : PrintsCases lines old new cases answer finding

-- The answer to two sides.
abbrev pub PrintsComparison : Bool → SideRead → SideRead → List ℕ → Finding → Type 0
PrintsComparison lines old new answer finding = IsDecided lines old new answer finding ⊎ (PrintsUndecided answer × (finding ≡ Undecided))

-- The answer to two texts that were found: the fault of the old one, that of the new one, or the comparison of both.
abbrev pub PrintsDiffer : TextKinds → Bool → Option (List ℕ) → Option (List ℕ) → List ℕ → Finding → Type 0
PrintsDiffer kinds lines old new answer finding =
    (PrintsSideFault kinds.old old_mark old answer × (finding ≡ Faulty))
    ⊎ ((was : SideRead) × FindsSide kinds.old old was
    × ((PrintsSideFault kinds.new new_mark new answer × (finding ≡ Faulty))
    ⊎ ((is : SideRead) × FindsSide kinds.new new is × PrintsComparison lines was is answer finding)))

-- The output for the old text and a whole input, and what was found.
abbrev pub IsDifferText : TextKinds → Bool → List ℕ → List ℕ → List ℕ → Finding → Type 0
IsDifferText kinds lines old octets = PrintsDiffer kinds lines (gathered most_rules_octets old) (gathered most_rules_octets octets)

-- The output, and how the run ends.
abbrev pub IsDifferAnswer : TextKinds → Bool → List ℕ → List ℕ → List ℕ → Done → Type 0
IsDifferAnswer kinds lines old = IsAnswerWith (IsDifferText kinds lines old)
