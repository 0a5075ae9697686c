-- The output of `upc-lab explain` for a script. Each line that `upc run` answers by a fault line has that fault line and its
-- explanation. Other answers are left out, but a setup may have a hint.
use Rattle.std.specs.Prelude.{◌≡◌, ℕ, ◌+◌, ◌==◌, ◌||◌, min, Bool, false, if◌then◌else◌, List, [], ◌++◌, codes, decimal, Option, Some, None, option_map, MatchBool}
use Rattle.text_io.specs.Lines.{lines_of}
use Rattle.text_io.specs.Printing.{Rules, Prints}
use Rattle.text_io.specs.declared.ending.Done.{Done}
use Rattle.text_io.specs.declared.ending.Done.TheVariants.{Whole, Ended}
use Rattle.text_card.specs.CardFaults.{no_card}
use Rattle.upc_cell.specs.declared.side.Side.{Side}
use Rattle.cmd_run.specs.RunSide.{run_side}
use Rattle.cmd_run.specs.RunText.{IsSoundRun, RunSteps, RunWorld}
use Rattle.text_words.specs.FaultLines.{too_long}
use Rattle.cmd_explain_script.specs.LoadedPrograms.{loaded_programs}
use Rattle.cmd_explain_script.specs.ScriptReasons.{script_explanation}
use Rattle.cmd_explain_script.specs.ScriptFaults.{is_fault_line}
use Rattle.cmd_explain_script.specs.SetupHints.{setup_hint}
use Rattle.cmd_explain_script.specs.declared.contract_numbers.NamesNoContract.{NamesNoContract}

-- The world of `run`, the number of lines so far, and whether one of them had a fault.
pub record ScriptWorld : Type 0 where
  pub run : RunWorld
  pub met : ℕ
  pub faulty : Bool

-- The number of lines after one more. The greatest that is counted is 2^64 - 1, more than an input may have.
abbrev pub one_line_more : ℕ → ℕ
one_line_more met = min (met + 1) 18446744073709551615

-- The text for a line of this number with this answer of `run`, on a card of this side or before there is one, after these programs
-- were loaded: the fault line and its explanation, or for an answer without a fault perhaps a hint. `faulty` says whether an earlier line
-- had a fault.
abbrev pub explained : List NamesNoContract → Bool → Option Side → ℕ → List ℕ → List ℕ → List ℕ
explained programs faulty side number content answer =
    if is_fault_line answer then answer ++ script_explanation faulty side number content answer else setup_hint programs number content

-- The world after a line with this answer, if `run` goes on.
abbrev pub after_answer : ScriptWorld → List ℕ → RunWorld → ScriptWorld
after_answer world answer next = record {
  run = next;
  met = one_line_more world.met;
  faulty = world.faulty || is_fault_line answer;
}

-- The line has an answer of `run`, and this is the text for it.
abbrev pub ExplainsLine : ScriptWorld → List ℕ → List ℕ → Option ScriptWorld → Type 0
ExplainsLine world content text next =
    (answer : List ℕ) × (after : Option RunWorld) × RunSteps world.run content answer after
    × (text ≡ explained (loaded_programs world.run) world.faulty (run_side world.run) (one_line_more world.met) content answer) × (next ≡ option_map (after_answer world answer) after)

-- A number of lines, in words.
abbrev pub lines_text : ℕ → List ℕ
lines_text met = if met == 1 then codes "1 line" else decimal met ++ codes " lines"

-- The last line, if no line had a fault.
abbrev pub no_fault_line : ℕ → List ℕ
no_fault_line met = codes "no fault in " ++ (lines_text met ++ codes "\n")

-- The explanation of a script that opens no card.
abbrev pub no_card_at_all : List ℕ
no_card_at_all = codes "no line opens a card; the first line with words is to be `card PROGRAMS LINES PORTS JOURNAL`\n"

-- The explanation of a line over the limits.
abbrev pub too_long_at_all : List ℕ
too_long_at_all = codes "a line has at most 70000 octets, and a script at most 1000000 lines\n"

-- The text at the end of a script whose lines were all answered, with a fault among them or without.
abbrev pub EndsFaulty : ScriptWorld → List ℕ → Done → Type 0
EndsFaulty world text done = MatchBool world.faulty ((text ≡ []) × (done ≡ Ended)) ((text ≡ no_fault_line world.met) × (done ≡ Whole))

-- The text at the end of a script with a card, or without.
abbrev pub ClosesScript : RunWorld → ScriptWorld → List ℕ → Done → Type 0
ClosesScript None world text done = (text ≡ no_card ++ no_card_at_all) × (done ≡ Ended)
ClosesScript (Some card) world text done = EndsFaulty world text done

-- The rules of `explain` for scripts.
abbrev pub script_rules : Rules ScriptWorld
script_rules = record {
  steps = ExplainsLine;
  closes = λ world text done. ClosesScript world.run world text done;
  too_long = too_long ++ too_long_at_all;
  is_sound = λ world. IsSoundRun world.run;
}

-- The world before the first line.
abbrev pub before_script : ScriptWorld
before_script = record { run = None; met = 0; faulty = false }

-- The output for the octets of a whole script, and how the run ends.
abbrev pub IsScriptExplained : List ℕ → List ℕ → Done → Type 0
IsScriptExplained octets text done = Prints script_rules 0 before_script (lines_of octets) text done
