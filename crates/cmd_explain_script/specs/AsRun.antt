-- What is proved of the faults that `upc-lab explain` names in a script.
use Rattle.std.specs.Prelude.{◌≡◌, ℕ, Bool, List, ◌++◌, flat_map, Option}
use Rattle.text_io.specs.declared.ending.Done.{Done}
use Rattle.upc_cell.specs.declared.side.Side.{Side}
use Rattle.cmd_run.specs.RunText.{IsRunText}
use Rattle.cmd_explain_script.specs.ScriptText.{IsScriptExplained, explained}
use Rattle.cmd_explain_script.specs.declared.contract_numbers.NamesNoContract.{NamesNoContract}

-- A line of a script, the programs loaded, whether a line had a fault, and the side of the card before it, and the answer of `run` to it.
pub record AnsweredLine : Type 0 where
  pub programs : List NamesNoContract
  pub faulty : Bool
  pub side : Option Side
  pub number : ℕ
  pub content : List ℕ
  pub answer : List ℕ

-- The answers of `run` to these lines.
abbrev pub answers_of : List AnsweredLine → List ℕ
answers_of lines = flat_map (λ line. line.answer) lines

-- What `explain` prints for these lines: for each fault line that line and its explanation, and for any other a hint or nothing.
abbrev pub explained_of : List AnsweredLine → List ℕ
explained_of lines = flat_map (λ line. explained line.programs line.faulty line.side line.number line.content line.answer) lines

-- Both texts come from the same answers of `run` to the same lines. After them `run` answers the end of the script, or a line over the
-- limits, and `explain` prints the same and then perhaps a sentence.
pub record NamesFaultsAt (answers text : List ℕ) : Type 0 where
  pub lines : List AnsweredLine
  pub last : List ℕ
  pub more : List ℕ
  pub answered : answers ≡ answers_of lines ++ last
  pub explains : text ≡ explained_of lines ++ (last ++ more)

-- The faults that `explain` names are those of `run`, in the same order.
abbrev pub NamesFaultsOfRun : Type 0
NamesFaultsOfRun =
    (octets answers text : List ℕ) (ended done : Done) → IsRunText octets answers ended → IsScriptExplained octets text done → NamesFaultsAt answers text
