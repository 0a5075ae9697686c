-- The output of `upc-lab rules`. The whole input is a text of rules. The answer is the octets of the program that they are compiled
-- to, or the fault of the text.
use Rattle.std.specs.Prelude.{◌≡◌, ◌⊎◌, ℕ, List}
use Rattle.bpf_code.specs.declared.instr.Instr.{Instr}
use Rattle.bpf_verify.specs.Accepted.{IsAccepted}
use Rattle.rules_text.specs.CodeOfText.{IsCodeOfText}
use Rattle.rules_text.specs.ValuesRead.{FollowsText}
use Rattle.text_io.specs.declared.ending.Done.{Done}
use Rattle.text_io.specs.declared.ending.Done.TheVariants.{Whole}
use Rattle.cmd_rules.specs.RulesAnswers.{IsAnswerBy, MayBeAnswerBy, PrintsFault}
use Rattle.cmd_programs.specs.Check.{accepted_text}

-- The answer to a text of rules. If it is a program, that is the code that is defined for the text; it is accepted, and on every cell the
-- machine gives the value of the text's rules.
abbrev pub PrintsRules : List ℕ → List ℕ → Done → Type 0
PrintsRules text answer done =
    ((code : List Instr) × IsAccepted code × FollowsText text code × IsCodeOfText text code × (answer ≡ accepted_text code) × (done ≡ Whole))
    ⊎ PrintsFault text answer done

-- The output for a whole input, and how the run ends.
abbrev pub IsRulesText : List ℕ → List ℕ → Done → Type 0
IsRulesText = IsAnswerBy PrintsRules

-- As `IsRulesText`, but the code of any rules may be reported as too long.
abbrev pub MayBeRulesText : List ℕ → List ℕ → Done → Type 0
MayBeRulesText = MayBeAnswerBy PrintsRules
