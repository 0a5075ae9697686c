-- The answer to words that begin with no name of a subcommand with options.
use Rattle.std.specs.Prelude.{◌≡◌, List, [], Result, IfErr, IfOk}
use Rattle.clap.specs.Walk.{Text}
use Rattle.text_command_line.specs.Stopping.{StopsAt}
use Rattle.text_command_line.specs.declared.stop.Stop.{Stop}
use Rattle.text_command_line.specs.declared.stop.Stop.TheVariants.{NoMemory}
use Rattle.cmd_options.specs.LabWords.{NamesLab, lab_faults_in}
use Rattle.cmd_options.specs.declared.choice.Subcommand.{Subcommand}

-- The subcommand that the words name, or why they give none.
pub record LabAnswers (words : List Text) (answer : Result Subcommand Stop) : Type 0 where
  pub asked : IfOk answer (NamesLab words)
  pub faultless : IfOk answer (λ _. lab_faults_in words ≡ [])
  pub stopped : IfErr answer (StopsAt (lab_faults_in words))
  -- Words without an error, and words that name a subcommand, are refused only for want of memory.
  pub taken : lab_faults_in words ≡ [] → IfErr answer (λ stop. stop ≡ NoMemory)
  pub granted : (subcommand : Subcommand) → NamesLab words subcommand → IfErr answer (λ stop. stop ≡ NoMemory)
