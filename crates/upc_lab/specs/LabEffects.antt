-- The effect of the program for each of its words, with these messages for failures, and its exit status. A name with a prime is
-- the device after the run.
use Rattle.std.specs.Prelude.{◌≡◌, ℕ, List, MatchOption, Result, Ok, Err, not, option_map}
use Rattle.text_io.specs.declared.device.Input.{Ghosts as InputView}
use Rattle.text_io.specs.declared.device.Output.{Ghosts as OutputView}
use Rattle.text_io.specs.declared.ending.Done.{Done}
use Rattle.text_io.specs.declared.ending.RunFault.{RunFault}
use Rattle.text_command_line.specs.declared.stop.Stop.{Stop}
use Rattle.text_command_line.specs.Invocation.{CarriesOut, IsStatusFor}
use Rattle.text_command_line.specs.Messages.{IsIdle, WritesMessage}
use Rattle.cmd_differ.specs.DifferText.{IsDifferText}
use Rattle.cmd_differ.specs.UnusedText.{IsUnusedText}
use Rattle.cmd_explain.specs.Explained.{IsExplainText, IsWholeExplanation}
use Rattle.cmd_forward.specs.AgreedForward.{IsForwardedAsAgreed, MayBeForwardedAsAgreed}
use Rattle.cmd_forward.specs.Reporting.{ReportedTexts}
use Rattle.cmd_options.specs.declared.forward.ForwardOptions.{ForwardOptions}
use Rattle.cmd_options.specs.declared.police.PoliceOptions.{PoliceOptions}
use Rattle.cmd_police.specs.SetupText.{IsPolicedAsAgreed, MayBePolicedAsAgreed}
use Rattle.cmd_rules.specs.AsmText.{IsAsmText, MayBeAsmText}
use Rattle.cmd_rules.specs.WhyText.{IsWhyText, MayBeWhyText}
use Rattle.upc_lab.specs.Comparison.{CarriesFinding}
use Rattle.upc_lab.specs.ExactRun.{CarriesExact}
use Rattle.upc_lab.specs.ExplainRun.{CarriesExplained}
use Rattle.upc_lab.specs.ForwardRun.{CarriesForward}
use Rattle.upc_lab.specs.RulesRun.{CarriesRules}
use Rattle.upc_lab.specs.LabText.{IsAskedText, IsLabText, kinds_asked, others_asked, scope_asked}
use Rattle.upc_lab.specs.NamedFiles.{explains_setup, rules_in_files, setup_name, tick_in_files, unreadable_message}
use Rattle.upc_lab.specs.SetupHints.{MayBeSetupHints}
use Rattle.cmd_options.specs.declared.choice.Asked.{Asked}
use Rattle.cmd_options.specs.declared.choice.Asked.TheVariants.{Plain, Why, Police, Differ, Forward, Explain}
use Rattle.cmd_options.specs.declared.choice.Subcommand.{Subcommand}
use Rattle.cmd_options.specs.declared.choice.Subcommand.TheVariants as lab
use Rattle.upc_lab.specs.declared.named_files.NamedFiles.{NamedFiles}
use Rattle.upc_lab.specs.declared.named_files.Unreadable.{Unreadable}

-- What is written for what is asked of `forward`, with these files, and what is reported.
abbrev pub ForwardsAsked : NamedFiles → ForwardOptions → ReportedTexts
ForwardsAsked files options = IsForwardedAsAgreed (others_asked options.others) (tick_in_files files)
    (option_map (λ asked. asked.nanoseconds) options.tick) options.link files.script.items (rules_in_files files)

-- The same, but that the code of any rules may be reported as too long.
abbrev pub MayForwardAsked : NamedFiles → ForwardOptions → ReportedTexts
MayForwardAsked files options = MayBeForwardedAsAgreed (others_asked options.others) (tick_in_files files)
    (option_map (λ asked. asked.nanoseconds) options.tick) options.link files.script.items (rules_in_files files)

-- The text of `police` for what is asked of it, with these files.
abbrev pub PolicesAsked : NamedFiles → PoliceOptions → List ℕ → List ℕ → Done → Type 0
PolicesAsked files options = IsPolicedAsAgreed (scope_asked options) (tick_in_files files)
    (option_map (λ asked. asked.nanoseconds) options.tick) files.script.items (rules_in_files files)

-- The same, but that the code of any rules may be reported as too long.
abbrev pub MayPoliceAsked : NamedFiles → PoliceOptions → List ℕ → List ℕ → Done → Type 0
MayPoliceAsked files options = MayBePolicedAsAgreed (scope_asked options) (tick_in_files files)
    (option_map (λ asked. asked.nanoseconds) options.tick) files.script.items (rules_in_files files)

-- The effect of a subcommand without options.
abbrev pub CarriesPlain : {Source Sink Errors : Type 0} → (RunFault → List ℕ) → Subcommand
    → InputView Source → Source → Source → OutputView Sink → Sink → Sink → OutputView Errors → Errors → Errors → ℕ → Type 0
CarriesPlain message lab.Rules = CarriesRules message
CarriesPlain message lab.Unused = CarriesFinding message IsUnusedText
CarriesPlain message lab.Asm = CarriesExact message IsAsmText MayBeAsmText
CarriesPlain message subcommand = CarriesOut message IsLabText (Ok subcommand)

-- The effect of what was asked for, and for the octets of the files that the words name, which were read. `explain` reads the
-- input, unless the words name a setup script.
abbrev pub CarriesAsked : {Source Sink Errors : Type 0} → (RunFault → List ℕ) → Asked → NamedFiles
    → InputView Source → Source → Source → OutputView Sink → Sink → Sink → OutputView Errors → Errors → Errors → ℕ → Type 0
CarriesAsked message (Plain subcommand) files = CarriesPlain message subcommand
CarriesAsked message (Differ options) files = CarriesFinding message (IsDifferText (kinds_asked options.programs) options.all files.other_text.items)
CarriesAsked message (Forward options) files = CarriesForward message (ForwardsAsked files options) (MayForwardAsked files options)
CarriesAsked message (Why options) files = CarriesExact message (IsWhyText options.count) (MayBeWhyText options.count)
CarriesAsked message (Police options) files = CarriesExact message (PolicesAsked files options) (MayPoliceAsked files options)
CarriesAsked message (Explain options) files = λ I input input' O output output' E errors errors' status. MatchOption options.setup
    (CarriesExact message IsWholeExplanation IsExplainText I input input' O output output' E errors errors' status)
    (λ name. CarriesExplained message files.script.items (rules_in_files files) I input input' O output output' E errors errors' status)
CarriesAsked message asked files = CarriesOut message (IsAskedText files.script.items (tick_in_files files) (rules_in_files files) files.other_text.items) (Ok asked)

-- The effect of words for which nothing is run.
abbrev pub CarriesStop : {Source Sink Errors : Type 0} → (RunFault → List ℕ) → Stop
    → InputView Source → Source → Source → OutputView Sink → Sink → Sink → OutputView Errors → Errors → Errors → ℕ → Type 0
CarriesStop message stop = CarriesOut message IsLabText (Err stop)

-- The effect of any words.
abbrev pub CarriesNamed : {Source Sink Errors : Type 0} → (RunFault → List ℕ) → Result Asked Stop → NamedFiles
    → InputView Source → Source → Source → OutputView Sink → Sink → Sink → OutputView Errors → Errors → Errors → ℕ → Type 0
CarriesNamed message (Ok asked) files = CarriesAsked message asked files
CarriesNamed message (Err stop) files = CarriesStop message stop

-- If the words name a setup script, the hints about its files of rules are written to the error output, and those about the
-- script itself, unless it is explained. Otherwise nothing is.
abbrev pub WritesSetupHints : {Errors : Type 0} → Result Asked Stop → NamedFiles → OutputView Errors → Errors → Errors → Type 0
WritesSetupHints chosen files E errors errors' = MatchOption (setup_name chosen) (errors' ≡ errors)
    (λ name. (hints : List ℕ) × MayBeSetupHints (not (explains_setup chosen)) files.script.items (rules_in_files files) hints × WritesMessage E errors errors' hints)

-- The effect of any words, after these hints.
abbrev pub CarriesHinted : {Source Sink Errors : Type 0} → (RunFault → List ℕ) → Result Asked Stop → NamedFiles
    → InputView Source → Source → Source → OutputView Sink → Sink → Sink → OutputView Errors → Errors → Errors → ℕ → Type 0
CarriesHinted {Errors = Errors} message chosen files I input input' O output output' E errors errors' status =
    (hinted : Errors) × WritesSetupHints chosen files E errors hinted × CarriesNamed message chosen files I input input' O output output' E hinted errors' status

-- The same, for files that may not have been read. If a file couldn't be read, nothing is read or written but the message
-- about it.
abbrev pub CarriesAllOut : {Source Sink Errors : Type 0} → (RunFault → List ℕ) → Result Asked Stop → Result NamedFiles Unreadable
    → InputView Source → Source → Source → OutputView Sink → Sink → Sink → OutputView Errors → Errors → Errors → ℕ → Type 0
CarriesAllOut message chosen (Ok files) = CarriesHinted message chosen files
CarriesAllOut message chosen (Err unreadable) = λ I input input' O output output' E errors errors' status.
    (status ≡ 3) × IsIdle I input input' O output output' × WritesMessage E errors errors' (unreadable_message unreadable)

-- The exit status. No more is promised for devices whose octets no contract knows.
abbrev pub IsStatusIn : Result Asked Stop → Result NamedFiles Unreadable → ℕ → Type 0
IsStatusIn chosen (Ok files) status = IsStatusFor chosen status
IsStatusIn chosen (Err unreadable) status = status ≡ 3
