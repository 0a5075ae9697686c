-- The output of each subcommand of `upc-lab`.
use Rattle.std.specs.Prelude.{ℕ, if◌then◌else◌, Bool, List, Option, Some, None, option_map}
use Rattle.captures_text.specs.CellsText.{IsCellsText}
use Rattle.cmd_differ.specs.DifferText.{IsDifferAnswer}
use Rattle.cmd_differ.specs.declared.kinds.TextKind.TheVariants.{Rules, Program}
use Rattle.cmd_differ.specs.declared.kinds.TextKinds.{TextKinds}
use Rattle.cmd_differ.specs.UnusedText.{IsUnusedAnswer}
use Rattle.cmd_fit.specs.FitAsked.{IsFitAsked}
use Rattle.cmd_explain.specs.Explained.{IsExplainText}
use Rattle.cmd_forward.specs.AgreedForward.{MayBeForwardedAsAgreed}
use Rattle.cmd_forward.specs.Reporting.{HasReportedText}
use Rattle.cmd_forward.specs.declared.others.Others.{Others}
use Rattle.cmd_forward.specs.declared.others.Others.TheVariants.{Pass, Drop}
use Rattle.cmd_fit.specs.LinksText.{IsLinksText}
use Rattle.cmd_options.specs.declared.fit.FitOptions.{FitOptions}
use Rattle.cmd_options.specs.declared.programs.Programs.{Programs}
use Rattle.cmd_options.specs.declared.programs.Programs.TheVariants as which
use Rattle.cmd_list.specs.ListedProgram.{IsListText}
use Rattle.cmd_list.specs.Trace.{IsTraceText}
use Rattle.cmd_rules.specs.AsmText.{MayBeAsmText}
use Rattle.cmd_rules.specs.RulesText.{MayBeRulesText}
use Rattle.cmd_rules.specs.WhyText.{MayBeWhyText}
use Rattle.cmd_options.specs.declared.police.PoliceOptions.{PoliceOptions}
use Rattle.cmd_police.specs.SetupText.{MayBePolicedAsAgreed}
use Rattle.cmd_police.specs.declared.scope.PoliceScope.{PoliceScope}
use Rattle.cmd_size.specs.SizeText.{IsSizesText}
use Rattle.text_io.specs.declared.ending.Done.{Done}
use Rattle.cmd_options.specs.declared.choice.Asked.{Asked}
use Rattle.cmd_options.specs.declared.choice.Asked.TheVariants.{Plain, Why, Cells, Fit, Police, Differ, Forward, Explain}
use Rattle.cmd_options.specs.declared.choice.Subcommand.{Subcommand}
use Rattle.cmd_options.specs.declared.choice.Subcommand.TheVariants as lab

-- The output of a subcommand without options for a whole input, and how the run ends.
abbrev pub IsLabText : Subcommand → List ℕ → List ℕ → Done → Type 0
IsLabText lab.Rules = MayBeRulesText
IsLabText lab.Asm = MayBeAsmText
IsLabText lab.Unused = IsUnusedAnswer
IsLabText lab.List = IsListText
IsLabText lab.Trace = IsTraceText
IsLabText lab.Size = IsSizesText
IsLabText lab.Links = IsLinksText

-- What becomes of records without a cell that counts, as the option `--others` of `forward` says.
abbrev pub others_asked : Bool → Others
others_asked others = if others then Pass else Drop

-- The scope that options of `police` ask for.
abbrev pub scope_asked : PoliceOptions → PoliceScope
scope_asked options = record { link = options.link; timing = options.timing; lines = options.lines; every = options.every; why = options.why }

-- The octets of a file of rules, which are these, if there is such a file.
abbrev pub octets_if_named : {Name : Type 0} → Option Name → List ℕ → Option (List ℕ)
octets_if_named None read = None
octets_if_named (Some name) read = Some read

-- The octets of the rules that options of `fit` ask for, if they do. These were read from the file that they name.
abbrev pub rules_asked : FitOptions → List ℕ → Option (List ℕ)
rules_asked options read = octets_if_named options.rules read

-- The kinds of the old and the new text. `Programs` says which of them are programs; any other is rules.
abbrev pub kinds_asked : Programs → TextKinds
kinds_asked which.Neither = record { old = Rules; new = Rules }
kinds_asked which.Old = record { old = Program; new = Rules }
kinds_asked which.New = record { old = Rules; new = Program }
kinds_asked which.Both = record { old = Program; new = Program }

-- The output for the octets of the files that the words name, which are a setup script, with the tick that it names,
-- files of rules and an old text of `differ` or the rules of `fit`, and for a whole input, and how the run ends. Only
-- `police` and `forward` have the first three, and only `differ` and `fit` the last. `explain` is the one without
-- `--setup`, with which it reads no input (`CarriesExplained`).
abbrev pub IsAskedText : List ℕ → Option ℕ → List (List ℕ) → List ℕ → Asked → List ℕ → List ℕ → Done → Type 0
IsAskedText setup tick rules other (Plain subcommand) = IsLabText subcommand
IsAskedText setup tick rules other (Why options) = MayBeWhyText options.count
IsAskedText setup tick rules other (Cells options) = IsCellsText options.tick.nanoseconds options.link options.timing options.numbered
IsAskedText setup tick rules other (Police options) = MayBePolicedAsAgreed (scope_asked options) tick (option_map (λ asked. asked.nanoseconds) options.tick) setup rules
IsAskedText setup tick rules other (Fit options) = IsFitAsked options.choice (rules_asked options other)
IsAskedText setup tick rules other (Forward options) = HasReportedText (MayBeForwardedAsAgreed (others_asked options.others) tick
    (option_map (λ asked. asked.nanoseconds) options.tick) options.link setup rules)
IsAskedText setup tick rules other (Differ options) = IsDifferAnswer (kinds_asked options.programs) options.all other
IsAskedText setup tick rules other (Explain options) = IsExplainText
