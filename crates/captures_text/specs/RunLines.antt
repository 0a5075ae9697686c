-- The lines that several subcommands over captures have.
use Rattle.std.specs.Prelude.{ℕ, List, [], ◌++◌, codes, Option, Some, None}
use Rattle.captures.specs.declared.fault.Fault.{Fault}
use Rattle.captures.specs.declared.link.Link.{Link}
use Rattle.captures_text.specs.CaptureFaults.{capture_fault_line}
use Rattle.captures_text.specs.LinkWords.{link_word}
use Rattle.captures_text.specs.ReadingSummaries.{summary_lines}
use Rattle.captures_text.specs.declared.reading_summary.ReadingSummary.{ReadingSummary}

-- The answer to a cell of a second link, where none was asked for.
abbrev pub several_line : Link → Link → List ℕ
several_line one other = codes "fault link 1 Several " ++ link_word one ++ codes " " ++ link_word other ++ codes "\n"

-- The fault at which the reading ended, if there is one.
abbrev pub ending_line : Option Fault → List ℕ
ending_line None = []
ending_line (Some fault) = capture_fault_line fault

-- The end of a text: the comments, and the fault if there is one.
abbrev pub closing_lines : ReadingSummary → Option Fault → List ℕ
closing_lines summary ending = summary_lines summary ++ ending_line ending
