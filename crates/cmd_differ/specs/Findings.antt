-- Answers with a finding.
use Rattle.std.specs.Prelude.{◌≡◌, ℕ, List, Result, Ok, Err}
use Rattle.text_io.specs.declared.ending.Done.{Done}
use Rattle.text_io.specs.declared.ending.Done.TheVariants.{Whole, Ended}
use Rattle.text_io.specs.declared.ending.RunFault.{RunFault}
use Rattle.cmd_differ.specs.declared.finding.Finding.{Finding}
use Rattle.cmd_differ.specs.declared.finding.Finding.TheVariants.{Nothing, Something, Faulty, Undecided}

-- How the run ends: `Whole` if nothing was found, and `Ended` after any other finding.
abbrev pub finding_done : Finding → Done
finding_done Nothing = Whole
finding_done Something = Ended
finding_done Faulty = Ended
finding_done Undecided = Ended

-- The finding says whether there is something.
abbrev pub IsConclusive : Finding → Type 0
IsConclusive Nothing = Unit {0}
IsConclusive Something = Unit {0}
IsConclusive Faulty = ⊥
IsConclusive Undecided = ⊥

-- The output and how the run ends, for texts that say which output and finding a whole input has.
abbrev pub IsAnswerWith : (List ℕ → List ℕ → Finding → Type 0) → List ℕ → List ℕ → Done → Type 0
IsAnswerWith text octets answer done = (finding : Finding) × text octets answer finding × (done ≡ finding_done finding)

-- How a run with this result ends.
abbrev pub ended_by : Result Finding RunFault → Result Done RunFault
ended_by (Ok finding) = Ok (finding_done finding)
ended_by (Err fault) = Err fault
