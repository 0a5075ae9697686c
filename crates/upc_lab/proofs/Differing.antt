-- The status of subcommands that end in their own ways is that of the program.
use Rattle.std.proofs.Common.{◌≡◌, ℕ, Result, Ok, Err, refl, ◌∙◌}
use Rattle.text_io.specs.declared.ending.Done.{Done}
use Rattle.text_io.specs.declared.ending.Done.TheVariants.{Whole, Ended}
use Rattle.text_io.specs.declared.ending.RunFault.{RunFault}
use Rattle.text_io.specs.declared.ending.RunFault.TheVariants.{NoMemory}
use Rattle.text_command_line.specs.ExitStatus.{status_of}
use Rattle.cmd_differ.specs.declared.finding.Finding.{Finding}
use Rattle.cmd_differ.specs.declared.finding.Finding.TheVariants.{Nothing, Something, Faulty, Undecided}
use Rattle.upc_lab.specs.Comparison.{finding_status}

-- A run with the status of a finding.
run_with : (ended : Result Finding RunFault) → (run : Result Done RunFault) × (finding_status ended ≡ status_of run)
run_with (Ok Nothing) = (Ok Whole, refl)
run_with (Ok Something) = (Ok Ended, refl)
run_with (Ok Faulty) = (Ok Ended, refl)
run_with (Ok Undecided) = (Err NoMemory, refl)
run_with (Err fault) = (Err fault, refl)

-- A run with a finding ends with the status of a run.
pub finding_ends : (status : ℕ) → (ended : Result Finding RunFault) × (status ≡ finding_status ended) → (run : Result Done RunFault) × (status ≡ status_of run)
finding_ends status ends = let run = run_with ends.0 in (run.0, ends.1 ∙ run.1)
