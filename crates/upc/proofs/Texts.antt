-- Each input has a text of each subcommand, and at most one of each but `ports`.
use Rattle.std.proofs.Common.{◌≡◌, ℕ, List}
use Rattle.text_io.specs.declared.ending.Done.{Done}
use Rattle.upc.specs.Subcommand.{IsTextOf, HasOneText}
use Rattle.text_command_line.specs.declared.choice.Choice.{Choice}
use Rattle.text_command_line.specs.declared.choice.Choice.TheVariants.{Check, Eval, Run, Ports}
use Rattle.cmd_programs.proofs.Public.{some-check_text, one-check_text, some-eval_text, one-eval_text}
use Rattle.cmd_run.proofs.Public.{some-run_text, one-run_text}
use Rattle.cmd_ports.proofs.Public.{some-ports_text}

pub some-text_of : (choice : Choice) (octets : List ℕ) → (text : List ℕ) × (done : Done) × IsTextOf choice octets text done
some-text_of Check octets = some-check_text octets
some-text_of Eval octets = some-eval_text octets
some-text_of Run octets = some-run_text octets
some-text_of Ports octets = some-ports_text octets

pub one-text_of : (choice : Choice) (octets : List ℕ) (one other : List ℕ) (ends other_ends : Done)
    → HasOneText choice → IsTextOf choice octets one ends → IsTextOf choice octets other other_ends → (one ≡ other) × (ends ≡ other_ends)
one-text_of Check octets one other ends other_ends whole = one-check_text octets one other ends other_ends
one-text_of Eval octets one other ends other_ends whole = one-eval_text octets one other ends other_ends
one-text_of Run octets one other ends other_ends whole = one-run_text octets one other ends other_ends
one-text_of Ports octets one other ends other_ends never = absurd never
