-- The facts that higher crates may use in their proofs.
use Rattle.std.proofs.Common.{◌≡◌, ℕ, List}
use Rattle.text_io.specs.declared.ending.Done.{Done}
use Rattle.cmd_run.specs.RunText.{IsRunText}
use Rattle.cmd_run.proofs.one_script.OneScript as run
pub use Rattle.cmd_run.proofs.ArrivalLemmas.{arrives}
pub use Rattle.cmd_run.specs.inner.RunLaws.{arrived-led, cell-some, cut-led, cut-some, run-total}

-- A script has a text of `run`.
pub some-run_text : (octets : List ℕ) → (text : List ℕ) × (done : Done) × IsRunText octets text done
some-run_text = run.some-run_text

-- It has only one.
pub one-run_text : (octets one other : List ℕ) (ends other_ends : Done) → IsRunText octets one ends → IsRunText octets other other_ends
    → (one ≡ other) × (ends ≡ other_ends)
one-run_text = run.one-run_text
