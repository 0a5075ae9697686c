-- Lemmas for other crates.
use Rattle.std.proofs.Common.{◌≡◌, ℕ, List}
use Rattle.cmd_list.proofs.OneListing as listing
use Rattle.cmd_list.proofs.OneTrace as trace
use Rattle.cmd_list.specs.ListedProgram.{IsListText}
use Rattle.cmd_list.specs.Trace.{IsTraceText}
use Rattle.text_io.specs.declared.ending.Done.{Done}

-- An input has a trace.
pub some-trace_text : (octets : List ℕ) → (text : List ℕ) × (done : Done) × IsTraceText octets text done
some-trace_text = trace.some-trace_text

-- It has only one.
pub one-trace_text : (octets one other : List ℕ) (ends other_ends : Done) → IsTraceText octets one ends → IsTraceText octets other other_ends → (one ≡ other) × (ends ≡ other_ends)
one-trace_text = trace.one-trace_text

-- An input has an output of `list`.
pub some-list_text : (octets : List ℕ) → (text : List ℕ) × (done : Done) × IsListText octets text done
some-list_text = listing.some-list_text

-- It has only one.
pub one-list_text : (octets one other : List ℕ) (ends other_ends : Done) → IsListText octets one ends → IsListText octets other other_ends → (one ≡ other) × (ends ≡ other_ends)
one-list_text = listing.one-list_text
