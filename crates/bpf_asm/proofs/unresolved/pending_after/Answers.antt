use Rattle.std.proofs.Common.{sym, ap}
use Rattle.std.specs.Option.{option_copied, option_map}
use Rattle.bpf_asm.specs.inner.Seen.{line_seen, statement_seen}
use Rattle.bpf_asm.proofs.drafts.PendingSteps.{pending_at, pending_kept, pending_new, pending_none, pending_plain}
use Rattle.bpf_asm.proofs.unresolved.pending_after.Goals as goal

pub returns-in-Some : goal.returns-in-Some
returns-in-Some c = λ before n p. pending_none before (line_seen c.args.lent.now) _ (ap (option_map statement_seen) c.in-Some.is)

pub returns-in-Some-pending : goal.returns-in-Some-pending
returns-in-Some-pending c = λ before n p.
    pending_kept before (line_seen c.args.lent.now) c.in-Some-pending.first (ap (option_map statement_seen) c.in-None.is) (pending_at before _ _ c.in-Some-pending.is p)

pub returns-in-Some-label : goal.returns-in-Some-label
returns-in-Some-label c = λ before n p.
    rw (sym n) (pending_new before (line_seen c.args.lent.now) c.in-Some-label.field-0.now (ap option_copied c.in-Some-label.is) (ap (option_map statement_seen) c.in-None.is) (pending_at before _ _ c.in-None-pending.is p))

pub returns-in-None-label : goal.returns-in-None-label
returns-in-None-label c = λ before n p.
    pending_plain before (line_seen c.args.lent.now) (ap option_copied c.in-None-label.is) (ap (option_map statement_seen) c.in-None.is) (pending_at before _ _ c.in-None-pending.is p)
