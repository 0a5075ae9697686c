use Rattle.std.proofs.Common.{length, arith}
use Rattle.bpf_asm.specs.Listing.{StaysWithin}
use Rattle.bpf_asm.proofs.listings.Leaving.{leaves_if, stays_if}
use Rattle.bpf_asm.proofs.listings.Places.{leaving_found, places_all, places_more}
use Rattle.bpf_asm.proofs.lister.first_leaving.Goals as goal

pub returns-then-leaves-clause-found : goal.returns-then-leaves-clause-found
returns-then-leaves-clause-found c =
    leaving_found c.args.code.now c.loop-at.at _ (omega arith)
    (leaves_if (length c.args.code.now) c.loop-at.at _ c.leaves.result (omega arith) c.if-leaves.true (c.leaves.ensures c.loop-at.at))
    c.loop-at.invariant

pub loop-at-preserved : goal.loop-at-preserved
loop-at-preserved c =
    places_more (StaysWithin (length c.args.code.now)) c.args.code.now c.loop-at.at _ c.loop-at.invariant
    (stays_if (length c.args.code.now) c.loop-at.at _ c.leaves.result (omega arith) c.if-leaves.false (c.leaves.ensures c.loop-at.at))

pub returns-clause-none : goal.returns-clause-none
returns-clause-none c =
    places_all (StaysWithin (length c.args.code.now)) c.args.code.now c.loop-at.at (omega arith) c.loop-at.invariant
