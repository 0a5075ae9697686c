use Rattle.std.proofs.Common.{◌≡◌, length, le_antisymm}
use Rattle.upc_c.proofs.EntryLemmas.{written-all, written-more}
use Rattle.upc_c.proofs.entry.write_entries.Goals as goal

pub loop-place-preserved : goal.loop-place-preserved
loop-place-preserved c = written-more c.args.entries.now c.args.room.now c.loop-place.room c.loop-place.place _ c.entry_for_c.result
    c.loop-place-test.true c.requires c.loop-place.invariant c.entry_for_c.ensures

pub returns : goal.returns
returns c =
    let all : c.loop-place.place ≡ length c.args.entries.now = le_antisymm c.loop-place.auto.place-end c.loop-place-test.false in
    written-all c.args.entries.now c.args.room.now c.loop-place.room c.loop-place.place all c.requires c.loop-place.invariant
