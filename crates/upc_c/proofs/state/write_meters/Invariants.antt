use Rattle.upc_c.specs.inner.WrittenState.{AreMetersOf}
use Rattle.upc_c.proofs.state.write_meters.Given as goal

abbrev pub invariant-loop-place : goal.invariant-loop-place
invariant-loop-place l = AreMetersOf l.contracts l.levels l.initial.room l.room l.place
