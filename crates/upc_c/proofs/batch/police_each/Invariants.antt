-- The cells so far are judged.
use Rattle.upc_c.specs.inner.CellsOnCore.{PolicesFirst}
use Rattle.upc_c.specs.inner.ReachedCore.{IsReachedCore}
use Rattle.upc_c.proofs.batch.police_each.Given as goal

abbrev pub invariant-loop-number : goal.invariant-loop-number
invariant-loop-number l = record {
  reached : IsReachedCore l.core;
  policed : PolicesFirst l.initial.core l.core l.initial.octets l.octets l.stride l.moments l.initial.answers l.answers l.number;
}
