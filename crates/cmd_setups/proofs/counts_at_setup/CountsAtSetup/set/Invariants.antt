-- Places that are added count no cell.
use Rattle.std.proofs.Common.{◌≡◌, ℕ, vec_len}
use Rattle.cmd_setups.specs.CountsAtSetup.{counts_of_line}
use Rattle.cmd_setups.proofs.counts_at_setup.CountsAtSetup.set.Given as goal

abbrev pub invariant-loop : goal.invariant-loop
invariant-loop l =
    record {
      long : vec_len l.self.counts ≡ l.counter;
      same : (number : ℕ) → counts_of_line l.self.counts.items number ≡ counts_of_line l.fn.self.counts.items number;
    }
