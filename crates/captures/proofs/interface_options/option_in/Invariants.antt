use Rattle.std.proofs.Common.{◌≡◌, ◌-◌, ◌≤◌}
use Rattle.captures.specs.InterfaceOptions.{option_among, option_of}
use Rattle.captures.proofs.interface_options.option_in.Given as goal

abbrev pub invariant-loop : goal.invariant-loop
invariant-loop l =
    record {
      within : l.counter ≤ l.end;
      same : option_among (l.end - l.counter) l.order l.code l.rest ≡ option_of l.order l.code l.options;
    }
