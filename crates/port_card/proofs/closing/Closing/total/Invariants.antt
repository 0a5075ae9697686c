use Rattle.std.proofs.Common.{◌≡◌, take}
use Rattle.port_card.specs.Closing.{lines_total}
use Rattle.port_card.proofs.closing.Closing.total.Given as goal

abbrev pub invariant-loop-line : goal.invariant-loop-line
invariant-loop-line l = l.sum ≡ lines_total (take l.line-index l.self.lines.items)
