-- For each way to read the octets as lines, some are left, and assigning them assigns all.
use Rattle.std.proofs.Common.{◌≡◌, ℕ, List, length}
use Rattle.text_script.specs.Dealing.{AreLinesOf, dealt, none_dealt}
use Rattle.text_script.proofs.DealingLemmas.{IsDealing}
use Rattle.text_script.proofs.dealing.deal_lines.Given as goal

abbrev pub invariant-loop-line : goal.invariant-loop-line
invariant-loop-line l = record {
  dealing : (whole : List (List ℕ)) → AreLinesOf l.lines whole → IsDealing l.side whole (none_dealt l.ports) l.rest (dealt l.deal);
  ports : length l.deal.arrivals.items ≡ l.ports;
}

abbrev pub decreases-loop-line : goal.decreases-loop-line
decreases-loop-line l = length l.rest
