use Rattle.rules_diagrams.specs.CellNumbers.{octets_number}
use Rattle.rules_diagrams.proofs.Walking.{walked_whole}
use Rattle.rules_diagrams.proofs.walk.meetings.Goals as goal

pub returns : goal.returns
returns c =
    walked_whole c.args.one.now c.args.other.now c.go.new.self.met.items c.go.new.self.seen.items c.args.both (octets_number c.zero_cell.result) c.new.result.items c.new.ensures.items c.zero_cell.ensures.number
    c.in_ok-go.ensures.walked
