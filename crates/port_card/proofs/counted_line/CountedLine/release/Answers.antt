use Rattle.port_card.proofs.Releasing.{served-piece, served-refused}
use Rattle.port_card.proofs.counted_line.CountedLine.release.Goals as goal

pub returns-clause-piece : goal.returns-clause-piece
returns-clause-piece g c =
    let line = c.args.self.now.line in
    let served = c.release.ensures.served c.args.seating.now c.requires in
    served-piece c.release.result line c.args.vc c.args.seating.now served c.release.ensures.piece

pub returns-clause-refused : goal.returns-clause-refused
returns-clause-refused g c =
    let line = c.args.self.now.line in
    let served = c.release.ensures.served c.args.seating.now c.requires in
    served-refused c.release.result line c.args.vc c.args.seating.now served
