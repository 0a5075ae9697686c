-- The line has the common form, or its words decide how it is assigned.
use Rattle.std.proofs.lemmas.Result.{on_ok_weaker}
use Rattle.text_script.specs.Dealing.{dealt}
use Rattle.text_script.proofs.DealingLemmas.{common_dealt}
use Rattle.text_script.proofs.dealing.Deal.deal_line.Goals as goal

pub returns-in-Some : goal.returns-in-Some
returns-in-Some c =
    on_ok_weaker c.deal_cell.result
    (λ deals. common_dealt c.args.side c.args.line.now c.in-Some.arrival.moment c.in-Some.arrival.cell (dealt c.args.self.now) (dealt c.deal_cell.new.self)
    c.in-Some.ensures.cell deals) c.deal_cell.ensures
