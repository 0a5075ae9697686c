-- The lines are assigned one after another, and at the end none is left.
use Rattle.std.proofs.Common.{sym, ◌∙◌}
use Rattle.std.proofs.lemmas.List.{length-map}
use Rattle.text_script.specs.Dealing.{dealt}
use Rattle.text_script.proofs.DealingLemmas.{all_dealt, line_keeps, one_dealt}
use Rattle.text_script.proofs.dealing.deal_lines.Goals as goal

pub loop-line-preserved : goal.loop-line-preserved
loop-line-preserved c =
    let before = dealt c.loop-line.deal in
    let after = dealt c.deal_line.new.self in
    let line = c.in-Some.line.now in
    let deals = c.in_ok-deal_line.ensures in
    record {
      dealing = λ whole are. one_dealt c.args.side whole _ before after c.loop-line.rest.now line c.in-Some.later.now
          c.in-Some.ensures.cut c.in-Some.ensures.before (c.loop-line.invariant.dealing whole are) deals;
      ports = sym (length-map c.deal_line.new.self.arrivals.items _) ∙ line_keeps c.args.side line before after deals
          ∙ length-map c.loop-line.deal.arrivals.items _ ∙ c.loop-line.invariant.ports;
    }

pub returns-clause-dealt : goal.returns-clause-dealt
returns-clause-dealt c = λ whole are.
    all_dealt c.args.side whole _ _ c.loop-line.rest.now c.in_default.ensures.none (c.loop-line.invariant.dealing whole are)
