use Rattle.std.proofs.Common.{length, sym, ap, ◌∙◌}
use Rattle.std.proofs.lemmas.List.{length-replicate}
use Rattle.line_record.specs.Tally.{nothing, total}
use Rattle.port_card.specs.inner.Shares.{SharesView}
use Rattle.port_card.proofs.Counting.{total-unused}
use Rattle.port_card.proofs.seat.PortSeat.new.Goals as goal

pub invariant_of-result : goal.invariant_of-result
invariant_of-result g c =
    let items = c.in-Some.ensures in (
      ap (λ (m : SharesView). m.parts) c.requires.shares,
      ap (λ (m : SharesView). m.tally) c.requires.shares ∙ sym (total-unused c.args.lines) ∙ sym (ap total items),
      ap length items ∙ length-replicate c.args.lines nothing ∙ c.requires.lines,
    )
