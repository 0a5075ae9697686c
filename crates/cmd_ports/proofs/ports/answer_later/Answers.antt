-- Ports and desk have answered, and the answers were put in order.
use Rattle.std.proofs.Common.{◌≡◌, map, ap, refl, sym, ◌∙◌}
use Rattle.std.proofs.lemmas.Result.{IfOk-weaker}
use Rattle.port_card.specs.Closing.{seats_total}
use Rattle.text_script.specs.Dealing.{dealt}
use Rattle.cmd_ports.proofs.CountsLemmas.{seats-counted}
use Rattle.cmd_ports.proofs.DealtLemmas.{later-answered}
use Rattle.cmd_ports.proofs.ports.answer_later.Goals as goal

pub returns : goal.returns
returns g c =
    let deal = c.in_ok-order.field-0 in
    let done = c.in_ok-ports.field-0 in
    let order : deal.order.items ≡ c.deref-6.result.now = let a = c.in_ok-order.order-is in let b = c.deref-6.ensures.value in cc in
    let arrivals : deal.arrivals.items ≡ c.deref.result.now = let a = c.in_ok-order.arrivals-is in let b = c.deref.ensures.value in cc in
    let desk : deal.desk.items ≡ c.deref-2.result.now = let a = c.in_ok-order.desk_lines-is in let b = c.deref-2.ensures.value in cc in
    let lengths : deal.lengths.items ≡ c.deref-5.result.now = let a = c.in_ok-order.lengths-is in let b = c.deref-5.ensures.value in cc in
    let cells : done.ports.items ≡ c.deref-3.result.now = let a = c.in_ok-ports.ports-is in let b = c.deref-3.ensures.value in cc in
    let texts : done.desk_texts.items ≡ c.deref-4.result.now = let a = c.in_ok-ports.desk_texts-is in let b = c.deref-4.ensures.value in cc in
    IfOk-weaker c.seats_of.result _ _
    (λ seats is. later-answered c.args.card.now.side c.side-side.result c.args.lines.now c.len.result (dealt deal) c.deref-6.result.now _ _ c.deref-5.result.now _ _ _ _ _
    c.args.desk.names done.desk.names done.desk.names (seats_total seats.items) _ _ c.side-side.ensures order (ap (map (λ own. map (λ line. line.now) own.items)) arrivals)
    (ap (map (λ line. line.now)) desk) lengths (ap (map (λ port. port.arrivals.items)) cells) (ap (map (λ text. text.items)) texts) refl c.in_ok-rest.ensures
    c.in_ok-order.ensures.dealt c.in_ok-ports.ensures.ports c.in_ok-ports.ensures.desk c.in_ok-add_in_order.ensures
    (seats-counted (λ port. port.seat) (λ port. port.arrivals.items) (λ port. port.counted) done.ports.items ∙ ap seats_total (sym is)))
    c.seats_of.ensures
