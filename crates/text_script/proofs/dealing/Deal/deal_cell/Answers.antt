-- The line was assigned after the others of its port.
use Rattle.std.proofs.Common.{List, [], ◌∷◌, map, ap, subst, sym, ◌∙◌, arith}
use Rattle.std.specs.Prelude.{slice_set}
use Rattle.std.proofs.lemmas.List.{map-append}
use Rattle.text_script.specs.declared.dealing.Answerer.{Answerer}
use Rattle.text_script.specs.Dealing.{DealsCell, dealt, port_of}
use Rattle.text_script.proofs.DealingLemmas.{cell_dealt}
use Rattle.text_script.proofs.dealing.Deal.deal_cell.Goals as goal

pub returns : goal.returns
returns c =
    let all = c.args.self.now.arrivals in
    let number = c.port_of-number.result in
    let own = c.index_mut-own.result.now in
    let desk = map (λ line. line.now) c.args.self.now.desk.items in
    let P : List Answerer → Type 0 = λ order. DealsCell c.args.side c.args.cell.now c.args.line.now (dealt c.args.self.now)
    (record { order = order; desk = desk; lengths = c.args.self.now.lengths.items; arrivals = map (λ own. map (λ line. line.now) own.items) (slice_set all.items number c.push.new.self) }) in
    subst P (sym c.in_ok-push-2.ensures.items)
    (cell_dealt c.args.side c.args.cell.now c.args.line.now c.args.self.now.order.items desk c.args.self.now.lengths.items _ (λ own. map (λ line. line.now) own.items)
    all.items c.len.result number own c.push.new.self
    (c.len.ensures ∙ all.ok.0) (omega (arith, c.requires, c.len.ensures, all.ok.0))
    (c.port_of-number.ensures.port ∙ ap (λ vc. port_of vc c.len.result) c.vc_at.ensures.connection)
    c.index_mut-own.ensures.value (ap (map (λ line. line.now)) c.in_ok-push.ensures.items ∙ map-append _ own.items (c.args.line ∷ [])))
