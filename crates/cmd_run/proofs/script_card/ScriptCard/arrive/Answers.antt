-- A cell is answered if the port is free.
use Rattle.std.proofs.Common.{option_map, refl, subst}
use Rattle.card_core.specs.Sections.{answer_to}
use Rattle.cmd_run.specs.ShownCard.{Held}
use Rattle.cmd_run.specs.inner.Policing.{AnswersCell}
use Rattle.cmd_run.proofs.ArrivalLemmas.{arrives}
use Rattle.cmd_run.proofs.script_card.ScriptCard.arrive.Goals as goal

pub returns : goal.returns
returns c =
    let old : Held = record { core = c.self.inside.core; names = c.self.inside.names } in
    let new : Held = record { core = c.arrive.new.self; names = c.self.inside.names } in
    subst (λ held. AnswersCell held c.args.cell.now c.args.moment (option_map (λ printed. answer_to c.args.cell.now printed) c.arrive.result) new) c.self.view_is
    (arrives old new c.args.cell.now c.args.moment c.arrive.result refl c.arrive.ensures.answered c.arrive.ensures.not_now)
