-- Each port keeps the promise of its thread, which is about the lines of its job.
use Rattle.std.proofs.Common.{List, map, subst}
use Rattle.std.specs.List.{AllZip}
use Rattle.upc_cell.specs.declared.side.Side.{Side}
use Rattle.cmd_ports.specs.declared.at_once.AnswersTo.{AnswersTo}
use Rattle.cmd_ports.specs.inner.Arrivals.{AnswersPort}
use Rattle.cmd_ports.specs.inner.AtOnce.{KeepsPromise}
use Rattle.cmd_ports.proofs.AtOnceLemmas.{promised}
use Rattle.cmd_ports.proofs.at_once.run_in.Goals as goal

pub returns-in_ok-desk_texts-in-Ok-clause-ports : goal.returns-in_ok-desk_texts-in-Ok-clause-ports
returns-in_ok-desk_texts-in-Ok-clause-ports g c =
    let arrivals = map (λ port. port.arrivals.items) c.in_ok-ports-in-Ok.ports.items in
    promised c.args.jobs.items arrivals (λ job. record { side = c.side-side.result; lines = job.lines }) (λ job. map (λ line. line.now) job.lines.now) c.args.card.now.side
    (λ job desk_texts keeps. subst (λ (side : Side). AnswersPort side (map (λ line. line.now) job.lines.now) desk_texts) c.side-side.ensures keeps)
    (subst (λ (promises : List AnswersTo). AllZip KeepsPromise promises arrivals) c.in-Ok.ensures c.in_ok-ports-in-Ok.ensures)
