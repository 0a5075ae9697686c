-- One more port has its lines, and the seats that are left have counted no cell.
use Rattle.std.proofs.Common.{arith, map, ap, ◌∙◌}
use Rattle.cmd_ports.proofs.CountsLemmas.{jobs-more, unused_rest}
use Rattle.cmd_ports.proofs.port_job.jobs_of.Goals as goal

pub loop-own-preserved : goal.loop-own-preserved
loop-own-preserved g c = record {
  lines = jobs-more (λ job. map (λ line. line.now) job.lines.now) (λ own. map (λ line. line.now) own.items) c.loop-own.jobs.items c.push.new.self.items c.new.result
      c.args.arrivals.now c.loop-own.own-index c.own-item.result c.in_ok-push.ensures.items
      (ap (λ lines. map (λ line. line.now) lines.now) c.new.ensures ∙ ap (map (λ line. line.now)) c.as_slice.ensures.value) c.own-item.is c.loop-own-test.true
      c.loop-own.invariant.lines;
  seats = omega (arith, c.loop-own.invariant.seats, c.in-Some.ensures.cases.1);
  unused = unused_rest _ _ c.in-Some.seat c.loop-own.invariant.unused c.in-Some.ensures.cases.0;
}
