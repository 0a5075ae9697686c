-- One more thread has ended, and its answers keep its promise.
use Rattle.std.proofs.Common.{[], ◌∷◌, length-append, ap, arith, length}
use Rattle.cmd_ports.proofs.AtOnceLemmas.{kept-next}
use Rattle.cmd_ports.proofs.at_once.join_ports.Goals as goal

pub loop-thread-preserved-in-Ok : goal.loop-thread-preserved-in-Ok
loop-thread-preserved-in-Ok g c =
    let was = c.loop-thread.invariant in
    let items = c.push_reserved.ensures.items in
    let more = length-append c.loop-thread.yielded (c.in-Some.thread ∷ []) in
    let ended = length-append c.loop-thread.ended.items (c.in-Ok.port ∷ []) in
    let grown = ap length items in
    record {
      can = tt;
      ends = tt;
      room = omega (arith, was.room, c.push_reserved.ensures.capacity);
      short = omega (arith, was.short, more, ended, grown);
      kept = λ whole. kept-next (λ thread. thread.promise) (λ port. port.arrivals.items) c.loop-thread.yielded c.in-Some.thread c.loop-thread.ended.items _ c.in-Ok.port
          items (was.kept whole) c.in-Ok.ensures;
    }
