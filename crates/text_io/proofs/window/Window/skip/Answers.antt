-- The rest of a window starts later.
use Rattle.std.proofs.Common.{◌≤◌, ◌+◌, ap, ◌∙◌, arith, length, drop}
use Rattle.text_io.proofs.Ranges.{range-skip, length-range}
use Rattle.text_io.proofs.window.Window.skip.Goals as goal

pub returns-clause-octets : goal.returns-clause-octets
returns-clause-octets g c =
    let inside = c.self.inside in
    let within : inside.start + c.args.count ≤ inside.end =
    omega (arith, length-range inside.buffer.items inside.start inside.end, ap length c.self.view_is) in
    range-skip inside.buffer.items inside.start c.args.count inside.end within ∙ ap (λ xs. drop c.args.count xs) c.self.view_is
