-- While the octets decide nothing there are fewer than 24, so the window has room.
use Rattle.std.proofs.Common.{◌∙◌, ap, arith, length, sym}
use Rattle.captures.proofs.Public.{undecided_short}
use Rattle.captures_text.proofs.capture.find_opening.Goals as goal

pub fill-requires : goal.fill-requires
fill-requires g c =
    let few = undecided_short c.octets.result.now (sym c.open.ensures ∙ c.in-Undecided.is) in
    omega (arith, few, ap length c.octets.ensures)
