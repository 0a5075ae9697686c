use Rattle.captures.proofs.Readings.{frames_in_order}
use Rattle.captures.proofs.laws.frames_are_read_in_order.Goals as goal

pub returns : goal.returns
returns c = frames_in_order
