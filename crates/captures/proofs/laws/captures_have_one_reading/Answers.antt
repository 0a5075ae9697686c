use Rattle.captures.proofs.OneReading.{one_reading}
use Rattle.captures.proofs.laws.captures_have_one_reading.Goals as goal

pub returns : goal.returns
returns c = one_reading
