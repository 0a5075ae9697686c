use Rattle.captures.proofs.SomeReading.{some_reading}
use Rattle.captures.proofs.laws.captures_have_a_reading.Goals as goal

pub returns : goal.returns
returns c = some_reading
