use Rattle.captures.proofs.Readings.{faults_end}
use Rattle.captures.proofs.laws.faults_end_readings.Goals as goal

pub returns : goal.returns
returns c = faults_end
