use Rattle.cmd_size.proofs.SetupTakes.{setup-takes}
use Rattle.cmd_size.proofs.laws.setup_takes_contracts.Goals as goal

pub returns : goal.returns
returns c = setup-takes
