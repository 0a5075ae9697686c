use Rattle.cmd_differ.proofs.NamedUnused.{exactly_named}
use Rattle.cmd_differ.proofs.laws.exactly_the_unused_are_named.Goals as goal

pub returns : goal.returns
returns c = exactly_named
