use Rattle.cmd_explain.proofs.TokensFound.{finds_tokens}
use Rattle.cmd_explain.proofs.laws.found_tokens_are_those_of_the_assembler.Goals as goal

pub returns : goal.returns
returns c = finds_tokens
