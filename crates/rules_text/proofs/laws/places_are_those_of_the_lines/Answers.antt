use Rattle.rules_text.proofs.StatementNumbers.{statement_numbers}
use Rattle.rules_text.proofs.laws.places_are_those_of_the_lines.Goals as goal

pub returns : goal.returns
returns c = statement_numbers
