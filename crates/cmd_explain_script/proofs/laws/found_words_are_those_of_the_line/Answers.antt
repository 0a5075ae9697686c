use Rattle.cmd_explain_script.proofs.WordsFound.{finds_words}
use Rattle.cmd_explain_script.proofs.laws.found_words_are_those_of_the_line.Goals as goal

pub returns : goal.returns
returns c = finds_words
