use Rattle.cmd_explain_script.proofs.CommandWords.{commands_fit}
use Rattle.cmd_explain_script.proofs.laws.commands_are_the_lines_whose_words_fit.Goals as goal

pub returns : goal.returns
returns c = commands_fit
