use Rattle.std.proofs.Common.{codes}
use Rattle.std.proofs.lemmas.Result.{on_ok_weaker}
use Rattle.cmd_explain_script.specs.Places.{quoted}
use Rattle.cmd_explain_script.specs.WrongWords.{uncommanded_sentence, uncommanded_text}
use Rattle.cmd_explain_script.proofs.Added.{three-added}
use Rattle.cmd_explain_script.proofs.wrong_words.add_uncommanded.Goals as goal

pub returns : goal.returns
unfolding uncommanded_sentence
returns c =
    let word = c.args.word.now in
    on_ok_weaker c.add_uncommanded_text.result
    (three-added c.args.answers.now.items c.add_quoted.new.answers.items c.add_text.new.answers.items c.add_uncommanded_text.new.answers.items (quoted word) (codes " is no command")
    (uncommanded_text word) c.in_ok-add_quoted.ensures c.in_ok-add_text.ensures)
    c.add_uncommanded_text.ensures
