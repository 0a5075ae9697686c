use Rattle.std.proofs.Common.{codes}
use Rattle.std.proofs.lemmas.Result.{on_ok_weaker}
use Rattle.cmd_explain_script.specs.Places.{quoted}
use Rattle.cmd_explain_script.specs.WrongWords.{unopened_sentence, unopened_text}
use Rattle.cmd_explain_script.proofs.Added.{three-added}
use Rattle.cmd_explain_script.proofs.wrong_words.add_unopened.Goals as goal

pub returns : goal.returns
unfolding unopened_sentence
returns c =
    let word = c.args.word.now in
    on_ok_weaker c.add_unopened_text.result
    (three-added c.args.answers.now.items c.add_quoted.new.answers.items c.add_text.new.answers.items c.add_unopened_text.new.answers.items (quoted word) (codes " opens no card")
    (unopened_text word) c.in_ok-add_quoted.ensures c.in_ok-add_text.ensures)
    c.add_unopened_text.ensures
