use Rattle.std.proofs.Common.{◌≡◌, ◌++◌, ℕ, List, Option, OnOk, codes, subst}
use Rattle.cmd_explain_script.specs.WrongWords.{meant_opening, meant_or}
use Rattle.cmd_explain_script.proofs.wrong_words.add_meant_opening.Goals as goal

pub returns : goal.returns
unfolding meant_opening
returns c =
    let text = codes "; the first line with words is `card PROGRAMS LINES PORTS JOURNAL`, perhaps with a side" in
    subst (λ (meant : Option (List ℕ)). OnOk c.add_meant.result (c.add_meant.new.answers.items ≡ c.args.answers.now.items ++ meant_or meant text))
    c.near_among.ensures c.add_meant.ensures
