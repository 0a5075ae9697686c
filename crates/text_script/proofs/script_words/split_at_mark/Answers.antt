-- The first mark cuts the text. A text without a mark isn't cut.
use Rattle.std.proofs.Common.{arith, sym}
use Rattle.text_script.proofs.MarkLemmas.{cut_there, uncut, not_true}
use Rattle.text_script.proofs.script_words.split_at_mark.Goals as goal

pub returns-in-Some : goal.returns-in-Some
returns-in-Some c =
    let found = c.in-Some.ensures in
    cut_there c.args.mark c.args.text.now c.in-Some.place found.0.high found.1 (λ k below. not_true _ (found.0.before k (omega arith) below))

pub returns-in-None : goal.returns-in-None
returns-in-None c =
    sym (uncut c.args.mark c.args.text.now (λ k below. not_true _ (c.in-None.ensures k (omega arith) below)))
