-- The first blank ends the first word; without one, the line is the word.
use Rattle.std.proofs.Common.{◌<◌, length, arith, sym, ◌∙◌}
use Rattle.std.proofs.lemmas.Grind.{common_steps}
use Rattle.text_io.proofs.WordsLemmas.{false-of, words-cut, words-of_word}
use Rattle.text_io.proofs.words.first_word.Goals as goal

pub returns-in-Some : goal.returns-in-Some
returns-in-Some c =
    let line = c.after_blanks-line.result.now in
    let some : 0 < length line = grind (arith, common_steps) in
    let found = c.in-Some.ensures in
    sym c.after_blanks-line.ensures.same
    ∙ words-cut line c.in-Some.end found.0.high (c.after_blanks-line.ensures.begins some) found.1 (λ k below. false-of _ (found.0.before k (omega arith) below))

pub returns-in-None : goal.returns-in-None
returns-in-None c =
    let line = c.after_blanks-line.result.now in
    let some : 0 < length line = grind (arith, common_steps) in
    sym c.after_blanks-line.ensures.same ∙ words-of_word line some (λ k below. false-of _ (c.in-None.ensures k (omega arith) below))
