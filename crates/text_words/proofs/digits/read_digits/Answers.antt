-- One more digit is read.
use Rattle.std.proofs.Common.{◌<◌, length, arith}
use Rattle.text_words.proofs.DigitLemmas.{read-more, digits-more}
use Rattle.text_words.proofs.digits.read_digits.Goals as goal

pub loop-at-preserved : goal.loop-at-preserved
loop-at-preserved c =
    let within : c.loop-at.at < length c.loop-at.numbers = omega arith in
    let word = c.args.word.now in
    let at = c.loop-at.at in
    let number = c.number_of-number.result in
    let seen = c.loop-at.seen in (
      read-more word c.loop-at.numbers at number seen within c.number_of-number.ensures.number c.loop-at.invariant.0,
      digits-more word at number seen c.number_of-number.ensures.digit c.loop-at.invariant.1,
    )
