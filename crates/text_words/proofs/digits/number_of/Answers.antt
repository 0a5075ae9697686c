-- A digit, by its distance from `0` or `a`.
use Rattle.std.proofs.Common.{arith}
use Rattle.text_words.proofs.DigitLemmas.{figure-read, letter-read, other-read}
use Rattle.text_words.proofs.digits.number_of.Goals as goal

pub returns-then-figure-lt10-clause-number : goal.returns-then-figure-lt10-clause-number
returns-then-figure-lt10-clause-number c = λ _. figure-read c.args.octet (omega arith) c.if-figure-lt10.true

pub returns-then-letter-lt6-clause-number : goal.returns-then-letter-lt6-clause-number
returns-then-letter-lt6-clause-number c = λ _. letter-read c.args.octet (omega arith) c.if-letter-lt6.true

pub returns-else-letter-lt6-clause-digit : goal.returns-else-letter-lt6-clause-digit
returns-else-letter-lt6-clause-digit c = λ digit. absurd (other-read c.args.octet (omega arith) c.if-figure-lt10.false c.if-letter-lt6.false digit)
