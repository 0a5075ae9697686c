-- The table has the value of each digit.
use Rattle.std.proofs.Common.{arith}
use Rattle.text_words.proofs.DigitLemmas.{digits-of, digits-small, number-at_most}
use Rattle.text_words.proofs.digits.octet_of.Goals as goal

pub overflow_mul-result : goal.overflow_mul-result
overflow_mul-result c = omega (arith, number-at_most c.args.high (omega arith))

pub overflow_add-result : goal.overflow_add-result
overflow_add-result c = omega (arith, number-at_most c.args.high (omega arith), number-at_most c.args.low (omega arith))

pub returns-clause-octet : goal.returns-clause-octet
returns-clause-octet c = digits-of c.args.high c.args.low (omega arith) (omega arith)

pub returns-clause-digits : goal.returns-clause-digits
returns-clause-digits c = digits-small c.args.high c.args.low (omega arith) (omega arith)
