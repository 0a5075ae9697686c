-- The octets of 104 digits are a cell.
use Rattle.std.proofs.Common.{◌≡◌, ◌≢◌, ◌<◌, length, arith}
use Rattle.text_words.proofs.HexadecimalLemmas.{joined-spelled, cell-of_other}
use Rattle.text_words.proofs.digits.read_whole.Goals as goal

pub returns-clause-cell : goal.returns-clause-cell
returns-clause-cell c = λ _.
    let word = c.args.word.now in
    let octets = c.join.new.octets in
    let small : c.read_digits.result < 16 = omega arith in
    let spelled = joined-spelled word c.read_digits.new.numbers octets (omega arith) (c.read_digits.ensures.numbers small) c.join.ensures in
    let sized : length octets ≡ 52 = omega arith in
    let four : length octets ≢ 4 = omega arith in
    (octets, spelled, cell-of_other octets four, sized)
