-- A number of 32 bits has at most ten digits, and there is room for them.
use Rattle.std.proofs.Common.{◌≡◌, ap, arith, decimal, drop, length, length-append, length-drop}
use Rattle.std.proofs.lemmas.Fmt.{length-decimal-le}
use Rattle.text_words.proofs.text_from_end.TextFromEnd.put_short_number.Goals as goal

pub write_digits-self-inside-requires : goal.write_digits-self-inside-requires
write_digits-self-inside-requires g c =
    let short = length-decimal-le 10 c.from.result (omega arith) (omega arith) (omega arith) in
    let left : length (drop c.self.inside.start c.self.inside.octets) ≡ length c.args.self.now = ap length c.self.view_is in
    let sized = length-drop c.self.inside.start c.self.inside.octets in
    (omega (arith, short, left, sized), omega (arith, left, sized))

pub returns-clause-length : goal.returns-clause-length
returns-clause-length g c =
    let short = length-decimal-le 10 c.from.result (omega arith) (omega arith) (omega arith) in
    let left : length (drop c.self.inside.start c.self.inside.octets) ≡ length c.args.self.now = ap length c.self.view_is in
    let written = ap length c.write_digits-self-inside.ensures.written in
    let joined = length-append (decimal c.from.result) (drop c.self.inside.start c.self.inside.octets) in
    omega (arith, short, left, written, joined)
