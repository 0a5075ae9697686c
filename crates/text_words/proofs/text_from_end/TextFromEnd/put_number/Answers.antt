-- A number of 64 bits has at most twenty digits, and there is room for them.
use Rattle.std.proofs.Common.{◌≡◌, ◌≤◌, ap, arith, decimal, drop, length, length-append, length-drop, rules}
use Rattle.std.proofs.lemmas.Fmt.{length-decimal-le}
use Rattle.text_words.proofs.text_from_end.TextFromEnd.put_number.Goals as goal

pub write_digits-self-inside-requires : goal.write_digits-self-inside-requires
write_digits-self-inside-requires g c =
    let short : length (decimal c.args.number) ≤ 20 = search (rules, length-decimal-le 20) in
    let left : length (drop c.self.inside.start c.self.inside.octets) ≡ length c.args.self.now = ap length c.self.view_is in
    let sized = length-drop c.self.inside.start c.self.inside.octets in
    (omega (arith, short, left, sized), omega (arith, left, sized))

pub returns-clause-length : goal.returns-clause-length
returns-clause-length g c =
    let short : length (decimal c.args.number) ≤ 20 = search (rules, length-decimal-le 20) in
    let left : length (drop c.self.inside.start c.self.inside.octets) ≡ length c.args.self.now = ap length c.self.view_is in
    let written = ap length c.write_digits-self-inside.ensures.written in
    let joined = length-append (decimal c.args.number) (drop c.self.inside.start c.self.inside.octets) in
    omega (arith, short, left, written, joined)
