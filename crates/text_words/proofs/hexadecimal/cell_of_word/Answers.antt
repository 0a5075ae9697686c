-- A word of any other length spells octets that aren't a cell.
use Rattle.std.proofs.Common.{◌≡◌, ◌≢◌, length, sym, ◌∙◌, ap, arith}
use Rattle.text_words.proofs.HexadecimalLemmas.{spelled-length, cell-of_other}
use Rattle.text_words.proofs.hexadecimal.cell_of_word.Goals as goal

pub returns-in-Some : goal.returns-in-Some
returns-in-Some c =
    let word = c.args.word.now in
    let octets = c.in-Some.octets.items in
    let spelled = rw c.in-Some.is at c.in_ok-octets.ensures in
    let sized = spelled-length word octets spelled in
    let four : length octets ≢ 4 = omega arith in
    let many : c.len.result ≡ length octets = c.len.ensures ∙ c.in-Some.octets.ok.0 in
    (octets, spelled, ap length (cell-of_other octets four) ∙ sym many, (λ e. omega (arith, e, many, sized)))
