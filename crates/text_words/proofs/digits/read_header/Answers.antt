-- Four octets of two digits each are a header.
use Rattle.std.proofs.Common.{◌≡◌, ℕ, [], ◌∷◌, ◌+◌, ◌*◌, ◌/◌, ◌%◌, ◌∙◌, refl, arith}
use Rattle.text_words.proofs.HexadecimalLemmas.{four-spelled}
use Rattle.text_words.proofs.digits.read_header.Goals as goal

pub returns-clause-cell : goal.returns-clause-cell
returns-clause-cell c = λ _.
    let small = c.are_octets.ensures.0 c.if-not-are_octets.false in
    let a = c.octet_of-first.result in
    let b = c.octet_of-second.result in
    let d = c.octet_of-third.result in
    let e = c.octet_of-fourth.result in
    let number : ℕ = 16777216 * c.from.result + 65536 * c.from-2.result + 256 * c.from-3.result + c.from-4.result in
    let one : number / 16777216 % 256 ≡ a = omega (arith, small.0, small.1, small.2, small.3, c.from.ensures, c.from-2.ensures, c.from-3.ensures, c.from-4.ensures) in
    let two : number / 65536 % 256 ≡ b = omega (arith, small.0, small.1, small.2, small.3, c.from.ensures, c.from-2.ensures, c.from-3.ensures, c.from-4.ensures) in
    let three : number / 256 % 256 ≡ d = omega (arith, small.0, small.1, small.2, small.3, c.from.ensures, c.from-2.ensures, c.from-3.ensures, c.from-4.ensures) in
    let four : number % 256 ≡ e = omega (arith, small.0, small.1, small.2, small.3, c.from.ensures, c.from-2.ensures, c.from-3.ensures, c.from-4.ensures) in
    let octets : c.to_be_bytes.result ≡ a ∷ b ∷ d ∷ e ∷ [] = c.to_be_bytes.ensures ∙ (λ i. one i ∷ two i ∷ three i ∷ four i ∷ []) in
    let spelled = four-spelled c.args.word.now a b d e (omega arith) (c.octet_of-first.ensures.octet small.0) (c.octet_of-second.ensures.octet small.1)
    (c.octet_of-third.ensures.octet small.2) (c.octet_of-fourth.ensures.octet small.3) in
    (a ∷ b ∷ d ∷ e ∷ [], spelled, rw (octets, c.requires.payload) refl, rw (octets, c.requires.payload) refl)
