use Rattle.std.proofs.Common.{◌≡◌, ◌+◌, ◌*◌, ◌%◌, ◌^◌, ◌∷◌, get_or, ℕ, ap, ◌∙◌, arith}
use Rattle.rules_diagrams.specs.inner.Words.{word_number}
use Rattle.rules_diagrams.specs.declared.word.Bit.TheVariants.{Zero}
use Rattle.rules_diagrams.proofs.Results.{if_ok}
use Rattle.rules_diagrams.proofs.WordSteps.{cut_first, left_more, word_more}
use Rattle.rules_diagrams.proofs.word.+shifted_left.Goals as goal

pub returns-then-places-gt0 : goal.returns-then-places-gt0
returns-then-places-gt0 t c =
    let rest = c.in_ok-shifted_left.field-0.items in
    if_ok c.before-then-places-gt0.result (λ bits. bits.items ≡ Zero ∷ rest)
    (λ bits. (cell : ℕ) → word_number bits.items cell ≡ (word_number c.args.bits.now cell * 2 ^ c.args.places) % 2 ^ c.args.width)
    (λ bits are cell. word_more bits.items rest Zero cell ((word_number c.args.bits.now cell * 2 ^ c.args.places) % 2 ^ c.args.width) are
    (ap (λ n. 0 + 2 * n) (c.in_ok-shifted_left.ensures cell) ∙ left_more (word_number c.args.bits.now cell) c.args.places c.args.width (omega arith) (omega arith))) c.before-then-places-gt0.ensures

pub returns-in_ok-shifted_left-in-len1-up : goal.returns-in_ok-shifted_left-in-len1-up
returns-in_ok-shifted_left-in-len1-up t c =
    let rest = c.in_ok-shifted_left-in-len1-up.field-0.items in
    if_ok c.before-in-len1-up.result (λ bits. bits.items ≡ get_or c.args.bits.now 0 _ ∷ rest)
    (λ bits. (cell : ℕ) → word_number bits.items cell ≡ (word_number c.args.bits.now cell * 2 ^ c.args.places) % 2 ^ c.args.width)
    (λ bits are cell. cut_first bits.items rest c.args.bits.now _ cell c.args.places c.args.width c.in-len1-up.len_at_least (omega arith) (omega arith) are
    (c.in_ok-shifted_left-in-len1-up.ensures cell)) c.before-in-len1-up.ensures
