use Rattle.std.proofs.Common.{◌≡◌, ◌-◌, ◌/◌, ◌^◌, ℕ, take, drop, length, ◌∙◌, arith}
use Rattle.rules_diagrams.specs.inner.Words.{word_number}
use Rattle.rules_diagrams.proofs.Results.{if_ok}
use Rattle.rules_diagrams.proofs.WordSteps.{right_slice}
use Rattle.rules_diagrams.proofs.word.+shifted_right.Goals as goal

pub returns-then-places-gt0 : goal.returns-then-places-gt0
returns-then-places-gt0 t c =
    if_ok c.shifted_right.result (λ bits. (cell : ℕ) → word_number bits.items cell ≡ word_number (take (length c.args.bits.now - 1) (drop 1 c.args.bits.now)) cell / 2 ^ (c.args.places - 1))
    (λ bits. (cell : ℕ) → word_number bits.items cell ≡ word_number c.args.bits.now cell / 2 ^ c.args.places)
    (λ bits are cell. are cell ∙ right_slice c.args.bits.now cell c.args.places c.in-len1-up.len_at_least (omega arith)) c.shifted_right.ensures
