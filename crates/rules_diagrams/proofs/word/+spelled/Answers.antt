use Rattle.std.proofs.Common.{◌≡◌, ◌+◌, ◌-◌, ◌*◌, ◌∷◌, ℕ, ap, ◌∙◌, arith}
use Rattle.rules_diagrams.specs.inner.Spans.{bits_number, truth}
use Rattle.rules_diagrams.specs.inner.CellBits.{is_set}
use Rattle.rules_diagrams.specs.inner.Words.{word_number}
use Rattle.rules_diagrams.specs.declared.word.Bit.TheVariants.{Of}
use Rattle.rules_diagrams.proofs.Results.{if_ok}
use Rattle.rules_diagrams.proofs.WordSteps.{spelled_more, spelled_none, word_more}
use Rattle.rules_diagrams.proofs.word.+spelled.Goals as goal

pub returns-then-many-eq0 : goal.returns-then-many-eq0
returns-then-many-eq0 t c =
    if_ok c.zeros.result (λ bits. (cell : ℕ) → word_number bits.items cell ≡ 0) (λ bits. (cell : ℕ) → word_number bits.items cell ≡ bits_number cell c.args.first c.args.many)
    (λ bits are cell. are cell ∙ spelled_none cell c.args.first c.args.many (omega arith)) c.zeros.ensures

pub returns : goal.returns
returns t c =
    let rest = c.in_ok-spelled.field-0.items in
    if_ok c.before-2.result (λ bits. bits.items ≡ Of (c.args.first + (c.args.many - 1)) ∷ rest) (λ bits. (cell : ℕ) → word_number bits.items cell ≡ bits_number cell c.args.first c.args.many)
    (λ bits are cell. word_more bits.items rest (Of (c.args.first + (c.args.many - 1))) cell (bits_number cell c.args.first c.args.many) are
    (ap (λ n. truth (is_set cell (c.args.first + (c.args.many - 1))) + 2 * n) (c.in_ok-spelled.ensures cell) ∙ spelled_more cell c.args.first c.args.many (omega arith) (omega arith))) c.before-2.ensures
