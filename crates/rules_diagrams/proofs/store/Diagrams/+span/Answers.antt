use Rattle.std.proofs.Common.{◌+◌, ◌-◌, refl, sym, ap, ◌∙◌, arith}
use Rattle.rules_diagrams.specs.inner.Spans.{IsSpan}
use Rattle.rules_diagrams.specs.inner.Store.{DecidesByBit}
use Rattle.rules_diagrams.specs.declared.span.Bits.{Bits}
use Rattle.rules_diagrams.proofs.Results.{if_ok}
use Rattle.rules_diagrams.proofs.SpanSteps.{span_empty, span_past, span_all, span_skipped, span_joined}
use Rattle.rules_diagrams.proofs.store.Diagrams.+span.Goals as goal
use Rattle.rules_diagrams.proofs.store.Diagrams.+span.Goals.{then-reach-via-then-reach, then-reach-via-else-reach+then-all-reach}

pub returns-then-reach-clause-span : goal.returns-then-reach-clause-span
returns-then-reach-clause-span t c =
    elim c.then-reach.branch [
      | then-reach-via-then-reach w ↦ span_empty c.args.self.now c.args.bits c.args.mask c.args.reach c.requires.inside (omega arith)
      | then-reach-via-else-reach+then-all-reach w ↦ span_past c.args.self.now c.args.bits c.args.mask c.args.reach c.requires.inside (omega arith)
    ]

pub returns-then-all-reach-2-clause-span : goal.returns-then-all-reach-2-clause-span
returns-then-all-reach-2-clause-span t c = span_all c.args.self.now c.args.bits c.args.mask c.args.reach c.requires.inside (omega arith) (omega arith)

pub returns-then-not-has_bit-clause-span : goal.returns-then-not-has_bit-clause-span
returns-then-not-has_bit-clause-span t c =
    let rest : Bits = record { bit = c.args.bits.bit + 1; width = c.args.bits.width - 1 } in
    if_ok c.span.result (IsSpan c.span.new.self rest c.args.mask c.args.reach) (IsSpan c.span.new.self c.args.bits c.args.mask c.args.reach)
    (λ diagram is. span_skipped c.span.new.self c.args.bits c.args.mask c.args.reach c.requires.inside rest diagram (omega arith) refl refl (sym c.if-not-has_bit.ensures) is)
    c.span.ensures.span

pub returns-clause-span : goal.returns-clause-span
returns-clause-span t c =
    let rest : Bits = record { bit = c.args.bits.bit + 1; width = c.args.bits.width - 1 } in
    if_ok c.make.result (DecidesByBit c.make.new.self c.args.bits.bit c.in_ok-low.low c.in_ok-high.high) (IsSpan c.make.new.self c.args.bits c.args.mask c.args.reach)
    (λ made is. span_joined c.make.new.self c.args.bits c.args.mask c.args.reach c.requires.inside c.span-2.new.self c.span-3.new.self rest c.without.result c.in_ok-low.low c.in_ok-high.high made
    (omega arith) refl refl (sym c.if-not-has_bit.ensures) (c.without.ensures.low ∙ ap (λ n. c.args.reach.low - n) c.power.ensures)
    (c.without.ensures.end ∙ ap (λ n. c.args.reach.end - n) c.power.ensures) c.in_ok-low.ensures.span c.span-3.ensures.keeps c.in_ok-high.ensures.span c.make.ensures.keeps is)
    c.make.ensures.made
