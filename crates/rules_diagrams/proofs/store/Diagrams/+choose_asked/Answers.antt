use Rattle.std.proofs.Common.{List, sym, subst}
use Rattle.rules_diagrams.specs.inner.Asking.{IsAnswer}
use Rattle.rules_diagrams.specs.declared.diagram.Node.{Node}
use Rattle.rules_diagrams.proofs.Joining.{joined}
use Rattle.rules_diagrams.proofs.store.Diagrams.+choose_asked.Goals as goal

pub remember-requires : goal.remember-requires
remember-requires t c =
    joined c.args.self.now c.make.new.self c.choose_asked.new.self c.choose_asked-2.new.self c.args.asked c.parts-parts.result.low c.parts-parts.result.high c.first_bit-bit.result
    c.in_ok-low.low c.in_ok-high.high c.in_ok-answer.answer c.requires c.first_bit-bit.ensures.first c.parts-parts.ensures
    c.choose_asked.ensures.keeps c.in_ok-low.ensures.answer c.choose_asked-2.ensures.keeps c.in_ok-high.ensures.answer c.make.ensures.keeps c.in_ok-answer.ensures.made

pub returns-clause-answer : goal.returns-clause-answer
returns-clause-answer t c =
    subst (λ (nodes : List Node). IsAnswer nodes c.args.asked c.in_ok-answer.answer) (sym c.remember.ensures) (
    joined c.args.self.now c.make.new.self c.choose_asked.new.self c.choose_asked-2.new.self c.args.asked c.parts-parts.result.low c.parts-parts.result.high c.first_bit-bit.result
    c.in_ok-low.low c.in_ok-high.high c.in_ok-answer.answer c.requires c.first_bit-bit.ensures.first c.parts-parts.ensures
    c.choose_asked.ensures.keeps c.in_ok-low.ensures.answer c.choose_asked-2.ensures.keeps c.in_ok-high.ensures.answer c.make.ensures.keeps c.in_ok-answer.ensures.made)
