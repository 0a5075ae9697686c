use Rattle.std.proofs.Common.{◌≡◌, ◌∙◌, true, false, Result, ap, sym, subst}
use Rattle.card_core.specs.Sections.{answer_to}
use Rattle.card_core.specs.declared.answer.Judgement.{Judgement}
use Rattle.card_core.specs.declared.answer.Unjudged.{Unjudged}
use Rattle.cmd_police.specs.PoliceLines.{excess_of_answer}
use Rattle.cmd_setups.specs.inner.ExcessLeft.{LeavesConnection}
use Rattle.cmd_police.proofs.LeftExcess.{judged_excess}
use Rattle.cmd_police.proofs.police.excess_of.Goals as goal

pub returns : goal.returns
returns c = λ before after cell agrees leaves.
    let judged = c.in-Ok.judged in
    let vc = c.args.vc in
    let clp = c.args.clp in
    judged_excess c.args.core.now before after vc clp judged.moment judged.value judged.verdict c.in_ok-line.line.now c.excess_left.result agrees
    (subst (λ (decision : Result Judgement Unjudged). LeavesConnection before.connections after.connections vc clp (answer_to cell decision)) c.in-Ok.is leaves)
    c.in_ok-line.ensures.line (λ e. let f = sym c.eq.ensures ∙ c.if-eq.false in let no : true ≡ false = rw e at f in cc)
    c.excess_left.ensures
    ∙ sym (ap (λ (decision : Result Judgement Unjudged). excess_of_answer before vc clp (answer_to cell decision)) c.in-Ok.is)
