use Rattle.std.proofs.Common.{◌≡◌, ◌∙◌, List, Some, ap, sym}
use Rattle.leaky.specs.declared.contract.Contract.{Contract}
use Rattle.leaky.specs.declared.levels.Levels.{Levels}
use Rattle.line_record.specs.History.{numbered}
use Rattle.line_record.specs.declared.state.State.{State}
use Rattle.cmd_police.proofs.ExcessLemmas.{left_is}
use Rattle.cmd_police.proofs.police.excess_left.Goals as goal

pub returns : goal.returns
returns c = λ connection is late.
    let line = c.args.line.now in
    let judged = c.args.judged.now in
    let one : numbered line.contracts judged.value ≡ Some c.in_ok-contract.contract =
    ap (λ (xs : List Contract). numbered xs judged.value) (sym c.contracts.ensures.contracts) ∙ sym c.numbered.ensures ∙ c.in_ok-contract.was in
    let two : numbered line.state.levels.items judged.value ≡ Some c.in_ok-levels.levels =
    ap (λ (state : State). numbered state.levels.items judged.value) (sym c.state.ensures.state)
    ∙ ap (λ (xs : List Levels). numbered xs judged.value) (sym c.as_slice.ensures.value) ∙ sym c.numbered-2.ensures ∙ c.in_ok-levels.was in
    left_is connection line judged.value judged.verdict c.args.clp judged.moment c.in_ok-contract.contract c.in_ok-levels.levels c.levels_to_explain-met.result c.excess_at.result is
    late one two c.levels_to_explain-met.ensures.first c.levels_to_explain-met.ensures.second c.excess_at.ensures.excess
