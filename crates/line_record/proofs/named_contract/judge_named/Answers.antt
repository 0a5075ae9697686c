use Rattle.std.proofs.Common.{◌≡◌, ◌-◌, Some, slice_get, set, sym, subst, ◌∙◌}
use Rattle.std.proofs.lemmas.Option.{same_Some, get_or_from_slice_get}
use Rattle.leaky.specs.declared.contract.Contract.{Contract}
use Rattle.leaky.specs.declared.levels.Levels.{Levels}
use Rattle.leaky.specs.Contract.{buckets_after}
use Rattle.leaky.specs.KeptState.{Agrees}
use Rattle.line_record.specs.History.{numbered}
use Rattle.line_record.proofs.NumberLemmas.{numbered-above, numbered-set_same, numbered-within}
use Rattle.line_record.proofs.named_contract.judge_named.Goals as goal

pub returns-clause-levels : goal.returns-clause-levels
returns-clause-levels c contract before after buckets named was holds agrees charged =
    let number = c.args.number in
    let old = c.args.levels.now.items in
    let contracts = c.args.contracts.now in
    let read = c.index-deref-place.result in
    let written = c.judge-verdict.new.levels in
    let within = numbered-within old number before was in
    let was_at : slice_get old (number - 1) ≡ Some before =
    sym (numbered-above old number within.0) ∙ was in
    let named_at : slice_get contracts (number - 1) ≡ Some contract =
    sym (numbered-above contracts number within.0) ∙ named in
    let read_is : read ≡ before =
    c.index-deref-place.is ∙ rw c.deref.ensures.0 (get_or_from_slice_get old (number - 1) before read was_at) in
    let read_too = c.index-contracts-place.result in
    let contract_is : read_too ≡ contract =
    c.index-contracts-place.is ∙ get_or_from_slice_get contracts (number - 1) contract read_too named_at in
    let set_at : numbered (set old (number - 1) written) number ≡ Some written =
    numbered-set_same old number written within.0 within.1 in
    let written_is : written ≡ after =
    same_Some written after (sym set_at ∙ subst (λ items. numbered items number ≡ Some after) c.put.ensures holds) in
    let of_read : Agrees read buckets = subst (λ l. Agrees l buckets) (sym read_is) agrees in
    let judged = c.judge-verdict.ensures.levels buckets of_read charged in
    subst (λ (l : Levels). Agrees l (buckets_after contract buckets c.args.clp c.args.moment)) written_is
    (subst (λ (k : Contract). Agrees written (buckets_after k buckets c.args.clp c.args.moment)) contract_is judged)
