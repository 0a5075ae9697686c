use Rattle.std.proofs.Common.{subst}
use Rattle.leaky.specs.declared.contract.Contract.{Contract}
use Rattle.std.proofs.Common.{List}
use Rattle.line_record.specs.Line.{IsOpening}
use Rattle.line_record.proofs.LineLemmas.{IsStateAfter-opening}
use Rattle.line_record.proofs.line.Line.open.Goals as goal

pub returns-clause-history : goal.returns-clause-history
returns-clause-history c =
    let counts = c.self.inside.state.counts in
    let state = c.opening-state.result in
    IsStateAfter-opening c.args.contracts.items counts state
    (subst (λ (under : List Contract). IsOpening under counts state) c.as_slice.ensures.value c.opening-state.ensures)
