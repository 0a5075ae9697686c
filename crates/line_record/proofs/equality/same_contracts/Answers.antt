use Rattle.std.proofs.lemmas.Slice.Eq.{slice_eq-Decides}
use Rattle.leaky.specs.inner.EqualityLaws.{contract_eq_decides}
use Rattle.line_record.proofs.equality.same_contracts.Goals as goal

pub returns : goal.returns
returns c = slice_eq-Decides contract_eq_decides c.args.one.now c.args.other.now c.eq.result c.eq.ensures
