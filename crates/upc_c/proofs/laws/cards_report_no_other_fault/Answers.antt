use Rattle.upc_c.proofs.Listed.{reports-no-others}
use Rattle.upc_c.proofs.laws.cards_report_no_other_fault.Goals as goal

pub returns : goal.returns
returns c = reports-no-others
