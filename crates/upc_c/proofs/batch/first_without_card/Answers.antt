use Rattle.upc_c.proofs.Batches.{faulty-so}
use Rattle.upc_c.proofs.batch.first_without_card.Goals as goal

pub returns-clause-fault : goal.returns-clause-fault
returns-clause-fault c = faulty-so c.args.octets.now c.args.stride 0 c.bounds_of-start.result.0 c.bounds_of-start.result.1
    c.bounds_of-start.ensures.start c.bounds_of-start.ensures.end c.fault_without_card.result c.fault_without_card.ensures.fault
