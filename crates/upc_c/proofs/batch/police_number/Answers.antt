use Rattle.upc_c.proofs.Batches.{number-policed, number-refused}
use Rattle.upc_c.proofs.batch.police_number.Goals as goal

pub returns-clause-policed : goal.returns-clause-policed
returns-clause-policed c = number-policed c.args.octets.now c.args.stride c.args.number c.bounds_of-start.result.0 c.bounds_of-start.result.1
    c.bounds_of-start.ensures.start c.bounds_of-start.ensures.end c.police.result c.args.core.now c.police.new.core c.args.moment c.police.new.octets
    c.police.ensures.policed

pub returns-clause-refused : goal.returns-clause-refused
returns-clause-refused c = number-refused c.args.octets.now c.args.stride c.args.number c.bounds_of-start.result.0 c.bounds_of-start.result.1
    c.bounds_of-start.ensures.start c.bounds_of-start.ensures.end c.police.result c.args.core.now c.args.moment c.police.ensures.refused
