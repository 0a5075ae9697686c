use Rattle.card_core.specs.Sections.{unjudged_answer}
use Rattle.upc_c.proofs.Policing.{polices-so, refuses-octets, refuses-so}
use Rattle.upc_c.proofs.arrival.police.Goals as goal

pub returns-clause-policed : goal.returns-clause-policed
returns-clause-policed c = polices-so c.args.core.now c.arrive_at.new.core c.args.octets.now c.in-Ok.cell c.write_leaving_cell.new.octets c.args.moment
    c.number_of_verdict.result c.in-Ok-arrive_at.judgement c.id_for_c.result c.in-Ok.ensures.length c.in-Ok.ensures.cell c.number_of_verdict.ensures
    c.id_for_c.ensures.id c.write_leaving_cell.ensures c.in-Ok-arrive_at.ensures.answers

pub returns-in-Err-clause-refused : goal.returns-in-Err-clause-refused
returns-in-Err-clause-refused c = refuses-octets c.args.core.now c.args.octets.now c.args.moment c.in-Err.found c.in-Err.ensures.fault

pub returns-in-Err-arrive_at-clause-refused : goal.returns-in-Err-arrive_at-clause-refused
returns-in-Err-arrive_at-clause-refused c = refuses-so c.args.core.now c.arrive_at.new.core c.args.octets.now c.in-Ok.cell c.args.moment
    (unjudged_answer c.in-Err-arrive_at.reason) c.unjudged_fault_for_c.result c.in-Ok.ensures.length c.in-Ok.ensures.cell
    c.in-Err-arrive_at.ensures.left c.unjudged_fault_for_c.ensures.fault c.in-Err-arrive_at.ensures.answers
