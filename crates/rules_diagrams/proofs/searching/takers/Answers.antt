use Rattle.rules_diagrams.proofs.UnusedSteps.{taken_are}
use Rattle.rules_diagrams.proofs.searching.takers.Goals as goal

pub returns-clause-taken : goal.returns-clause-taken
returns-clause-taken c = λ number holds.
    taken_are c.args.diagrams.now c.choose.new.self c.args.deciding c.args.held c.in_ok-taken.taken c.in_ok-numbers.numbers c.in_ok-places.places.items number holds
    c.choose.ensures.keeps c.in_ok-taken.ensures.chosen c.in_ok-numbers.ensures c.in_ok-places.ensures.places c.in_ok-places.ensures.ordered
