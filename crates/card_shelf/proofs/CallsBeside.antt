-- A card stays beside a shelf through each call that both grant.
use Rattle.card_shelf.specs.Calls.{police, load, retire, serve}
use Rattle.card_shelf.specs.Life.{CallsKeepACardBeside}
use Rattle.card_shelf.proofs.BatchBeside.{police-keeps}
use Rattle.card_shelf.proofs.ProgramsBeside.{load-keeps, retire-keeps}
use Rattle.card_shelf.proofs.ServiceBeside.{serve-keeps}

pub calls-keep : CallsKeepACardBeside
calls-keep one shelf (police arrivals) answers decisions next new beside time here there = police-keeps one shelf arrivals answers decisions next new beside time here there
calls-keep one shelf (load code) answers decisions next new beside time here there = load-keeps one shelf code answers decisions next new beside here there
calls-keep one shelf retire answers decisions next new beside time here there = retire-keeps one shelf answers decisions next new beside here there
calls-keep one shelf (serve vc service) answers decisions next new beside time here there =
    serve-keeps one shelf vc service answers decisions next new beside time here there
