-- If the same was done for each connection, a card is beside a shelf.
use Rattle.std.proofs.Common.{◌<◌, ◌≤◌, ◌^◌, length, arith}
use Rattle.std.proofs.lemmas.Option.{slice_get_within}
use Rattle.card_isolation.proofs.Isolated.{isolated}
use Rattle.card_shelf.specs.Dealing.{card_of}
use Rattle.card_shelf.specs.OneCard.{TheSameActsSuffice}
use Rattle.card_shelf.proofs.Lists.{there}

pub same-acts : TheSameActsSuffice
same-acts one shelf logged time acts = record {
  logged = logged;
  accounts = λ vc own is.
      let number = card_of vc (length shelf.logs) in
      let within : number < length shelf.logs = slice_get_within shelf.logs number own is in
      let core = there shelf.cards number (omega (arith, within, logged.sized)) in
      let theirs = logged.each number own core.0 is core.1 in
      let few : length one.log ≤ 2 ^ 62 = omega (arith, time.here) in
      let room = time.each number own is in
      isolated one.shape shelf.shape one.log own vc (logged.here.world, logged.here.leads) (theirs.world, theirs.leads) logged.side logged.journal few
      (omega (arith, room)) (acts vc own is);
}
