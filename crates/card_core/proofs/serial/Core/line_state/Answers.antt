use Rattle.std.proofs.Common.{◌≡◌, ◌<◌, Some, length, refl, sym, subst, arith}
use Rattle.std.specs.Prelude.{slice_get}
use Rattle.std.proofs.lemmas.Option.{slice_get_read}
use Rattle.line_record.specs.Directory.{seating_at}
use Rattle.card_core.specs.Agreement.{CoreView, CoreAgrees}
use Rattle.card_core.specs.ConnectionState.{IsStateIn}
use Rattle.card_core.specs.World.{World}
use Rattle.card_core.proofs.ConnectionStates.{state-read}
use Rattle.card_core.proofs.PortLemmas.{core_of}
use Rattle.card_core.proofs.serial.Core.line_state.Goals as goal

pub returns-clause-state : goal.returns-clause-state
returns-clause-state c =
    let l = c.self.inside in
    let lines = l.lines.items in
    let seating = c.in_ok-seating.seating in
    let line = c.index.result.now in
    let sits : seating_at l.directory c.args.vc ≡ Some seating = sym c.in_ok-seating.ensures.seating in
    let inside = c.pick.ensures.directory.within c.args.vc seating sits in
    let number : c.from.result ≡ seating.line = c.from.ensures in
    let within : c.from.result < length lines = omega (arith, inside, c.self.invariant.sized) in
    let here : slice_get lines seating.line ≡ Some line =
    subst (λ n. slice_get lines n ≡ Some line) number
    (slice_get_read lines (length lines) c.from.result line refl within c.index.ensures) in
    subst (λ (core : CoreView). (world : World) → CoreAgrees core world → IsStateIn world c.args.vc c.state_of.result) c.self.view_is
    (λ world agrees. state-read (core_of l.shape l.store l.directory lines l.ports.items) world c.args.vc seating line c.state_of.result
    agrees sits here c.state_of.ensures.read_state)
