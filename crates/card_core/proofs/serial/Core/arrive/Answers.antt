use Rattle.std.proofs.Common.{◌≡◌, ℕ, true, false, List, subst}
use Rattle.std.specs.Prelude.{slice_get}
use Rattle.card_core.specs.declared.reply.Reply.TheVariants.{NotNow}
use Rattle.card_core.specs.declared.step.Step.TheVariants.{Enter}
use Rattle.card_core.specs.Agreement.{CoreView, Follows}
use Rattle.card_core.specs.Arrival.{AnswersArrival}
use Rattle.card_core.specs.Sections.{answer_to, unjudged_answer}
use Rattle.card_core.specs.inner.Ports.{is_idle}
use Rattle.card_core.proofs.ArrivalSteps.{arrives-judged, arrives-missed}
use Rattle.card_core.proofs.PortLemmas.{core_of}
use Rattle.card_core.proofs.PortSteps.{enter-not}
use Rattle.card_core.specs.Kept.{ReservesNothing}
use Rattle.card_core.proofs.Reserving.{judge-reserves}
use Rattle.card_core.proofs.serial.Core.arrive.Goals as goal

pub returns-then-not-is_idle_at-clause-not_now : goal.returns-then-not-is_idle_at-clause-not_now
returns-then-not-is_idle_at-clause-not_now c =
    let l = c.self.inside in
    let busy : is_idle (slice_get l.ports.items c.args.port) ≡ false =
    let test = c.is_idle_at.ensures in let same = c.deref.ensures.value in let is = c.if-not-is_idle_at.true in cc in
    subst (λ (core : CoreView). Follows core (Enter c.args.port c.args.cell.now c.args.moment) NotNow core) c.self.view_is
    (enter-not l.shape l.store l.directory l.lines.items l.ports.items c.args.port c.args.cell.now c.args.moment busy)

pub returns-in-Ok-clause-answered : goal.returns-in-Ok-clause-answered
returns-in-Ok-clause-answered c =
    let l = c.self.inside in
    let free : is_idle (slice_get l.ports.items c.args.port) ≡ true =
    let test = c.is_idle_at.ensures in let same = c.deref.ensures.value in let is = c.if-not-is_idle_at.false in cc in
    let after = c.judgement_on_line.new.lines.items in
    let decision = c.judgement_on_line.result in
    let found = c.in-Ok.found in
    let New : CoreView = core_of l.shape l.store l.directory after l.ports.items in
    subst (λ (core : CoreView). AnswersArrival core c.args.port c.args.cell.now c.args.moment (answer_to c.args.cell.now decision) New) c.self.view_is
    (subst (λ (octets : List ℕ). AnswersArrival (core_of l.shape l.store l.directory l.lines.items l.ports.items) c.args.port c.args.cell.now c.args.moment (answer_to octets decision) New)
    c.in-Ok.ensures.found.naming.same
    (arrives-judged l.shape l.store l.directory l.lines.items l.ports.items c.args.port (record { cell = c.args.cell.now; moment = c.args.moment }) free
    found c.in-Ok.ensures.found (answer_to found.named.cell decision) after
    c.judgement_on_line.ensures.connection c.judgement_on_line.ensures.program_live c.judgement_on_line.ensures.line))

pub returns-in-Err-clause-answered : goal.returns-in-Err-clause-answered
returns-in-Err-clause-answered c =
    let l = c.self.inside in
    let free : is_idle (slice_get l.ports.items c.args.port) ≡ true =
    let test = c.is_idle_at.ensures in let same = c.deref.ensures.value in let is = c.if-not-is_idle_at.false in cc in
    subst (λ (core : CoreView). AnswersArrival core c.args.port c.args.cell.now c.args.moment (unjudged_answer c.in-Err.reason) core) c.self.view_is
    (arrives-missed l.shape l.store l.directory l.lines.items l.ports.items c.args.port (record { cell = c.args.cell.now; moment = c.args.moment }) free
    (unjudged_answer c.in-Err.reason) c.in-Err.ensures.found)

pub returns-in-Ok-clause-reserves : goal.returns-in-Ok-clause-reserves
returns-in-Ok-clause-reserves c =
    let l = c.self.inside in
    let New : CoreView = core_of l.shape l.store l.directory c.judgement_on_line.new.lines.items l.ports.items in
    subst (λ (old : CoreView). ReservesNothing old New) c.self.view_is
    (judge-reserves (core_of l.shape l.store l.directory l.lines.items l.ports.items) New c.in-Ok.found
    (answer_to c.in-Ok.found.named.cell c.judgement_on_line.result) c.judgement_on_line.ensures.line)
