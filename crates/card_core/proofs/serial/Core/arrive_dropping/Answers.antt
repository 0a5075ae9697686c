use Rattle.std.proofs.Common.{◌≡◌, ◌≢◌, ℕ, true, false, List, sym, subst}
use Rattle.std.specs.Prelude.{slice_get}
use Rattle.upc_cell.specs.Connection.{vc_of}
use Rattle.upc_cell.specs.declared.vc.Vc.{Vc}
use Rattle.card_core.specs.declared.answer.Answer.TheVariants.{JournalFull, NoConnection, Stale}
use Rattle.card_core.specs.declared.reply.Reply.TheVariants.{NotNow}
use Rattle.card_core.specs.declared.step.Step.TheVariants.{Enter}
use Rattle.card_core.specs.Agreement.{CoreView, Follows}
use Rattle.card_core.specs.Arrival.{AnswersArrival, AnswersDropping, CutsIfLong, IsWorn}
use Rattle.card_core.specs.Kept.{ReservesNothing}
use Rattle.card_core.specs.Sections.{answer_to, unjudged_answer}
use Rattle.card_core.specs.inner.Ports.{is_idle}
use Rattle.card_core.proofs.ArrivalSteps.{arrives-judged, arrives-missed}
use Rattle.card_core.proofs.PortLemmas.{core_of}
use Rattle.card_core.proofs.PortSteps.{enter-not}
use Rattle.card_core.proofs.Shortening.{answers-keeping, cuts-if-long, full-is-worn, missed-is-no-full, missed-keeping, shortening-reserves}
use Rattle.card_core.proofs.serial.Core.arrive_dropping.Goals as goal

pub returns-then-not-is_idle_at-clause-not_now : goal.returns-then-not-is_idle_at-clause-not_now
returns-then-not-is_idle_at-clause-not_now c =
    let l = c.self.inside in
    let busy : is_idle (slice_get l.ports.items c.args.port) ≡ false =
    let test = c.is_idle_at.ensures in let same = c.deref.ensures.value in let is = c.if-not-is_idle_at.true in cc in
    subst (λ (core : CoreView). Follows core (Enter c.args.port c.args.cell.now c.args.moment) NotNow core) c.self.view_is
    (enter-not l.shape l.store l.directory l.lines.items l.ports.items c.args.port c.args.cell.now c.args.moment busy)

pub returns-in-Ok-clause-answered : goal.returns-in-Ok-clause-answered
returns-in-Ok-clause-answered c =
    let l = c.self.inside in
    let free : is_idle (slice_get l.ports.items c.args.port) ≡ true =
    let test = c.is_idle_at.ensures in let same = c.deref.ensures.value in let is = c.if-not-is_idle_at.false in cc in
    let after = c.judgement_on_line.new.lines.items in
    let decision = c.judgement_on_line.result in
    let found = c.in-Ok.found in
    let shortened = c.drop_long_journal.new.lines.items in
    let Middle : CoreView = core_of l.shape l.store l.directory shortened l.ports.items in
    let New : CoreView = core_of l.shape l.store l.directory after l.ports.items in
    let own : found.vc ≡ vc_of l.shape.side c.args.cell.now = c.in-Ok.ensures.found.own in
    subst (λ (core : CoreView). AnswersDropping c.args.most core c.args.port c.args.cell.now c.args.moment (answer_to c.args.cell.now decision) New) c.self.view_is
    (answers-keeping c.args.most (core_of l.shape l.store l.directory l.lines.items l.ports.items) New c.args.port c.args.cell.now c.args.moment
    (answer_to c.args.cell.now decision) (subst (λ (octets : List ℕ). answer_to octets decision ≢ NoConnection) c.in-Ok.ensures.found.naming.same c.judgement_on_line.ensures.connection)
    (subst (λ (octets : List ℕ). answer_to octets decision ≢ Stale) c.in-Ok.ensures.found.naming.same c.judgement_on_line.ensures.program_live) (
      Middle,
      subst (λ (vc : Vc). CutsIfLong c.args.most (core_of l.shape l.store l.directory l.lines.items l.ports.items) vc Middle) own
          (cuts-if-long l.shape l.store l.directory l.lines.items l.ports.items c.args.most found.vc found.seating c.in-Ok.ensures.found.sits shortened
          c.drop_long_journal.ensures.line),
      subst (λ (octets : List ℕ). AnswersArrival Middle c.args.port c.args.cell.now c.args.moment (answer_to octets decision) New)
          c.in-Ok.ensures.found.naming.same
          (arrives-judged l.shape l.store l.directory shortened l.ports.items c.args.port (record { cell = c.args.cell.now; moment = c.args.moment }) free
          found c.in-Ok.ensures.found (answer_to found.named.cell decision) after
          c.judgement_on_line.ensures.connection c.judgement_on_line.ensures.program_live c.judgement_on_line.ensures.line),
    ))

pub returns-in-Err-clause-answered : goal.returns-in-Err-clause-answered
returns-in-Err-clause-answered c =
    let l = c.self.inside in
    let free : is_idle (slice_get l.ports.items c.args.port) ≡ true =
    let test = c.is_idle_at.ensures in let same = c.deref.ensures.value in let is = c.if-not-is_idle_at.false in cc in
    let vc = vc_of l.shape.side c.args.cell.now in
    subst (λ (core : CoreView). AnswersDropping c.args.most core c.args.port c.args.cell.now c.args.moment (unjudged_answer c.in-Err.reason) core) c.self.view_is
    (let Old : CoreView = core_of l.shape l.store l.directory l.lines.items l.ports.items in
    missed-keeping c.args.most l.store l.directory vc Old Old c.args.port c.args.cell.now c.args.moment (unjudged_answer c.in-Err.reason) c.in-Err.ensures.found
    (arrives-missed l.shape l.store l.directory l.lines.items l.ports.items c.args.port (record { cell = c.args.cell.now; moment = c.args.moment }) free
    (unjudged_answer c.in-Err.reason) c.in-Err.ensures.found))

pub returns-in-Ok-clause-full : goal.returns-in-Ok-clause-full
returns-in-Ok-clause-full c =
    let l = c.self.inside in
    let decision = c.judgement_on_line.result in
    let found = c.in-Ok.found in
    let own : found.vc ≡ vc_of l.shape.side c.args.cell.now = c.in-Ok.ensures.found.own in
    λ full. subst (λ (core : CoreView). IsWorn core (vc_of core.shape.side c.args.cell.now)) c.self.view_is
    (subst (λ (vc : Vc). IsWorn (core_of l.shape l.store l.directory l.lines.items l.ports.items) vc) own
    (full-is-worn l.shape l.store l.directory l.lines.items l.ports.items c.args.most found c.in-Ok.ensures.found.sits c.drop_long_journal.new.lines.items
    c.drop_long_journal.ensures.line (answer_to found.named.cell decision) c.judgement_on_line.new.lines.items c.judgement_on_line.ensures.line
    (subst (λ (octets : List ℕ). answer_to octets decision ≡ JournalFull) (sym c.in-Ok.ensures.found.naming.same) full)))

pub returns-in-Err-clause-full : goal.returns-in-Err-clause-full
returns-in-Err-clause-full c =
    let l = c.self.inside in
    λ full. absurd (missed-is-no-full l.store l.directory (vc_of l.shape.side c.args.cell.now) (unjudged_answer c.in-Err.reason) c.in-Err.ensures.found full)

pub returns-in-Ok-clause-reserves : goal.returns-in-Ok-clause-reserves
returns-in-Ok-clause-reserves c =
    let l = c.self.inside in
    let found = c.in-Ok.found in
    let last = c.judgement_on_line.new.lines.items in
    subst (λ (old : CoreView). ReservesNothing old (core_of l.shape l.store l.directory last l.ports.items)) c.self.view_is
    (shortening-reserves l.shape l.store l.directory l.lines.items l.ports.items c.args.most found c.in-Ok.ensures.found.sits
    c.drop_long_journal.new.lines.items c.drop_long_journal.ensures.line
    (answer_to found.named.cell c.judgement_on_line.result) last c.judgement_on_line.ensures.line)
