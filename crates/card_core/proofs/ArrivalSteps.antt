-- All steps of a cell at a port without a cell. Afterwards the port has no cell again.
use Rattle.std.proofs.Common.{◌≡◌, ℕ, zero, suc, true, Option, Some, None, List, [], ◌∷◌, refl, sym, ap, subst, ◌∙◌}
use Rattle.std.specs.Prelude.{◌≢◌, slice_get, slice_set}
use Rattle.std.proofs.lemmas.List.{append-nil}
use Rattle.gen_arena.specs.Slot.{Slot}
use Rattle.upc_cell.specs.Connection.{vc_of}
use Rattle.upc_cell.specs.declared.vc.Vc.{Vc}
use Rattle.bpf_code.specs.declared.instr.Instr.{Instr}
use Rattle.line_record.specs.Directory.{DirectoryView}
use Rattle.line_record.specs.Line.{LineView}
use Rattle.card_core.specs.declared.answer.Answer.{Answer}
use Rattle.card_core.specs.declared.answer.Answer.TheVariants.{Judged, NoConnection, Released, Stale, MomentBack, MomentTooLate, JournalFull, NoMemory}
use Rattle.card_core.specs.declared.port.Port.{Port}
use Rattle.card_core.specs.declared.port.Port.TheVariants.{Outside, Entered as EnteredPort, Picked as PickedPort}
use Rattle.card_core.specs.declared.port.Came.{Came}
use Rattle.card_core.specs.declared.port.Found.{Found}
use Rattle.card_core.specs.declared.reply.Reply.{Reply}
use Rattle.card_core.specs.declared.reply.Reply.TheVariants.{Entered, Picked, Answered}
use Rattle.card_core.specs.declared.step.Step.{Step}
use Rattle.card_core.specs.declared.step.Step.TheVariants.{Enter, Pick, Judge}
use Rattle.card_core.specs.declared.shape.Shape.{Shape}
use Rattle.card_core.specs.Log.{Event, Leads}
use Rattle.card_core.specs.Agreement.{CoreView, Follows, FollowsAll}
use Rattle.card_core.specs.Arrival.{AnswersArrival}
use Rattle.card_core.specs.inner.ArrivalWays.{AnsweredByPick, AnsweredByJudgement}
use Rattle.card_core.specs.inner.Ports.{is_idle, came_in, found_in}
use Rattle.card_core.specs.inner.Parts.{IsFound, IsMissed, ChangesLine, JudgesOrRefuses}
use Rattle.card_core.proofs.LineLemmas.{set-again}
use Rattle.card_core.proofs.PortLemmas.{core_of}
use Rattle.card_core.proofs.PortSteps.{enter-goes}
use Rattle.card_core.proofs.PickSteps.{pick-goes, pick-missed}
use Rattle.card_core.proofs.JudgeSteps.{judge-goes}
use Rattle.card_core.proofs.RunLemmas.{follows-next}

-- A core that takes no step, one step, two steps and three steps.
none-taken : (old : CoreView) → FollowsAll old [] [] old
none-taken old shape log before leads agrees = record {
  after = before;
  stepped = refl;
  leads = subst (λ (events : List Event). Leads shape events before) (sym (append-nil log)) leads;
  agrees = agrees;
}

one-taken : (old new : CoreView) (step : Step) (reply : Reply) → Follows old step reply new → FollowsAll old (step ∷ []) (reply ∷ []) new
one-taken old new step reply goes = follows-next old old new [] [] step reply refl (none-taken old) goes

two-taken : (old middle new : CoreView) (one two : Step) (first second : Reply) → Follows old one first middle → Follows middle two second new
    → FollowsAll old (one ∷ two ∷ []) (first ∷ second ∷ []) new
two-taken old middle new one two first second goes then =
    follows-next old middle new (one ∷ []) (first ∷ []) two second refl (one-taken old middle one first goes) then

three-taken : (old middle later new : CoreView) (one two three : Step) (first second third : Reply) → Follows old one first middle
    → Follows middle two second later → Follows later three third new
    → FollowsAll old (one ∷ two ∷ three ∷ []) (first ∷ second ∷ third ∷ []) new
three-taken old middle later new one two three first second third goes then last =
    follows-next old later new (one ∷ two ∷ []) (first ∷ second ∷ []) three third refl (two-taken old middle later one two first second goes then) last

-- A state that is written to an existing port is there.
set_there : (ports : List Port) (port : ℕ) (old next : Port) → slice_get ports port ≡ Some old → slice_get (slice_set ports port next) port ≡ Some next
set_there [] port old next e = absurd (cc)
set_there (first ∷ later) zero old next e = refl
set_there (first ∷ later) (suc port) old next e = set_there later port old next e

-- A second write replaces the first.
again : (ports : List Port) (port : ℕ) (one other : Port) → slice_set (slice_set ports port one) port other ≡ slice_set ports port other
again [] port one other = refl
again (first ∷ later) zero one other = refl
again (first ∷ later) (suc port) one other = ap (λ (list : List Port). first ∷ list) (again later port one other)

outside-there : (port : Option Port) → is_idle port ≡ true → port ≡ Some Outside
outside-there None e = absurd (cc)
outside-there (Some Outside) e = refl
outside-there (Some (EnteredPort came)) e = absurd (cc)
outside-there (Some (PickedPort found)) e = absurd (cc)

-- A cell that a pick answers has a pick's answer, and one that is judged any other.
pick-answers : (store : List (Slot (List Instr))) (directory : DirectoryView) (vc : Vc) (old new : CoreView) (port : ℕ) (cell : List ℕ) (moment : ℕ) (answer : Answer)
    → IsMissed store directory vc answer → AnsweredByPick old port cell moment answer new → AnswersArrival old port cell moment answer new
pick-answers store directory vc old new port cell moment NoConnection missed way = way
pick-answers store directory vc old new port cell moment Stale missed way = way
pick-answers store directory vc old new port cell moment (Judged line number at value program verdict leaving) missed way = absurd missed
pick-answers store directory vc old new port cell moment Released missed way = absurd missed
pick-answers store directory vc old new port cell moment (MomentBack last) missed way = absurd missed
pick-answers store directory vc old new port cell moment MomentTooLate missed way = absurd missed
pick-answers store directory vc old new port cell moment JournalFull missed way = absurd missed
pick-answers store directory vc old new port cell moment NoMemory missed way = absurd missed

judgement-answers : (old new : CoreView) (port : ℕ) (cell : List ℕ) (moment : ℕ) (answer : Answer) → answer ≢ NoConnection → answer ≢ Stale
    → AnsweredByJudgement old port cell moment answer new → AnswersArrival old port cell moment answer new
judgement-answers old new port cell moment NoConnection found live way = absurd (found refl)
judgement-answers old new port cell moment Stale found live way = absurd (live refl)
judgement-answers old new port cell moment (Judged line number at value program verdict leaving) found live way = way
judgement-answers old new port cell moment Released found live way = way
judgement-answers old new port cell moment (MomentBack last) found live way = way
judgement-answers old new port cell moment MomentTooLate found live way = way
judgement-answers old new port cell moment JournalFull found live way = way
judgement-answers old new port cell moment NoMemory found live way = way

module _ (shape : Shape) (store : List (Slot (List Instr))) (directory : DirectoryView) (lines : List LineView) (ports : List Port) (port : ℕ)
    (here : Came) (free : is_idle (slice_get ports port) ≡ true) where
  abbrev Old : CoreView
  Old = core_of shape store directory lines ports

  abbrev entered_ports : List Port
  entered_ports = slice_set ports port (EnteredPort here)

  -- The ports after the cell has left.
  left-entered : slice_set entered_ports port Outside ≡ ports
  left-entered = again ports port (EnteredPort here) Outside ∙ set-again ports port Outside (outside-there (slice_get ports port) free)

  entered-there : slice_get entered_ports port ≡ Some (EnteredPort here)
  entered-there = set_there ports port Outside (EnteredPort here) (outside-there (slice_get ports port) free)

  -- The pick answers the cell.
  pub arrives-missed : (answer : Answer) → IsMissed store directory (vc_of shape.side here.cell) answer
      → AnswersArrival Old port here.cell here.moment answer Old
  arrives-missed answer missed =
      let enters = enter-goes shape store directory lines ports port here free in
      let picks = pick-missed shape store directory lines entered_ports port here (ap came_in entered-there) answer missed in
      pick-answers store directory (vc_of shape.side here.cell) Old Old port here.cell here.moment answer missed
      (two-taken Old (core_of shape store directory lines entered_ports) Old (Enter port here.cell here.moment) (Pick port) Entered (Answered answer) enters
      (subst (λ (list : List Port). Follows (core_of shape store directory lines entered_ports) (Pick port) (Answered answer) (core_of shape store directory lines list))
      left-entered picks))

  -- The judgement answers the cell.
  pub arrives-judged : (found : Found) → IsFound store directory shape.side here found → (answer : Answer) (after : List LineView)
      → answer ≢ NoConnection → answer ≢ Stale
      → ChangesLine lines found.seating.line (JudgesOrRefuses found answer) after
      → AnswersArrival Old port here.cell here.moment answer (core_of shape store directory after ports)
  arrives-judged found is answer after connected live changes =
      let picked_ports : List Port = slice_set entered_ports port (PickedPort found) in
      let Entering : CoreView = core_of shape store directory lines entered_ports in
      let Picking : CoreView = core_of shape store directory lines picked_ports in
      let picked-there = set_there entered_ports port (EnteredPort here) (PickedPort found) entered-there in
      let left : slice_set picked_ports port Outside ≡ ports = again entered_ports port (PickedPort found) Outside ∙ left-entered in
      let enters = enter-goes shape store directory lines ports port here free in
      let picks = pick-goes shape store directory lines entered_ports port here (ap came_in entered-there) found is in
      let judges = judge-goes shape store directory lines picked_ports port found (ap found_in picked-there) answer after changes in
      judgement-answers Old (core_of shape store directory after ports) port here.cell here.moment answer connected live
      (three-taken Old Entering Picking (core_of shape store directory after ports) (Enter port here.cell here.moment) (Pick port) (Judge port)
      Entered Picked (Answered answer) enters picks
      (subst (λ (list : List Port). Follows Picking (Judge port) (Answered answer) (core_of shape store directory after list)) left judges))
