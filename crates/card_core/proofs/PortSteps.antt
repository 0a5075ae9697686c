-- The steps of a port.
use Rattle.std.proofs.Common.{◌≡◌, ℕ, true, false, Some, None, List, refl, sym, ap, ◌∙◌}
use Rattle.std.specs.Prelude.{slice_get, slice_set, option_map}
use Rattle.gen_arena.specs.Slot.{Slot}
use Rattle.bpf_code.specs.declared.instr.Instr.{Instr}
use Rattle.line_record.specs.Directory.{DirectoryView}
use Rattle.line_record.specs.Line.{LineView}
use Rattle.card_core.specs.declared.port.Port.{Port}
use Rattle.card_core.specs.declared.port.Port.TheVariants.{Entered as EnteredPort}
use Rattle.card_core.specs.declared.port.Came.{Came}
use Rattle.card_core.specs.declared.reply.Reply.TheVariants.{Entered, NotNow}
use Rattle.card_core.specs.declared.step.Step.TheVariants.{Enter, Pick, Judge}
use Rattle.card_core.specs.declared.shape.Shape.{Shape}
use Rattle.card_core.specs.World.{World, PortState, outside, entered, with_port}
use Rattle.card_core.specs.Refusals.{refusal, enter_refusal, pick_refusal, judge_refusal}
use Rattle.card_core.specs.Agreement.{CoreView, CoreAgrees, Follows}
use Rattle.card_core.specs.inner.Ports.{port_state_of, is_idle, came_in, found_in}
use Rattle.card_core.proofs.Follow.{follows, step-refused, step-taken}
use Rattle.card_core.proofs.PortLemmas.{core_of, state-at, idle, not_idle, not_came, not_found, CoreAgrees-moved}

module _ (shape : Shape) (store : List (Slot (List Instr))) (directory : DirectoryView) (lines : List LineView) (ports : List Port) (port : ℕ) where
  abbrev Old : CoreView
  Old = core_of shape store directory lines ports

  -- The state of the port in the world.
  pub at-port : (before : World) → CoreAgrees Old before → slice_get before.ports port ≡ option_map port_state_of (slice_get ports port)
  at-port before agrees = ap (λ (states : List PortState). slice_get states port) (sym agrees.ports) ∙ state-at ports port

  pub enter-not : (cell : List ℕ) (moment : ℕ) → is_idle (slice_get ports port) ≡ false → Follows Old (Enter port cell moment) NotNow Old
  enter-not cell moment busy = follows Old Old (Enter port cell moment) NotNow (λ before sound agrees.
      let refused : refusal before (Enter port cell moment) ≡ Some NotNow =
      ap enter_refusal (at-port before agrees) ∙ not_idle (slice_get ports port) busy in
      (before, step-refused before (Enter port cell moment) NotNow refused, agrees))

  pub pick-not : came_in (slice_get ports port) ≡ None → Follows Old (Pick port) NotNow Old
  pick-not none = follows Old Old (Pick port) NotNow (λ before sound agrees.
      let refused : refusal before (Pick port) ≡ Some NotNow =
      ap (pick_refusal before) (at-port before agrees) ∙ not_came before (slice_get ports port) none in
      (before, step-refused before (Pick port) NotNow refused, agrees))

  pub judge-not : found_in (slice_get ports port) ≡ None → Follows Old (Judge port) NotNow Old
  judge-not none = follows Old Old (Judge port) NotNow (λ before sound agrees.
      let refused : refusal before (Judge port) ≡ Some NotNow =
      ap (judge_refusal before) (at-port before agrees) ∙ not_found before (slice_get ports port) none in
      (before, step-refused before (Judge port) NotNow refused, agrees))

  pub enter-goes : (here : Came) → is_idle (slice_get ports port) ≡ true
      → Follows Old (Enter port here.cell here.moment) Entered (core_of shape store directory lines (slice_set ports port (EnteredPort here)))
  enter-goes here free = follows Old _ (Enter port here.cell here.moment) Entered (λ before sound agrees.
      let had : slice_get before.ports port ≡ Some outside = at-port before agrees ∙ idle (slice_get ports port) free in
      let taken : refusal before (Enter port here.cell here.moment) ≡ None = ap enter_refusal had in
      let after : World = with_port before port (entered here.cell here.moment) in (
        after,
        step-taken before after (Enter port here.cell here.moment) Entered taken (record { answer = refl; world = refl }),
        CoreAgrees-moved shape store directory lines ports before port (EnteredPort here) (entered here.cell here.moment) refl agrees,
      ))
