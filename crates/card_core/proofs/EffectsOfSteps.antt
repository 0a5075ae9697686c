-- Each step has the effect that its reply shows: the steps of the desk, and all steps.
use Rattle.std.proofs.Common.{◌≡◌, ◌+◌, cond, List, ◌∷◌, length, Some, append-nil, refl, sym, ap, ◌∙◌, subst, inl, inr, arith}
use Rattle.upc_cell.specs.declared.vc.Vc.{Vc}
use Rattle.upc_cell.proofs.Public.{vc_itself, vc_differs, vc_cases}
use Rattle.bpf_code.specs.declared.instr.Instr.{Instr}
use Rattle.gen_arena.specs.declared.id.Id.{Id}
use Rattle.card_core.specs.declared.ask.Ask.{Ask}
use Rattle.card_core.specs.declared.reply.Reply.{Reply}
use Rattle.card_core.specs.declared.reply.Reply.TheVariants.{Loaded, Retired, SetUp, Reloaded, Released, Cut as CutOff}
use Rattle.card_core.specs.declared.shape.Shape.{Shape}
use Rattle.card_core.specs.declared.step.Step.{Step}
use Rattle.card_core.specs.declared.step.Step.TheVariants.{Enter, Pick, Judge, Load, Retire, Setup, Reload, Release, Cut}
use Rattle.card_core.specs.World.{World, Connection, without_code, times_given, connection_in, with_connection, without_connection}
use Rattle.card_core.specs.Steps.{Loads, Retires, SetsUp, Reloads, Releases, Cuts, Succeeds, WorldStep, new_connection}
use Rattle.card_core.specs.Headline.{named_after}
use Rattle.card_core.proofs.Sound.{WorldInvariant}
use Rattle.card_core.proofs.GivenOnce.{new-id}
use Rattle.card_core.proofs.Effects.{store_same, store_loaded, store_retired, Kept, IsFresh, kept, fresh, IsSilent, kept-silent, same-silent, connections-same, connections-with, ports-same, StepEffects}
use Rattle.card_core.proofs.ConnectionLemmas.{without-here, without-others}
use Rattle.card_core.proofs.Allowed.{succeeded, starved, rejected, step-case}
use Rattle.card_core.proofs.LeftLemmas.{left_with, left-as}
use Rattle.card_core.proofs.EffectsOfCells.{no-verdicts, effects-at, effects-enters, effects-picks, effects-judges}
use Rattle.card_core.proofs.EffectsOfRefusals.{effects-refused, effects-starved}

-- Each step of the desk has the effect that its reply shows.

effects-loads : (shape : Shape) (before : World) (code : List Instr) (reply : Reply) (after : World) → WorldInvariant before
    → Loads before code reply after → StepEffects shape before (Load code) reply after
effects-loads shape before code reply after sound w =
    let later : World = record before {
      loaded = record { id = w.id; code = code } ∷ before.loaded;
      live = record { id = w.id; code = code } ∷ before.live;
    } in
    let next = subst (λ slot. w.id.generation ≡ times_given before.loaded slot + 1) (sym w.here) w.next in
    effects-at shape before (Load code) reply (Loaded w.id) after later w.answer w.world (record {
      shape_same = refl;
      store = store_loaded w.id code refl refl refl refl (new-id before sound w.id next);
      connections = connections-same shape before later (Load code) (Loaded w.id) (λ vc. record { unchanged = refl; programs = λ program. refl; cells = refl }) refl;
      ports = ports-same before later (Load code) (Loaded w.id) refl (λ port. refl);
      verdicts = λ line. no-verdicts (before.verdicts line) line (Load code) (Loaded w.id) refl;
    })

effects-retires : (shape : Shape) (before : World) (id : Id) (reply : Reply) (after : World)
    → Retires before id reply after → StepEffects shape before (Retire id) reply after
effects-retires shape before id reply after w =
    let later : World = record before { live = without_code before.live id } in
    effects-at shape before (Retire id) reply (Retired w.code) after later w.answer w.world (record {
      shape_same = refl;
      store = store_retired id w.code refl refl refl refl w.was;
      connections = connections-same shape before later (Retire id) (Retired w.code) (λ vc. record { unchanged = refl; programs = λ program. refl; cells = refl }) refl;
      ports = ports-same before later (Retire id) (Retired w.code) refl (λ port. refl);
      verdicts = λ line. no-verdicts (before.verdicts line) line (Retire id) (Retired w.code) refl;
    })

effects-sets_up : (shape : Shape) (before : World) (ask : Ask) (reply : Reply) (after : World)
    → SetsUp before ask reply after → StepEffects shape before (Setup ask) reply after
effects-sets_up shape before ask reply after w =
    let new : Connection = new_connection ask w.line (before.incarnations + 1) in
    let granted : Reply = SetUp (record { vc = ask.vc; incarnation = before.incarnations + 1 }) in
    let later : World = record before {
      connections = with_connection before.connections ask.vc new;
      incarnations = before.incarnations + 1;
    } in
    let now : IsFresh before.incarnations new ask.vc (Setup ask) granted = record {
      ask = ask;
      asked = refl;
      step_is = refl;
      reply_is = refl;
      later = omega arith;
      contracts = refl;
      program = refl;
      history = refl;
    } in
    effects-at shape before (Setup ask) reply granted after later w.answer w.world (record {
      shape_same = refl;
      store = store_same refl refl (λ id. refl) (λ id. refl);
      connections = connections-with shape before later (Setup ask) granted ask.vc new refl (fresh now)
          (λ other apart old at. same-silent shape old old other (Setup ask) granted
          (record { unchanged = vc_differs other ask.vc apart; programs = λ program. refl; cells = refl }) refl);
      ports = ports-same before later (Setup ask) granted refl (λ port. refl);
      verdicts = λ line. no-verdicts (before.verdicts line) line (Setup ask) granted refl;
    })

effects-reloads : (shape : Shape) (before : World) (vc : Vc) (program : Id) (reply : Reply) (after : World)
    → Reloads before vc program reply after → StepEffects shape before (Reload vc program) reply after
effects-reloads shape before vc program reply after w =
    let connection : Connection = w.connection in
    let new : Connection = record connection { program = program } in
    let granted : Reply = Reloaded connection.program in
    let later : World = record before { connections = with_connection before.connections vc new } in
    let named : named_after vc connection.program granted (Reload vc program) ≡ program =
    ap (λ b. cond b program connection.program) (vc_itself vc) in
    let now : Kept shape connection new vc (Reload vc program) granted = record {
      incarnation = refl;
      line = refl;
      contracts = refl;
      unchanged = refl;
      program = sym named;
      cells = sym (append-nil connection.history);
      held = sym (append-nil connection.history);
    } in
    effects-at shape before (Reload vc program) reply granted after later w.answer w.world (record {
      shape_same = refl;
      store = store_same refl refl (λ id. refl) (λ id. refl);
      connections = connections-with shape before later (Reload vc program) granted vc new refl (kept connection w.found now)
          (λ other apart old at. same-silent shape old old other (Reload vc program) granted
          (record { unchanged = refl; programs = λ named. ap (λ b. cond b program named) (vc_differs other vc apart); cells = refl }) refl);
      ports = ports-same before later (Reload vc program) granted refl (λ port. refl);
      verdicts = λ line. no-verdicts (before.verdicts line) line (Reload vc program) granted refl;
    })

effects-releases : (shape : Shape) (before : World) (vc : Vc) (reply : Reply) (after : World)
    → Releases before vc reply after → StepEffects shape before (Release vc) reply after
effects-releases shape before vc reply after w =
    let granted : Reply = Released w.piece in
    let later : World = record before { connections = without_connection before.connections vc } in
    effects-at shape before (Release vc) reply granted after later w.answer w.world (record {
      shape_same = refl;
      store = store_same refl refl (λ id. refl) (λ id. refl);
      connections = λ other connection at. elim (vc_cases other vc) [
        | inl is ↦
            let gone = without-here before.connections vc in
            let there : connection_in (without_connection before.connections vc) vc ≡ Some connection =
            subst (λ (v : Vc). connection_in (without_connection before.connections vc) v ≡ Some connection) is at in
            absurd (cc)
        | inr apart ↦
            kept connection (sym (without-others before.connections vc other apart) ∙ at)
            (same-silent shape connection connection other (Release vc) granted
            (record { unchanged = vc_differs other vc apart; programs = λ program. refl; cells = refl }) refl)
      ];
      ports = ports-same before later (Release vc) granted refl (λ port. refl);
      verdicts = λ line. no-verdicts (before.verdicts line) line (Release vc) granted refl;
    })

effects-cuts : (shape : Shape) (before : World) (vc : Vc) (reply : Reply) (after : World)
    → Cuts before vc reply after → StepEffects shape before (Cut vc) reply after
effects-cuts shape before vc reply after w =
    let connection : Connection = w.connection in
    let new : Connection = record connection { returned = length connection.history } in
    let granted : Reply = CutOff w.piece in
    let later : World = record before { connections = with_connection before.connections vc new } in
    let silent : (other : Vc) → IsSilent other (Cut vc) granted = λ other. record { unchanged = refl; programs = λ program. refl; cells = refl } in
    effects-at shape before (Cut vc) reply granted after later w.answer w.world (record {
      shape_same = refl;
      store = store_same refl refl (λ id. refl) (λ id. refl);
      connections = connections-with shape before later (Cut vc) granted vc new refl
          (kept connection w.found (kept-silent shape connection new vc (Cut vc) granted (silent vc) refl refl refl refl refl))
          (λ other apart old at. same-silent shape old old other (Cut vc) granted (silent other) refl);
      ports = ports-same before later (Cut vc) granted refl (λ port. refl);
      verdicts = λ line. no-verdicts (before.verdicts line) line (Cut vc) granted refl;
    })

-- Every step with every reply has the effect that the reply shows.

effects-success : (shape : Shape) (before : World) (step : Step) (reply : Reply) (after : World) → WorldInvariant before → before.shape ≡ shape
    → Succeeds before step reply after → StepEffects shape before step reply after
effects-success shape before (Enter port cell moment) reply after sound same w = effects-enters shape before port cell moment reply after w
effects-success shape before (Pick port) reply after sound same w = effects-picks shape before port reply after w
effects-success shape before (Judge port) reply after sound same w = effects-judges shape before port reply after sound same w
effects-success shape before (Load code) reply after sound same w = effects-loads shape before code reply after sound w
effects-success shape before (Retire id) reply after sound same w = effects-retires shape before id reply after w
effects-success shape before (Setup ask) reply after sound same w = effects-sets_up shape before ask reply after w
effects-success shape before (Reload vc program) reply after sound same w = effects-reloads shape before vc program reply after w
effects-success shape before (Release vc) reply after sound same w = effects-releases shape before vc reply after w
effects-success shape before (Cut vc) reply after sound same w = effects-cuts shape before vc reply after w

pub step-effects : (shape : Shape) (before : World) (step : Step) (reply : Reply) (after : World) → WorldInvariant before → before.shape ≡ shape
    → WorldStep before step reply after → StepEffects shape before step reply after
step-effects shape before step reply after sound same w = elim (step-case before step reply after w) [
  | succeeded allowed success ↦ effects-success shape before step reply after sound same success
  | starved memory ↦
      subst (λ (v : World). StepEffects shape before step reply v) (sym memory.world) (effects-starved shape before step reply memory.answer)
  | rejected refused e refusing ↦
      effects-at shape before step reply refused after (left_with before step refused) refusing.answer
      (refusing.world ∙ left-as before step refused e)
      (effects-refused shape before step refused e)
]
