-- No id is given twice.
use Rattle.std.proofs.Common.{◌≡◌, ◌≢◌, ℕ, zero, suc, ◌+◌, Bool, true, false, cond, List, [], ◌∷◌, Option, Some, None, slice_get, refl, sym, ap, ◌∙◌, subst, arith}
use Rattle.bpf_code.specs.declared.instr.Instr.{Instr}
use Rattle.bpf_verify.specs.Accepted.{IsAccepted}
use Rattle.gen_arena.specs.declared.id.Id.{Id}
use Rattle.gen_arena.specs.SameId.{is_same_id}
use Rattle.gen_arena.proofs.Public.{id_itself, id_differs}
use Rattle.card_core.specs.declared.reply.Reply.{Reply}
use Rattle.card_core.specs.declared.step.Step.{Step}
use Rattle.card_core.specs.declared.step.Step.TheVariants.{Enter, Pick, Judge, Load, Retire, Setup, Reload, Release, Cut}
use Rattle.card_core.specs.World.{World, Loading, PortState, entered, picked, code_in, times_given, opening_world}
use Rattle.card_core.specs.Steps.{Succeeds, WorldStep, left_by, left_by_pick, left_by_judge}
use Rattle.card_core.specs.Log.{Event, Run}
use Rattle.card_core.specs.Laws.{IdsAreGivenOnce, IdsNameOneCode}
use Rattle.card_core.proofs.Sound.{WorldInvariant}
use Rattle.card_core.proofs.LookUps.{same_some}
use Rattle.card_core.proofs.CodeLemmas.{code-first, code-later}
use Rattle.card_core.proofs.Allowed.{succeeded, starved, rejected, step-case}
use Rattle.card_core.proofs.SoundChanges.{opening-sound}
use Rattle.card_core.proofs.SoundSteps.{sound-step, reached-sound}

-- A step leaves the given codes unchanged or adds one under a new id.
pub data GivenCase (before after : List Loading) : Type 0 where
  as_before : after ≡ before → GivenCase before after
  one_more : (loading : Loading) → after ≡ loading ∷ before → IsAccepted loading.code
      → code_in before loading.id ≡ None → GivenCase before after

given-left_by_pick : (before : World) (port : ℕ) (o : Option PortState) → (left_by_pick before port o).loaded ≡ before.loaded
given-left_by_pick before port (Some (entered cell moment)) = refl
given-left_by_pick before port _ = refl

given-left_by_judge : (before : World) (port : ℕ) (o : Option PortState) → (left_by_judge before port o).loaded ≡ before.loaded
given-left_by_judge before port (Some (picked picking)) = refl
given-left_by_judge before port _ = refl

given-left : (before : World) (step : Step) → (left_by before step).loaded ≡ before.loaded
given-left before (Pick port) = given-left_by_pick before port (slice_get before.ports port)
given-left before (Judge port) = given-left_by_judge before port (slice_get before.ports port)
given-left before _ = refl

-- An id with the next generation of its slot was not given.
pub new-id : (world : World) → WorldInvariant world → (id : Id) → id.generation ≡ times_given world.loaded id.slot + 1
    → code_in world.loaded id ≡ None
new-id world sound id next =
    let choice : (o : Option (List Instr)) → code_in world.loaded id ≡ o → o ≡ None = elim [
      | None ↦ λ e. refl
      | Some code ↦ λ e. absurd (omega (arith, sound.programs.once id code e, next))
    ] in
    choice (code_in world.loaded id) refl

given-success : (before : World) (step : Step) (reply : Reply) (after : World) → WorldInvariant before
    → Succeeds before step reply after → GivenCase before.loaded after.loaded
given-success before (Enter port cell moment) reply after sound w = as_before (ap (λ (v : World). v.loaded) w.world)
given-success before (Pick port) reply after sound w = as_before (ap (λ (v : World). v.loaded) w.world)
given-success before (Judge port) reply after sound w = as_before (ap (λ (v : World). v.loaded) w.world)
given-success before (Load code) reply after sound w =
    one_more (record { id = w.id; code = code }) (ap (λ (v : World). v.loaded) w.world) w.accepted
    (new-id before sound w.id (subst (λ slot. w.id.generation ≡ times_given before.loaded slot + 1) (sym w.here) w.next))
given-success before (Retire id) reply after sound w = as_before (ap (λ (v : World). v.loaded) w.world)
given-success before (Setup ask) reply after sound w = as_before (ap (λ (v : World). v.loaded) w.world)
given-success before (Reload vc program) reply after sound w = as_before (ap (λ (v : World). v.loaded) w.world)
given-success before (Release vc) reply after sound w = as_before (ap (λ (v : World). v.loaded) w.world)
given-success before (Cut vc) reply after sound w = as_before (ap (λ (v : World). v.loaded) w.world)

pub given-step : (before : World) (step : Step) (reply : Reply) (after : World) → WorldInvariant before
    → WorldStep before step reply after → GivenCase before.loaded after.loaded
given-step before step reply after sound w = elim (step-case before step reply after w) [
  | succeeded allowed success ↦ given-success before step reply after sound success
  | starved memory ↦ as_before (ap (λ (v : World). v.loaded) memory.world)
  | rejected refused e refusing ↦ as_before (ap (λ (v : World). v.loaded) refusing.world ∙ given-left before step)
]

-- An id has one code.

pub code-kept : (before after : List Loading) → GivenCase before after → (id : Id) (code : List Instr)
    → code_in before id ≡ Some code → code_in after id ≡ Some code
code-kept before after (as_before same) id code e = subst (λ (l : List Loading). code_in l id ≡ Some code) (sym same) e
code-kept before after (one_more loading same accepted new) id code e =
    let apart : id ≢ loading.id = λ at.
    let there : code_in before loading.id ≡ Some code = subst (λ (i : Id). code_in before i ≡ Some code) at e in
    absurd (cc) in
    subst (λ (l : List Loading). code_in l id ≡ Some code) (sym same)
    (code-later loading before id (id_differs id loading.id apart) ∙ e)

code-run : (before : World) (log : List Event) (after : World) → WorldInvariant before → Run before log after
    → (id : Id) (code : List Instr) → code_in before.loaded id ≡ Some code → code_in after.loaded id ≡ Some code
code-run before [] after sound run id code e =
    subst (λ (v : World). code_in v.loaded id ≡ Some code) (sym run) e
code-run before (event ∷ later) after sound run id code e =
    code-run run.0 later after (sound-step before event.step event.reply run.0 sound run.1) run.2 id code
    (code-kept before.loaded run.0.loaded (given-step before event.step event.reply run.0 sound run.1) id code e)

pub one-code : IdsNameOneCode
one-code shape log further world later leads run id code e =
    code-run world further later (reached-sound shape log world leads) run id code e

-- No id occurs twice.

abbrev IsGivenOnce : List Loading → Type 0
IsGivenOnce given = (place other : ℕ) (one another : Loading)
    → slice_get given place ≡ Some one → slice_get given other ≡ Some another
    → one.id ≡ another.id → place ≡ other

abbrev AreAccepted : List Loading → Type 0
AreAccepted given = (place : ℕ) (loading : Loading) → slice_get given place ≡ Some loading → IsAccepted loading.code

-- An id without a code doesn't occur in the list.
is-nowhere : (given : List Loading) (id : Id) → code_in given id ≡ None → (place : ℕ) (loading : Loading)
    → slice_get given place ≡ Some loading → loading.id ≢ id
is-nowhere [] id none place loading e same = absurd (cc)
is-nowhere (first ∷ later) id none zero loading e same =
    let at : id ≡ first.id = sym same ∙ ap (λ (l : Loading). l.id) (sym (same_some first loading e)) in
    let here : is_same_id id first.id ≡ true = subst (λ (i : Id). is_same_id id i ≡ true) at (id_itself id) in
    let found = code-first first later id here in
    absurd (cc)
is-nowhere (first ∷ later) id none (suc place) loading e same =
    let choice : (b : Bool) → is_same_id id first.id ≡ b → cond b (Some first.code) (code_in later id) ≡ None → ⊥ = elim [
      | true ↦ λ here none. absurd (cc)
      | false ↦ λ away none. is-nowhere later id none place loading e same
    ] in
    choice (is_same_id id first.id) refl none

once-more : (before : List Loading) (loading : Loading) → code_in before loading.id ≡ None → IsGivenOnce before
    → IsGivenOnce (loading ∷ before)
once-more before loading new once zero zero one another e f same = refl
once-more before loading new once zero (suc other) one another e f same =
    let at : another.id ≡ loading.id = sym same ∙ ap (λ (l : Loading). l.id) (sym (same_some loading one e)) in
    absurd (is-nowhere before loading.id new other another f at)
once-more before loading new once (suc place) zero one another e f same =
    let at : one.id ≡ loading.id = same ∙ ap (λ (l : Loading). l.id) (sym (same_some loading another f)) in
    absurd (is-nowhere before loading.id new place one e at)
once-more before loading new once (suc place) (suc other) one another e f same =
    ap suc (once place other one another e f same)

accepted-more : (before : List Loading) (loading : Loading) → IsAccepted loading.code → AreAccepted before
    → AreAccepted (loading ∷ before)
accepted-more before loading accepted all zero one e =
    subst (λ (l : Loading). IsAccepted l.code) (same_some loading one e) accepted
accepted-more before loading accepted all (suc place) one e = all place one e

given-kept : (before after : List Loading) → GivenCase before after → IsGivenOnce before × AreAccepted before
    → IsGivenOnce after × AreAccepted after
given-kept before after (as_before same) keeps =
    subst (λ (l : List Loading). IsGivenOnce l × AreAccepted l) (sym same) keeps
given-kept before after (one_more loading same accepted new) keeps =
    subst (λ (l : List Loading). IsGivenOnce l × AreAccepted l) (sym same)
    (once-more before loading new keeps.0, accepted-more before loading accepted keeps.1)

given-run : (before : World) (log : List Event) (after : World) → WorldInvariant before → Run before log after
    → IsGivenOnce before.loaded × AreAccepted before.loaded → IsGivenOnce after.loaded × AreAccepted after.loaded
given-run before [] after sound run keeps =
    subst (λ (v : World). IsGivenOnce v.loaded × AreAccepted v.loaded) (sym run) keeps
given-run before (event ∷ later) after sound run keeps =
    given-run run.0 later after (sound-step before event.step event.reply run.0 sound run.1) run.2
    (given-kept before.loaded run.0.loaded (given-step before event.step event.reply run.0 sound run.1) keeps)

pub given-once : IdsAreGivenOnce
given-once shape log world leads =
    let none : IsGivenOnce [] × AreAccepted [] = (λ place other one another e f same. absurd (cc), λ place loading e. absurd (cc)) in
    let keeps = given-run (opening_world shape) log world (opening-sound shape) leads none in
    record { once = keeps.0; accepted = keeps.1 }
