-- A world with only the kept connections, its shadow, next to a world with others: the parts that they share.
--
-- The shadow of a world is a world of the same shape. It has
--   the same given and live programs, under the same ids;
--   each kept connection of the world, on the same line and with the same program, and no other connection;
--   at each port the cell that the world has there, if it is a kept connection's, and otherwise none;
--   no more incarnations given.
-- The incarnations and the counts of a line may differ. The lines are the same, so a line that is open in the world is
-- open in the shadow too.
use Rattle.std.proofs.Common.{◌≡◌, ℕ, zero, suc, ◌≤◌, ◌==◌, Bool, true, false, cond, not, ◌&&◌, List, [], ◌∷◌, set, Option, Some, None, is_some, slice_get, option_map, refl, sym, ap, ◌∙◌, subst}
use Rattle.std.specs.List.{list_any, list_all}
use Rattle.std.proofs.lemmas.Bool.{and_parts}
use Rattle.std.proofs.lemmas.Option.{same_Some}
use Rattle.upc_cell.specs.declared.side.Side.{Side}
use Rattle.upc_cell.specs.declared.vc.Vc.{Vc}
use Rattle.upc_cell.specs.Connection.{vc_of, is_same_vc}
use Rattle.upc_cell.proofs.Public.{vc_itself, vc_same}
use Rattle.gen_arena.specs.declared.id.Id.{Id}
use Rattle.card_core.specs.declared.reply.Reply.{Reply}
use Rattle.card_core.specs.declared.shape.Shape.{Shape}
use Rattle.card_core.specs.declared.step.Step.{Step}
use Rattle.card_core.specs.World.{World, Loading, Connection, Picking, PortState, outside, entered, picked, is_outside, code_in, connection_in}
use Rattle.card_core.specs.inner.Sound.{WorldInvariant}
use Rattle.card_isolation.specs.Act.{Act}
use Rattle.card_isolation.specs.OwnEvents.{OwnEvent, own_event}
use Rattle.card_core.proofs.LookUps.{mapped}
use Rattle.card_isolation.proofs.Basics.{seen-set, with_at}
use Rattle.card_isolation.proofs.Alone.{Place, idle, came, looked, Alone, Does, Next, outcome_alone, event_with, one-next, is_idle}
use Rattle.card_core.proofs.StoreSteps.{tested-connection}
use Rattle.card_isolation.proofs.Connections.{connection-passes}
use Rattle.card_isolation.proofs.Views.{is_current, place_of, has_own_in, alone_in, notes_in, Goes, StepEffect}

-- A connection's part of the card: its line and its program.
pub record Holding : Type 0 where
  pub line : ℕ
  pub program : Id

abbrev pub held : Connection → Holding
held connection = record { line = connection.line; program = connection.program }

abbrev pub holding_of : Vc → World → Option Holding
holding_of vc world = option_map held (connection_in world.connections vc)

-- The port has a cell of a kept connection.
abbrev pub has_kept_in : Side → (Vc → Bool) → Option PortState → Bool
has_kept_in side kept None = false
has_kept_in side kept (Some outside) = false
has_kept_in side kept (Some (entered cell moment)) = kept (vc_of side cell)
has_kept_in side kept (Some (picked picking)) = kept picking.vc

-- Each port has a cell of a kept connection, or none.
abbrev pub HasOnlyKept : Side → (Vc → Bool) → List PortState → Type 0
HasOnlyKept side kept ports = (port : ℕ) (state : PortState) → slice_get ports port ≡ Some state
    → has_kept_in side kept (Some state) ≡ false → state ≡ outside

pub record Shadows (kept : Vc → Bool) (world shadow : World) : Type 0 where
  pub shape : shadow.shape ≡ world.shape
  pub loaded : shadow.loaded ≡ world.loaded
  pub live : shadow.live ≡ world.live
  pub alone : (vc : Vc) → kept vc ≡ true → alone_in vc shadow ≡ alone_in vc world
  pub holding : (vc : Vc) → kept vc ≡ true → holding_of vc shadow ≡ holding_of vc world
  pub incarnations : shadow.incarnations ≤ world.incarnations
  pub others : (vc : Vc) → kept vc ≡ false → connection_in shadow.connections vc ≡ None
  pub ports : HasOnlyKept shadow.shape.side kept shadow.ports

-- Which connections are kept.

-- A virtual connection that equals a kept one is kept.
pub kept-too : (kept : Vc → Bool) (vc other : Vc) → kept vc ≡ true → is_same_vc vc other ≡ true → kept other ≡ true
kept-too kept vc other is same = subst (λ (v : Vc). kept v ≡ true) (vc_same vc other same) is

-- A kept one differs from one that isn't kept.
pub are-apart : (kept : Vc → Bool) (vc other : Vc) (b : Bool) → kept vc ≡ b → kept other ≡ not b → is_same_vc vc other ≡ false
are-apart kept vc other b is isnt =
    let choice : (same : Bool) → is_same_vc vc other ≡ same → same ≡ false = elim [
      | true ↦ λ e.
          let both : b ≡ not b = sym is ∙ ap kept (vc_same vc other e) ∙ isnt in
          let never : (b : Bool) → b ≡ not b → ⊥ = elim [ true ↦ λ e. cc | false ↦ λ e. cc ] in
          absurd (never b both)
      | false ↦ λ e. refl
    ] in
    choice (is_same_vc vc other) refl

-- A port that has a cell of one kept connection has a cell of a kept connection.
pub own-kept : (side : Side) (kept : Vc → Bool) (vc : Vc) → kept vc ≡ true → (o : Option PortState) → has_own_in side vc o ≡ true
    → has_kept_in side kept o ≡ true
own-kept side kept vc is None own = absurd (cc)
own-kept side kept vc is (Some outside) own = absurd (cc)
own-kept side kept vc is (Some (entered cell moment)) own = kept-too kept vc (vc_of side cell) is own
own-kept side kept vc is (Some (picked picking)) own = kept-too kept vc picking.vc is own

pub kept-own : (side : Side) (kept : Vc → Bool) (o : Option PortState) → has_kept_in side kept o ≡ true
    → (vc : Vc) × (kept vc ≡ true) × (has_own_in side vc o ≡ true)
kept-own side kept None has = absurd (cc)
kept-own side kept (Some outside) has = absurd (cc)
kept-own side kept (Some (entered cell moment)) has = (vc_of side cell, has, vc_itself (vc_of side cell))
kept-own side kept (Some (picked picking)) has = (picking.vc, has, vc_itself picking.vc)

-- A port without a cell of a kept connection has no cell of any one of them.
pub none-kept : (side : Side) (kept : Vc → Bool) (vc : Vc) → kept vc ≡ true → (o : Option PortState) → has_kept_in side kept o ≡ false
    → has_own_in side vc o ≡ false
none-kept side kept vc is o none =
    let choice : (b : Bool) → has_own_in side vc o ≡ b → b ≡ false = elim [
      | true ↦ λ own. let some = own-kept side kept vc is o own in absurd (cc)
      | false ↦ λ own. refl
    ] in
    choice (has_own_in side vc o) refl

-- After a write a port has a cell of a kept connection, or none.
pub only-kept-set : (side : Side) (kept : Vc → Bool) (ports : List PortState) (port : ℕ) (old new : PortState) → slice_get ports port ≡ Some old
    → (has_kept_in side kept (Some new) ≡ false → new ≡ outside) → HasOnlyKept side kept ports → HasOnlyKept side kept (set ports port new)
only-kept-set side kept ports port old new had fits only other state at none =
    let seen : slice_get (set ports port new) other ≡ with_at (λ place. slice_get ports place) port (Some new) other =
    ap (λ (f : ℕ → Option PortState). f other) (seen-set (λ (o : Option PortState). o) ports port new old had) in
    let choice : (b : Bool) → cond b (Some new) (slice_get ports other) ≡ Some state → state ≡ outside = elim [
      | true ↦ λ e.
          let is : new ≡ state = same_Some new state e in
          sym is ∙ fits (ap (λ (s : PortState). has_kept_in side kept (Some s)) is ∙ none)
      | false ↦ λ e. only other state e none
    ] in
    choice (other == port) (sym seen ∙ at)

-- If the connection's part of a port isn't idle, the port has a cell of it.
own-place : (side : Side) (vc : Vc) (given : List Loading) (found : Option Connection) → (o : Option PortState)
    → has_own_in side vc o ≡ not (is_idle (place_of side vc given found o))
own-place side vc given found None = refl
own-place side vc given found (Some outside) = refl
own-place side vc given found (Some (entered cell moment)) =
    let choice : (b : Bool) → b ≡ not (is_idle (cond b (came cell moment) idle)) = elim [ true ↦ refl | false ↦ refl ] in
    choice (is_same_vc vc (vc_of side cell))
own-place side vc given found (Some (picked picking)) =
    let choice : (b : Bool) (place : Place) → is_idle place ≡ false → b ≡ not (is_idle (cond b place idle)) = elim [
      | true ↦ λ place e. sym (ap not e)
      | false ↦ λ place e. refl
    ] in
    choice (is_same_vc vc picking.vc) _ refl

same-own : (vc : Vc) (world shadow : World) → alone_in vc shadow ≡ alone_in vc world → (port : ℕ)
    → has_own_in shadow.shape.side vc (slice_get shadow.ports port) ≡ has_own_in world.shape.side vc (slice_get world.ports port)
same-own vc world shadow alone port =
    own-place shadow.shape.side vc shadow.loaded (connection_in shadow.connections vc) (slice_get shadow.ports port)
    ∙ ap (λ (a : Alone). not (is_idle (a.places port))) alone
    ∙ sym (own-place world.shape.side vc world.loaded (connection_in world.connections vc) (slice_get world.ports port))

-- If a port of the world has no cell of a kept connection, the shadow's port has no cell.
pub none-too : (kept : Vc → Bool) (world shadow : World) → Shadows kept world shadow → (port : ℕ)
    → has_kept_in world.shape.side kept (slice_get world.ports port) ≡ false
    → has_kept_in shadow.shape.side kept (slice_get shadow.ports port) ≡ false
none-too kept world shadow s port none =
    let choice : (b : Bool) → has_kept_in shadow.shape.side kept (slice_get shadow.ports port) ≡ b → b ≡ false = elim [
      | true ↦ λ has.
          let owner = kept-own shadow.shape.side kept (slice_get shadow.ports port) has in
          let own : has_own_in world.shape.side owner.0 (slice_get world.ports port) ≡ true =
          sym (same-own owner.0 world shadow (s.alone owner.0 owner.1) port) ∙ owner.2 in
          let some = own-kept world.shape.side kept owner.0 owner.1 (slice_get world.ports port) own in
          absurd (cc)
      | false ↦ λ has. refl
    ] in
    choice (has_kept_in shadow.shape.side kept (slice_get shadow.ports port)) refl

-- The port, from the connection's part of it.

abbrev pub is_came : Place → Bool
is_came idle = false
is_came (came cell moment) = true
is_came (looked cell moment value code current) = false

-- A cell of the connection has entered the port, or was looked up there.

pub record HasEntered (vc : Vc) (world : World) (port : ℕ) : Type 0 where
  pub cell : List ℕ
  pub moment : ℕ
  pub had : slice_get world.ports port ≡ Some (entered cell moment)
  pub own : is_same_vc vc (vc_of world.shape.side cell) ≡ true

pub record HasPicked (vc : Vc) (world : World) (port : ℕ) : Type 0 where
  pub picking : Picking
  pub had : slice_get world.ports port ≡ Some (picked picking)
  pub own : is_same_vc vc picking.vc ≡ true

came-entered : (vc : Vc) (world : World) (port : ℕ) → (o : Option PortState) → slice_get world.ports port ≡ o
    → is_came (place_of world.shape.side vc world.loaded (connection_in world.connections vc) o) ≡ true → HasEntered vc world port
came-entered vc world port None at e = absurd (cc)
came-entered vc world port (Some outside) at e = absurd (cc)
came-entered vc world port (Some (entered cell moment)) at e =
    let choice : (b : Bool) → is_same_vc vc (vc_of world.shape.side cell) ≡ b → is_came (cond b (came cell moment) idle) ≡ true
    → HasEntered vc world port = elim [
      | true ↦ λ own same. record { cell = cell; moment = moment; had = at; own = own }
      | false ↦ λ own same. absurd (cc)
    ] in
    choice (is_same_vc vc (vc_of world.shape.side cell)) refl e
came-entered vc world port (Some (picked picking)) at e =
    let choice : (b : Bool) (place : Place) → is_came place ≡ false → is_came (cond b place idle) ≡ true → HasEntered vc world port = elim [
      | true ↦ λ place isnt is. absurd (cc)
      | false ↦ λ place isnt is. absurd (cc)
    ] in
    choice (is_same_vc vc picking.vc) _ refl e

abbrev pub is_looked : Place → Bool
is_looked idle = false
is_looked (came cell moment) = false
is_looked (looked cell moment value code current) = true

looked-picked : (vc : Vc) (world : World) (port : ℕ) → (o : Option PortState) → slice_get world.ports port ≡ o
    → is_looked (place_of world.shape.side vc world.loaded (connection_in world.connections vc) o) ≡ true → HasPicked vc world port
looked-picked vc world port None at e = absurd (cc)
looked-picked vc world port (Some outside) at e = absurd (cc)
looked-picked vc world port (Some (entered cell moment)) at e =
    let choice : (b : Bool) → is_looked (cond b (came cell moment) idle) ≡ true → HasPicked vc world port = elim [
      | true ↦ λ same. absurd (cc)
      | false ↦ λ same. absurd (cc)
    ] in
    choice (is_same_vc vc (vc_of world.shape.side cell)) e
looked-picked vc world port (Some (picked picking)) at e =
    let choice : (b : Bool) (place : Place) → is_same_vc vc picking.vc ≡ b → is_looked (cond b place idle) ≡ true → HasPicked vc world port = elim [
      | true ↦ λ place own is. record { picking = picking; had = at; own = own }
      | false ↦ λ place own is. absurd (cc)
    ] in
    choice (is_same_vc vc picking.vc) _ refl e

-- The shadow has it at the port too.

pub entered-too : (vc : Vc) (world shadow : World) → alone_in vc shadow ≡ alone_in vc world → (port : ℕ) → HasEntered vc world port → HasEntered vc shadow port
entered-too vc world shadow alone port here =
    let place : is_came ((alone_in vc world).places port) ≡ true =
    ap (λ (o : Option PortState). is_came (place_of world.shape.side vc world.loaded (connection_in world.connections vc) o)) here.had
    ∙ ap (λ b. is_came (cond b (came here.cell here.moment) idle)) here.own in
    came-entered vc shadow port (slice_get shadow.ports port) refl (ap (λ (a : Alone). is_came (a.places port)) alone ∙ place)

pub picked-too : (vc : Vc) (world shadow : World) → alone_in vc shadow ≡ alone_in vc world → (port : ℕ) → HasPicked vc world port → HasPicked vc shadow port
picked-too vc world shadow alone port here =
    let place : is_looked ((alone_in vc world).places port) ≡ true =
    ap (λ (o : Option PortState). is_looked (place_of world.shape.side vc world.loaded (connection_in world.connections vc) o)) here.had
    ∙ ap (λ b. is_looked (cond b (looked here.picking.cell here.picking.moment here.picking.value (code_in world.loaded here.picking.program)
    (is_current (connection_in world.connections vc) here.picking)) idle)) here.own in
    looked-picked vc shadow port (slice_get shadow.ports port) refl (ap (λ (a : Alone). is_looked (a.places port)) alone ∙ place)

-- If no port of the world has a cell, no port of the shadow has one.

outside-all : (ports : List PortState) → ((port : ℕ) (state : PortState) → slice_get ports port ≡ Some state → state ≡ outside)
    → list_all is_outside ports ≡ true
outside-all [] all = refl
outside-all (first ∷ later) all =
    let rest = outside-all later (λ port state at. all (suc port) state at) in
    ap (λ (s : PortState). is_outside s && list_all is_outside later) (all zero first refl) ∙ rest

none-inside : (side : Side) (kept : Vc → Bool) (ports : List PortState) → list_all is_outside ports ≡ true → (port : ℕ)
    → has_kept_in side kept (slice_get ports port) ≡ false
none-inside side kept [] all port = refl
none-inside side kept (outside ∷ later) all zero = refl
none-inside side kept (entered cell moment ∷ later) all zero = absurd (cc)
none-inside side kept (picked picking ∷ later) all zero = absurd (cc)
none-inside side kept (first ∷ later) all (suc port) =
    none-inside side kept later (and_parts (is_outside first) (list_all is_outside later) all).1 port

pub idle-too : (kept : Vc → Bool) (world shadow : World) → Shadows kept world shadow → list_all is_outside world.ports ≡ true
    → list_all is_outside shadow.ports ≡ true
idle-too kept world shadow s all =
    outside-all shadow.ports (λ port state at.
    s.ports port state at
    (ap (has_kept_in shadow.shape.side kept) (sym at)
    ∙ none-too kept world shadow s port (none-inside world.shape.side kept world.ports all port)))

-- The shadow has a kept connection if the world has it.

is_there : {X Y : Type 0} (f : X → Y) (o : Option X) → is_some (option_map f o) ≡ is_some o
is_there f None = refl
is_there f (Some x) = refl

pub found-too : (vc : Vc) (world shadow : World) → holding_of vc shadow ≡ holding_of vc world
    → is_some (connection_in shadow.connections vc) ≡ is_some (connection_in world.connections vc)
found-too vc world shadow holding =
    sym (is_there held (connection_in shadow.connections vc))
    ∙ ap (λ (o : Option Holding). is_some o) holding
    ∙ is_there held (connection_in world.connections vc)

-- If no connection of the world holds something, none of the shadow does.
pub unheld-too : (kept : Vc → Bool) (world shadow : World) → Shadows kept world shadow → WorldInvariant shadow → (test : Holding → Bool)
    → list_any (λ here. test (held here.1)) world.connections ≡ false → list_any (λ here. test (held here.1)) shadow.connections ≡ false
unheld-too kept world shadow s sound test none =
    let holds : (Vc × Connection) → Bool = λ here. test (held here.1) in
    let choice : (b : Bool) → list_any holds shadow.connections ≡ b → b ≡ false = elim [
      | true ↦ λ e.
          let found = tested-connection shadow.connections holds e in
          let known = sound.connections.once found.0 found.1 in
          let own : (b : Bool) → kept found.0.0 ≡ b → ⊥ = elim [
            | true ↦ λ is.
                let there = mapped held (connection_in world.connections found.0.0) (held found.0.1)
                (sym (s.holding found.0.0 is) ∙ ap (option_map held) known) in
                let some : list_any holds world.connections ≡ true =
                connection-passes holds world.connections found.0.0 there.0 there.1
                (λ other. subst (λ (h : Holding). test h ≡ true) there.2 found.2) in
                cc
            | false ↦ λ isnt. let no = s.others found.0.0 isnt in cc
          ] in
          absurd (own (kept found.0.0) refl)
      | false ↦ λ e. refl
    ] in
    choice (list_any holds shadow.connections) refl

-- An own event of both with the same act is the same event, with the same effect on the connection.

pub record AreOne (vc : Vc) (world shadow : World) (step : Step) (reply answered : Reply) (after later : World) : Type 0 where
  pub event : own_event shadow.shape.side vc (notes_in vc shadow) answered step ≡ own_event world.shape.side vc (notes_in vc world) reply step
  pub alone : alone_in vc later ≡ alone_in vc after

pub are-one : (vc : Vc) (world shadow : World) (step : Step) (reply answered : Reply) (after later : World) (one other : OwnEvent)
    → shadow.shape ≡ world.shape → alone_in vc shadow ≡ alone_in vc world
    → StepEffect vc world step reply after → StepEffect vc shadow step answered later
    → own_event world.shape.side vc (notes_in vc world) reply step ≡ Some one
    → own_event shadow.shape.side vc (notes_in vc shadow) answered step ≡ Some other
    → other.act ≡ one.act
    → AreOne vc world shadow step reply answered after later
are-one vc world shadow step reply answered after later one other shape alone effect effect_too is is_too act =
    let does : Does world.shape.journal (alone_in vc world) one (alone_in vc after) =
    subst (λ (o : Option OwnEvent). Goes world.shape.journal o (alone_in vc world) (alone_in vc after)) is effect.own in
    let at_shadow : Does shadow.shape.journal (alone_in vc shadow) other (alone_in vc later) =
    subst (λ (o : Option OwnEvent). Goes shadow.shape.journal o (alone_in vc shadow) (alone_in vc later)) is_too effect_too.own in
    let at_shape : Does world.shape.journal (alone_in vc shadow) other (alone_in vc later) =
    subst (λ (x : Shape). Does x.journal (alone_in vc shadow) other (alone_in vc later)) shape at_shadow in
    let does_too : Does world.shape.journal (alone_in vc world) other (alone_in vc later) =
    subst (λ (a : Alone). Does world.shape.journal a other (alone_in vc later)) alone at_shape in
    let outcome : other.outcome ≡ one.outcome =
    does_too.outcome ∙ ap (outcome_alone world.shape.journal (alone_in vc world)) act ∙ sym does.outcome in
    record {
      event = is_too
          ∙ ap (λ (a : Act). Some (event_with a other.outcome)) act
          ∙ ap (λ o. Some (event_with one.act o)) outcome
          ∙ sym is;
      alone = one-next world.shape.journal (alone_in vc world) one.act (alone_in vc later) (alone_in vc after)
          (subst (λ (a : Act). Next world.shape.journal (alone_in vc world) a (alone_in vc later)) act does_too.next) does.next;
    }

-- A step that is no own event of either has the same effect on both.
pub are-none : (vc : Vc) (world shadow : World) (step : Step) (reply answered : Reply) (after later : World)
    → alone_in vc shadow ≡ alone_in vc world → StepEffect vc world step reply after → StepEffect vc shadow step answered later
    → own_event world.shape.side vc (notes_in vc world) reply step ≡ None
    → own_event shadow.shape.side vc (notes_in vc shadow) answered step ≡ None
    → AreOne vc world shadow step reply answered after later
are-none vc world shadow step reply answered after later alone effect effect_too none none_too =
    let same : alone_in vc after ≡ alone_in vc world =
    subst (λ (o : Option OwnEvent). Goes world.shape.journal o (alone_in vc world) (alone_in vc after)) none effect.own in
    let same_too : alone_in vc later ≡ alone_in vc shadow =
    subst (λ (o : Option OwnEvent). Goes shadow.shape.journal o (alone_in vc shadow) (alone_in vc later)) none_too effect_too.own in
    record { event = none_too ∙ sym none; alone = same_too ∙ alone ∙ sym same }
