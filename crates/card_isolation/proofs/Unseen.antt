-- Steps that no kept connection sees.
use Rattle.std.proofs.Common.{◌≡◌, ◌⊎◌, ℕ, ◌+◌, ◌≤◌, Bool, true, false, List, length, Option, Some, None, MatchOption, slice_get, option_map, refl, sym, ap, ◌∙◌, subst, inl, inr, arith}
use Rattle.upc_cell.specs.declared.side.Side.{Side}
use Rattle.upc_cell.specs.declared.vc.Vc.{Vc}
use Rattle.upc_cell.specs.Connection.{vc_of}
use Rattle.gen_arena.specs.declared.id.Id.{Id}
use Rattle.card_core.specs.declared.ask.Ask.{Ask}
use Rattle.card_core.specs.declared.reply.Reply.{Reply}
use Rattle.card_core.specs.declared.reply.Reply.TheVariants.{NotNow, Entered, Picked, Answered, SetUp, Reloaded, Released, Cut as CutOff}
use Rattle.card_core.specs.declared.step.Step.{Step}
use Rattle.card_core.specs.declared.step.Step.TheVariants.{Enter, Pick, Judge, Setup, Reload, Release, Cut}
use Rattle.card_core.specs.World.{World, Connection, PortState, entered, picked, code_in, with_port, with_connection, without_connection}
use Rattle.card_core.specs.Refusals.{refusal}
use Rattle.card_core.specs.Steps.{Enters, SetsUp, Reloads, Releases, Cuts, Succeeds, FindsNoMemory, IsRefused, WorldStep, new_connection, cell_of_picking, with_cell, left_by, left_by_pick, left_by_judge}
use Rattle.card_isolation.specs.Act.{enters, looks_up, judges, sets_up, reloads, releases, cuts}
use Rattle.card_isolation.specs.Outcome.{done, named_before, outcome_of, outcome_of_piece}
use Rattle.card_isolation.specs.OwnEvents.{Notes, own_where, own_event}
use Rattle.card_isolation.proofs.Connections.{with-others, without-others}
use Rattle.card_isolation.proofs.Views.{notes_in}
use Rattle.card_isolation.proofs.Shadow.{held, holding_of, has_kept_in, none-kept, are-apart}

-- The step is no event of a kept connection, and changes neither the programs nor what kept connections hold.
pub record IsUnseen (kept : Vc → Bool) (before : World) (step : Step) (reply : Reply) (after : World) : Type 0 where
  pub none : (vc : Vc) → kept vc ≡ true → own_event before.shape.side vc (notes_in vc before) reply step ≡ None
  pub loaded : after.loaded ≡ before.loaded
  pub live : after.live ≡ before.live
  pub holding : (vc : Vc) → kept vc ≡ true → holding_of vc after ≡ holding_of vc before
  pub incarnations : before.incarnations ≤ after.incarnations

-- The reply and the world after a step, replaced by equal ones.
pub unseen-at : (kept : Vc → Bool) (before : World) (step : Step) (one other : Reply) (after later : World)
    → one ≡ other → after ≡ later → IsUnseen kept before step other later → IsUnseen kept before step one after
unseen-at kept before step one other after later same leads unseen =
    subst (λ (r : Reply). IsUnseen kept before step r after) (sym same)
    (subst (λ (w : World). IsUnseen kept before step other w) (sym leads) unseen)

-- Steps for a connection that isn't kept.

module _ (kept : Vc → Bool) (before : World) where
  pub unseen-enters : (port : ℕ) (cell : List ℕ) (moment : ℕ) (reply : Reply) (after : World) → kept (vc_of before.shape.side cell) ≡ false
      → Enters before port cell moment reply after → IsUnseen kept before (Enter port cell moment) reply after
  unseen-enters port cell moment reply after other w =
      unseen-at kept before (Enter port cell moment) reply Entered after (with_port before port (entered cell moment)) w.answer w.world (record {
        none = λ vc is. ap (λ b. own_where b (enters port cell moment) done) (are-apart kept vc (vc_of before.shape.side cell) true is other);
        loaded = refl;
        live = refl;
        holding = λ vc is. refl;
        incarnations = omega (arith);
      })

  pub unseen-sets_up : (ask : Ask) (reply : Reply) (after : World) → kept ask.vc ≡ false → SetsUp before ask reply after
      → IsUnseen kept before (Setup ask) reply after
  unseen-sets_up ask reply after other w =
      let new : Connection = new_connection ask w.line (before.incarnations + 1) in
      unseen-at kept before (Setup ask) reply (SetUp (record { vc = ask.vc; incarnation = before.incarnations + 1 })) after
      (record before { connections = with_connection before.connections ask.vc new; incarnations = before.incarnations + 1 }) w.answer w.world (record {
        none = λ vc is.
            ap (λ b. own_where b (sets_up ask.contracts.items (code_in before.loaded ask.program)) done) (are-apart kept vc ask.vc true is other);
        loaded = refl;
        live = refl;
        holding = λ vc is. ap (option_map held) (with-others before.connections ask.vc vc new (are-apart kept vc ask.vc true is other));
        incarnations = omega (arith);
      })

  pub unseen-reloads : (other : Vc) (program : Id) (reply : Reply) (after : World) → kept other ≡ false
      → Reloads before other program reply after → IsUnseen kept before (Reload other program) reply after
  unseen-reloads other program reply after isnt w =
      let new : Connection = record w.connection { program = program } in
      unseen-at kept before (Reload other program) reply (Reloaded w.connection.program) after
      (record before { connections = with_connection before.connections other new }) w.answer w.world (record {
        none = λ vc is.
            ap (λ b. own_where b (reloads (code_in before.loaded program)) (named_before (code_in before.loaded w.connection.program)))
            (are-apart kept vc other true is isnt);
        loaded = refl;
        live = refl;
        holding = λ vc is. ap (option_map held) (with-others before.connections other vc new (are-apart kept vc other true is isnt));
        incarnations = omega (arith);
      })

  pub unseen-cuts : (other : Vc) (reply : Reply) (after : World) → kept other ≡ false
      → Cuts before other reply after → IsUnseen kept before (Cut other) reply after
  unseen-cuts other reply after isnt w =
      let new : Connection = record w.connection { returned = length w.connection.history } in
      unseen-at kept before (Cut other) reply (CutOff w.piece) after
      (record before { connections = with_connection before.connections other new }) w.answer w.world (record {
        none = λ vc is. ap (λ b. own_where b cuts (outcome_of_piece w.piece)) (are-apart kept vc other true is isnt);
        loaded = refl;
        live = refl;
        holding = λ vc is. ap (option_map held) (with-others before.connections other vc new (are-apart kept vc other true is isnt));
        incarnations = omega (arith);
      })

  pub unseen-releases : (other : Vc) (reply : Reply) (after : World) → kept other ≡ false
      → Releases before other reply after → IsUnseen kept before (Release other) reply after
  unseen-releases other reply after isnt w =
      unseen-at kept before (Release other) reply (Released w.piece) after
      (record before { connections = without_connection before.connections other }) w.answer w.world (record {
        none = λ vc is. ap (λ b. own_where b releases (outcome_of_piece w.piece)) (are-apart kept vc other true is isnt);
        loaded = refl;
        live = refl;
        holding = λ vc is. ap (option_map held) (without-others before.connections other vc (are-apart kept vc other true is isnt));
        incarnations = omega (arith);
      })

-- Any answer at a port without a cell of the connection.

pub none-picked : (side : Side) (vc : Vc) (notes : Notes) (port : ℕ) → notes.has_own port ≡ false → (reply : Reply)
    → own_event side vc notes reply (Pick port) ≡ None
none-picked side vc notes port none Picked = ap (λ b. own_where b (looks_up port) done) none
none-picked side vc notes port none (Answered answer) = ap (λ b. own_where b (looks_up port) (outcome_of notes.codes answer)) none
none-picked side vc notes port none _ = refl

pub none-judged : (side : Side) (vc : Vc) (notes : Notes) (port : ℕ) → notes.has_own port ≡ false → (reply : Reply)
    → own_event side vc notes reply (Judge port) ≡ None
none-judged side vc notes port none (Answered answer) = ap (λ b. own_where b (judges port) (outcome_of notes.codes answer)) none
none-judged side vc notes port none _ = refl

-- The step is no event of a kept connection, and changes at most its port.
abbrev pub unseen-here : (kept : Vc → Bool) (before : World) (step : Step) (reply : Reply) (ports : List PortState)
    → ((vc : Vc) → kept vc ≡ true → own_event before.shape.side vc (notes_in vc before) reply step ≡ None)
    → IsUnseen kept before step reply (record before { ports = ports })
unseen-here kept before step reply ports none =
    record { none = none; loaded = refl; live = refl; holding = λ vc is. refl; incarnations = omega (arith) }

unseen-left_by_pick : (kept : Vc → Bool) (before : World) (port : ℕ) (reply : Reply)
    → ((vc : Vc) → kept vc ≡ true → own_event before.shape.side vc (notes_in vc before) reply (Pick port) ≡ None) → (o : Option PortState)
    → IsUnseen kept before (Pick port) reply (left_by_pick before port o)
unseen-left_by_pick kept before port reply none (Some (entered cell moment)) = unseen-here kept before (Pick port) reply _ none
unseen-left_by_pick kept before port reply none _ = unseen-here kept before (Pick port) reply before.ports none

unseen-left_by_judge : (kept : Vc → Bool) (before : World) (port : ℕ) (reply : Reply)
    → ((vc : Vc) → kept vc ≡ true → own_event before.shape.side vc (notes_in vc before) reply (Judge port) ≡ None) → (o : Option PortState)
    → IsUnseen kept before (Judge port) reply (left_by_judge before port o)
unseen-left_by_judge kept before port reply none (Some (picked picking)) = unseen-here kept before (Judge port) reply _ none
unseen-left_by_judge kept before port reply none _ = unseen-here kept before (Judge port) reply before.ports none

pub unseen-picks : (kept : Vc → Bool) (before : World) (port : ℕ) (reply : Reply) (after : World)
    → has_kept_in before.shape.side kept (slice_get before.ports port) ≡ false → WorldStep before (Pick port) reply after
    → IsUnseen kept before (Pick port) reply after
unseen-picks kept before port reply after none w =
    let no_event : (r : Reply) (vc : Vc) → kept vc ≡ true → own_event before.shape.side vc (notes_in vc before) r (Pick port) ≡ None = λ r vc is.
    none-picked before.shape.side vc (notes_in vc before) port (none-kept before.shape.side kept vc is (slice_get before.ports port) none) r in
    let choice : (o : Option Reply) → refusal before (Pick port) ≡ o
    → MatchOption o (Succeeds before (Pick port) reply after ⊎ FindsNoMemory before (Pick port) reply after)
    (λ refused. IsRefused before (Pick port) refused reply after)
    → IsUnseen kept before (Pick port) reply after = elim [
      | None ↦ λ e w. elim w [
        | inl success ↦
            unseen-at kept before (Pick port) reply reply after _ refl success.world
            (unseen-here kept before (Pick port) reply _ (no_event reply))
        | inr memory ↦ let no = memory.answer in absurd (cc)
      ]
      | Some refused ↦ λ e w.
          unseen-at kept before (Pick port) reply reply after _ refl w.world
          (unseen-left_by_pick kept before port reply (no_event reply) (slice_get before.ports port))
    ] in
    choice (refusal before (Pick port)) refl w

pub unseen-judges : (kept : Vc → Bool) (before : World) (port : ℕ) (reply : Reply) (after : World)
    → has_kept_in before.shape.side kept (slice_get before.ports port) ≡ false → WorldStep before (Judge port) reply after
    → IsUnseen kept before (Judge port) reply after
unseen-judges kept before port reply after none w =
    let no_event : (r : Reply) (vc : Vc) → kept vc ≡ true → own_event before.shape.side vc (notes_in vc before) r (Judge port) ≡ None = λ r vc is.
    none-judged before.shape.side vc (notes_in vc before) port (none-kept before.shape.side kept vc is (slice_get before.ports port) none) r in
    let choice : (o : Option Reply) → refusal before (Judge port) ≡ o
    → MatchOption o (Succeeds before (Judge port) reply after ⊎ FindsNoMemory before (Judge port) reply after)
    (λ refused. IsRefused before (Judge port) refused reply after)
    → IsUnseen kept before (Judge port) reply after = elim [
      | None ↦ λ e w. elim w [
        | inl success ↦
            let isnt : kept success.picking.vc ≡ false = ap (has_kept_in before.shape.side kept) (sym success.had) ∙ none in
            unseen-at kept before (Judge port) reply reply after _ refl success.world (record {
              none = no_event reply;
              loaded = refl;
              live = refl;
              holding = λ vc is.
                  ap (option_map held)
                  (with-others before.connections success.picking.vc vc (with_cell success.connection (cell_of_picking success.picking))
                  (are-apart kept vc success.picking.vc true is isnt));
              incarnations = omega (arith);
            })
        | inr memory ↦ let no = memory.answer in absurd (cc)
      ]
      | Some refused ↦ λ e w.
          unseen-at kept before (Judge port) reply reply after _ refl w.world
          (unseen-left_by_judge kept before port reply (no_event reply) (slice_get before.ports port))
    ] in
    choice (refusal before (Judge port)) refl w

-- A step that changes nothing and is no connection's event.
pub unseen-unchanged : (kept : Vc → Bool) (before : World) (step : Step) (reply same_reply : Reply) (after : World) → reply ≡ same_reply → after ≡ before
    → ((vc : Vc) → own_event before.shape.side vc (notes_in vc before) same_reply step ≡ None) → IsUnseen kept before step reply after
unseen-unchanged kept before step reply same_reply after answer leads none =
    unseen-at kept before step reply same_reply after before answer leads
    (unseen-here kept before step same_reply before.ports (λ vc is. none vc))

-- A step that doesn't fit the state of its port.
pub unseen-not_now : (kept : Vc → Bool) (before : World) (step : Step) (reply : Reply) (after : World) → refusal before step ≡ Some NotNow
    → left_by before step ≡ before → WorldStep before step reply after → IsUnseen kept before step reply after
unseen-not_now kept before step reply after e left w =
    let refused : IsRefused before step NotNow reply after =
    subst (λ (o : Option Reply). MatchOption o (Succeeds before step reply after ⊎ FindsNoMemory before step reply after)
    (λ refused. IsRefused before step refused reply after)) e w in
    unseen-unchanged kept before step reply NotNow after refused.answer (refused.world ∙ left) (λ vc. refl)
