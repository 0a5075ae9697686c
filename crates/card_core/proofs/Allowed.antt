-- The effect of a step that leads somewhere, and facts about a step that isn't refused.
use Rattle.std.proofs.Common.{◌≡◌, ◌≢◌, ◌⊎◌, ℕ, zero, suc, ◌^◌, ◌<◌, ◌≤◌, ◌==◌, Bool, true, false, cond, not, List, [], ◌∷◌, length, Option, Some, None, IsSome, is_none, is_some, slice_get, nat_lt, nat_le, MatchOption, option_map, refl, ap, subst, inl, inr, arith}
use Rattle.std.specs.List.{list_any, list_all}
use Rattle.std.proofs.lemmas.Bool.{and_parts, not-true, not-false, eqb-true, eqb-false, eq-eqb, ltb-false, leb-false}
use Rattle.upc_cell.specs.declared.vc.Vc.{Vc}
use Rattle.gen_arena.specs.declared.id.Id.{Id}
use Rattle.line_record.specs.History.{last_moment}
use Rattle.card_core.specs.declared.ask.Ask.{Ask}
use Rattle.card_core.specs.declared.reply.Reply.{Reply}
use Rattle.card_core.specs.declared.reply.Reply.TheVariants.{Answered}
use Rattle.card_core.specs.declared.step.Step.{Step}
use Rattle.card_core.specs.declared.step.Step.TheVariants.{Judge, Retire, Setup}
use Rattle.card_core.specs.World.{World, Connection, Picking, PortState, picked, is_outside, code_in, kept_cells, connection_in, is_busy, any_below, is_named, is_open_line}
use Rattle.card_core.specs.Refusals.{refusal, judge_refusal, picking_refusal, cell_refusal, retire_fault, setup_fault}
use Rattle.card_core.specs.Steps.{Succeeds, FindsNoMemory, IsRefused, WorldStep}
use Rattle.card_core.proofs.LookUps.{same_some, passed_on, unmapped, is_there, is_missing, IsSome-of}
use Rattle.card_core.proofs.ConnectionLemmas.{connection_passes}

-- A step that leads somewhere succeeded, failed to allocate, or was refused.
pub data StepCase (before : World) (step : Step) (reply : Reply) (after : World) : Type 0 where
  succeeded : refusal before step ≡ None → Succeeds before step reply after → StepCase before step reply after
  starved : FindsNoMemory before step reply after → StepCase before step reply after
  rejected : (refused : Reply) → refusal before step ≡ Some refused → IsRefused before step refused reply after
      → StepCase before step reply after

pub step-case : (before : World) (step : Step) (reply : Reply) (after : World) → WorldStep before step reply after
    → StepCase before step reply after
step-case before step reply after w =
    let choice : (o : Option Reply) → refusal before step ≡ o
    → MatchOption o (Succeeds before step reply after ⊎ FindsNoMemory before step reply after)
    (λ refused. IsRefused before step refused reply after)
    → StepCase before step reply after = elim [
      | None ↦ λ e w. elim w [
        | inl success ↦ succeeded e success
        | inr memory ↦ starved memory
      ]
      | Some refused ↦ λ e w. rejected refused e w
    ] in
    choice (refusal before step) refl w

-- Facts about a cell that isn't refused.
pub record IsAllowed (world : World) (connection : Connection) (moment : ℕ) : Type 0 where
  pub early : moment ≤ 2 ^ 62
  pub forward : last_moment 0 connection.history ≤ moment
  pub kept : length (kept_cells connection) < world.shape.journal
  pub counted : length (world.verdicts connection.line) < 2 ^ 62

pub cell-allowed : (world : World) (connection : Connection) (moment : ℕ)
    → cell_refusal world connection moment ≡ None → IsAllowed world connection moment
cell-allowed world connection moment e =
    let one = passed_on (nat_lt (2 ^ 62) moment) _ _ e in
    let two = passed_on (nat_lt moment (last_moment 0 connection.history)) _ _ one.1 in
    let three = passed_on (nat_le world.shape.journal (length (kept_cells connection))) _ _ two.1 in
    let four = passed_on (nat_le (2 ^ 62) (length (world.verdicts connection.line))) _ _ three.1 in
    record {
      early = ltb-false (2 ^ 62) moment one.0;
      forward = ltb-false moment (last_moment 0 connection.history) two.0;
      kept = leb-false world.shape.journal (length (kept_cells connection)) three.0;
      counted = leb-false (2 ^ 62) (length (world.verdicts connection.line)) four.0;
    }

-- A picked cell that isn't refused is on the picked connection.
pub picking-allowed : (world : World) (port : ℕ) (picking : Picking) (connection : Connection)
    → slice_get world.ports port ≡ Some (picked picking)
    → connection_in world.connections picking.vc ≡ Some connection
    → refusal world (Judge port) ≡ None
    → (connection.incarnation ≡ picking.incarnation) × IsAllowed world connection picking.moment
picking-allowed world port picking connection had found e =
    let at_port : judge_refusal world (Some (picked picking)) ≡ None =
    subst (λ (o : Option PortState). judge_refusal world o ≡ None) had e in
    let at_picking : picking_refusal world picking (Some connection) ≡ None =
    unmapped Answered (picking_refusal world picking (Some connection))
    (subst (λ (o : Option Connection). option_map Answered (picking_refusal world picking o) ≡ None) found at_port) in
    let choice : (b : Bool) → (connection.incarnation == picking.incarnation) ≡ b
    → cond b (cell_refusal world connection picking.moment) (picking_refusal world picking None) ≡ None
    → (connection.incarnation ≡ picking.incarnation) × IsAllowed world connection picking.moment = elim [
      | true ↦ λ same rest. (
        eqb-true connection.incarnation picking.incarnation same,
        cell-allowed world connection picking.moment rest,
      )
      | false ↦ λ differs rest. absurd (cc)
    ] in
    choice (connection.incarnation == picking.incarnation) refl at_picking

-- Facts about a setup that isn't refused.
pub record MaySetUp (before : World) (ask : Ask) : Type 0 where
  pub live : IsSome (code_in before.live ask.program)
  pub free : connection_in before.connections ask.vc ≡ None
  pub some : 0 < length ask.contracts.items
  pub used : before.incarnations < 2 ^ 62

pub setup-allowed : (before : World) (ask : Ask) → refusal before (Setup ask) ≡ None → MaySetUp before ask
setup-allowed before ask allowed =
    let one = passed_on (is_none (code_in before.live ask.program)) _ _ (unmapped _ (setup_fault before ask) allowed) in
    let two = passed_on (is_some (connection_in before.connections ask.vc)) _ _ one.1 in
    let three = passed_on (length ask.contracts.items == 0) _ _ two.1 in
    let four = passed_on (not (any_below before.shape.lines (is_open_line before))) _ _ three.1 in
    let five = passed_on (nat_le (2 ^ 62) before.incarnations) _ _ four.1 in
    let code = is_there (code_in before.live ask.program) one.0 in
    let empty : length ask.contracts.items ≢ 0 = eqb-false (length ask.contracts.items) 0 three.0 in
    record {
      live = IsSome-of (code_in before.live ask.program) code.0 code.1;
      free = is_missing (connection_in before.connections ask.vc) two.0;
      some = omega (arith, empty);
      used = leb-false (2 ^ 62) before.incarnations five.0;
    }

-- The line of a connection isn't open.
pub line-held : (before : World) (line : ℕ) → is_open_line before line ≡ true
    → (other : Vc) (another : Connection) → connection_in before.connections other ≡ Some another → another.line ≢ line
line-held before line free other another found same =
    let none = not-true (list_any (λ (here : Vc × Connection). here.1.line == line) before.connections) free in
    let some = connection_passes (λ here. here.1.line == line) before.connections other another found
    (λ vc. eq-eqb another.line line same) in
    absurd (cc)

-- If no port has a cell, no port has a picked cell.
pub none_picked : (ports : List PortState) → list_all is_outside ports ≡ true → (port : ℕ) (picking : Picking)
    → slice_get ports port ≡ Some (picked picking) → ⊥
none_picked [] all port picking e = absurd (cc)
none_picked (first ∷ later) all zero picking e =
    let is : first ≡ picked picking = same_some first (picked picking) e in
    let out : is_outside first ≡ true = (and_parts (is_outside first) (list_all is_outside later) all).0 in
    let in_cell : is_outside first ≡ false = ap is_outside is in
    absurd (cc)
none_picked (first ∷ later) all (suc port) picking e =
    none_picked later (and_parts (is_outside first) (list_all is_outside later) all).1 port picking e

-- Facts about a retirement that isn't refused.
pub record MayRetire (before : World) (id : Id) : Type 0 where
  pub idle : list_all is_outside before.ports ≡ true
  pub live : IsSome (code_in before.live id)
  pub unnamed : is_named before id ≡ false

pub retire-allowed : (before : World) (id : Id) → refusal before (Retire id) ≡ None → MayRetire before id
retire-allowed before id allowed =
    let one = passed_on (is_busy before) _ _ (unmapped _ (retire_fault before id) allowed) in
    let two = passed_on (is_none (code_in before.live id)) _ _ one.1 in
    let three = passed_on (is_named before id) _ _ two.1 in
    let code = is_there (code_in before.live id) two.0 in
    record {
      idle = not-false (list_all is_outside before.ports) one.0;
      live = IsSome-of (code_in before.live id) code.0 code.1;
      unnamed = three.0;
    }
