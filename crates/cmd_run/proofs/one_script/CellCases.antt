-- The results of the steps of a cell at port 0: it enters, is picked or has no connection, and is judged or refused.
use Rattle.std.proofs.Common.{◌≡◌, ◌⊎◌, ℕ, inl, inr, Bool, true, false, if◌then◌else◌, List, [], ◌∷◌, Option, Some, None, is_none, slice_get, option_map, refl, sym, ap, ◌∙◌, subst}
use Rattle.std.specs.Prelude.{slice_set}
use Rattle.std.specs.Option.{MatchOption}
use Rattle.std.proofs.lemmas.Bool.{eq-eqb}
use Rattle.std.proofs.lemmas.Option.{same_Some}
use Rattle.upc_cell.specs.Connection.{vc_of}
use Rattle.bpf_code.specs.declared.instr.Instr.{Instr}
use Rattle.card_core.specs.Refusals.{cell_refusal, enter_refusal, judge_refusal, pick_refusal, picking_refusal, refusal}
use Rattle.card_core.specs.Steps.{Enters, FindsNoMemory, Gives, IsRefused, Judges, Picks, WorldStep, judged_world, judged_answer, left_by_judge, left_by_pick, picking_of}
use Rattle.card_core.specs.World.{Connection, Picking, PortState, World, code_in, connection_in, entered, outside, picked, with_port}
use Rattle.card_core.specs.declared.answer.Answer.{Answer}
use Rattle.card_core.specs.declared.answer.Answer.TheVariants as answer
use Rattle.card_core.specs.declared.reply.Reply.{Reply}
use Rattle.card_core.specs.declared.reply.Reply.TheVariants.{Answered, Entered, Picked}
use Rattle.card_core.specs.declared.step.Step.TheVariants.{Enter, Judge, Pick}
use Rattle.cmd_run.specs.inner.PortZero.{PortIs}

-- A state that is written to place 0 is there.
pub put-there : (ports : List PortState) (old new : PortState) → slice_get ports 0 ≡ Some old → slice_get (slice_set ports 0 new) 0 ≡ Some new
put-there [] old new e = absurd (cc)
put-there (state ∷ ports) old new e = refl

-- After its cell was answered, the ports are as they were before it entered.
pub put-back : (ports : List PortState) (state : PortState) → slice_get ports 0 ≡ Some outside → slice_set (slice_set ports 0 state) 0 outside ≡ ports
put-back [] state e = absurd (cc)
put-back (here ∷ ports) state e = ap (λ first. first ∷ ports) (sym (same_Some here outside e))

pub put-back_twice : (ports : List PortState) (state other : PortState) → slice_get ports 0 ≡ Some outside
    → slice_set (slice_set (slice_set ports 0 state) 0 other) 0 outside ≡ ports
put-back_twice [] state other e = absurd (cc)
put-back_twice (here ∷ ports) state other e = ap (λ first. first ∷ ports) (sym (same_Some here outside e))

-- A cell that entered is at the port.
pub entered-as : (before after : World) (cell : List ℕ) (moment : ℕ) → PortIs before outside
    → WorldStep before (Enter 0 cell moment) Entered after → after ≡ with_port before 0 (entered cell moment)
entered-as before after cell moment free step =
    let Cases : Option PortState → Type 0 = λ o. MatchOption (enter_refusal o)
    (Enters before 0 cell moment Entered after ⊎ FindsNoMemory before (Enter 0 cell moment) Entered after)
    (λ refused. IsRefused before (Enter 0 cell moment) refused Entered after) in
    let found : Enters before 0 cell moment Entered after ⊎ FindsNoMemory before (Enter 0 cell moment) Entered after = subst Cases free step in
    elim found [
      | inl goes ↦ goes.world
      | inr lacks ↦ let no = lacks.answer in absurd (cc)
    ]

-- The result of a pick of an entered cell: its virtual connection has no connection, or it is picked with a value of
-- the program that the connection names.
pub data PickCase (before : World) (cell : List ℕ) (moment : ℕ) (reply : Reply) (after : World) : Type 0 where
  missed_so : connection_in before.connections (vc_of before.shape.side cell) ≡ None → reply ≡ Answered answer.NoConnection
      → after ≡ with_port before 0 outside → PickCase before cell moment reply after
  found_so : (connection : Connection) → connection_in before.connections (vc_of before.shape.side cell) ≡ Some connection
      → (code : List Instr) → code_in before.loaded connection.program ≡ Some code
      → (value : ℕ) → Gives code cell value → reply ≡ Picked
      → after ≡ with_port before 0 (picked (picking_of cell moment (vc_of before.shape.side cell) connection value))
      → PickCase before cell moment reply after

is-missing : {X : Type 0} (found : Option X) → is_none found ≡ true → found ≡ None
is-missing None e = refl
is-missing (Some x) e = absurd (cc)

picks-case : (before after : World) (cell : List ℕ) (moment : ℕ) (reply : Reply) → PortIs before (entered cell moment)
    → Picks before 0 reply after → PickCase before cell moment reply after
picks-case before after cell moment reply had goes =
    let same : entered goes.cell goes.moment ≡ entered cell moment = same_Some _ _ (sym goes.had ∙ had) in
    let cells : goes.cell ≡ cell = cc in
    let moments : goes.moment ≡ moment = cc in
    let as_it_was : PickCase before goes.cell goes.moment reply after =
    found_so goes.connection goes.found goes.code goes.named goes.value goes.gives goes.answer goes.world in
    subst (λ (c : List ℕ). PickCase before c moment reply after) cells (subst (λ n. PickCase before goes.cell n reply after) moments as_it_was)

pub pick-case : (before after : World) (cell : List ℕ) (moment : ℕ) (reply : Reply) → PortIs before (entered cell moment)
    → WorldStep before (Pick 0) reply after → PickCase before cell moment reply after
pick-case before after cell moment reply had step =
    let Cases : Option PortState → Type 0 = λ o. MatchOption (pick_refusal before o)
    (Picks before 0 reply after ⊎ FindsNoMemory before (Pick 0) reply after) (λ refused. IsRefused before (Pick 0) refused reply after) in
    by (is_none (connection_in before.connections (vc_of before.shape.side cell))) refl (subst Cases had step)
  where
    by : (b : Bool) → is_none (connection_in before.connections (vc_of before.shape.side cell)) ≡ b
        → MatchOption (if b then Some (Answered answer.NoConnection) else None)
        (Picks before 0 reply after ⊎ FindsNoMemory before (Pick 0) reply after) (λ refused. IsRefused before (Pick 0) refused reply after)
        → PickCase before cell moment reply after
    by true e is = missed_so (is-missing (connection_in before.connections (vc_of before.shape.side cell)) e) is.answer (is.world ∙ ap (left_by_pick before 0) had)
    by false e (inl goes) = picks-case before after cell moment reply had goes
    by false e (inr lacks) = let no = lacks.answer in absurd (cc)

-- The result of judging a picked cell whose connection exists: it is judged, or there is a reason to refuse it.
pub data JudgeCase (before : World) (picking : Picking) (connection : Connection) (reply : Reply) (after : World) : Type 0 where
  judged_so : cell_refusal before connection picking.moment ≡ None → reply ≡ Answered (judged_answer before picking connection)
      → after ≡ judged_world before 0 picking connection → JudgeCase before picking connection reply after
  refused_so : (given : Answer) → cell_refusal before connection picking.moment ≡ Some given → reply ≡ Answered given
      → after ≡ with_port before 0 outside → JudgeCase before picking connection reply after

judges-case : (before after : World) (picking : Picking) (connection : Connection) (reply : Reply) → PortIs before (picked picking)
    → connection_in before.connections picking.vc ≡ Some connection → cell_refusal before connection picking.moment ≡ None
    → Judges before 0 reply after → JudgeCase before picking connection reply after
judges-case before after picking connection reply had found allowed goes =
    let states : picked goes.picking ≡ picked picking = same_Some _ _ (sym goes.had ∙ had) in
    let pickings : goes.picking ≡ picking = cc in
    let there : connection_in before.connections picking.vc ≡ Some goes.connection =
    subst (λ (p : Picking). connection_in before.connections p.vc ≡ Some goes.connection) pickings goes.found in
    let connections : goes.connection ≡ connection = same_Some goes.connection connection (sym there ∙ found) in
    judged_so allowed
    (goes.answer ∙ (λ i. Answered (judged_answer before (pickings i) (connections i))))
    (goes.world ∙ (λ i. judged_world before 0 (pickings i) (connections i)))

pub judge-case : (before after : World) (picking : Picking) (connection : Connection) (reply : Reply) → PortIs before (picked picking)
    → connection_in before.connections picking.vc ≡ Some connection → connection.incarnation ≡ picking.incarnation
    → WorldStep before (Judge 0) reply after → JudgeCase before picking connection reply after
judge-case before after picking connection reply had found same step =
    let at_port : refusal before (Judge 0) ≡ judge_refusal before (Some (picked picking)) = ap (judge_refusal before) had in
    let at_connection : judge_refusal before (Some (picked picking)) ≡ option_map Answered (picking_refusal before picking (Some connection)) =
    ap (λ o. option_map Answered (picking_refusal before picking o)) found in
    let at_cell : option_map Answered (picking_refusal before picking (Some connection)) ≡ option_map Answered (cell_refusal before connection picking.moment) =
    ap (λ b. option_map Answered (if b then cell_refusal before connection picking.moment else Some answer.Released))
    (eq-eqb connection.incarnation picking.incarnation same) in
    let Cases : Option Reply → Type 0 = λ o. MatchOption o
    (Judges before 0 reply after ⊎ FindsNoMemory before (Judge 0) reply after) (λ refused. IsRefused before (Judge 0) refused reply after) in
    by (cell_refusal before connection picking.moment) refl (subst Cases (at_port ∙ at_connection ∙ at_cell) step)
  where
    by : (found : Option Answer) → cell_refusal before connection picking.moment ≡ found
        → MatchOption (option_map Answered found)
        (Judges before 0 reply after ⊎ FindsNoMemory before (Judge 0) reply after) (λ refused. IsRefused before (Judge 0) refused reply after)
        → JudgeCase before picking connection reply after
    by None e (inl goes) = judges-case before after picking connection reply had found e goes
    by None e (inr lacks) = let no = lacks.answer in absurd (cc)
    by (Some given) e is = refused_so given e is.answer (is.world ∙ ap (left_by_judge before 0) had)
