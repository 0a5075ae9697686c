-- A world with only the kept connections follows the steps of the desk.
use Rattle.std.proofs.Common.{◌≡◌, ℕ, zero, suc, ◌+◌, ◌^◌, ◌<◌, ◌==◌, Bool, true, false, cond, not, List, ◌∷◌, length, Option, Some, None, is_some, is_none, option_map, nat_le, refl, sym, ap, ◌∙◌, subst, inl, inr, arith}
use Rattle.std.specs.List.{list_any, list_all}
use Rattle.std.proofs.lemmas.Bool.{cases_eq, or_left, or_right, not-false, not-true, leb-false}
use Rattle.upc_cell.specs.declared.vc.Vc.{Vc}
use Rattle.upc_cell.proofs.Public.{vc_itself}
use Rattle.bpf_code.specs.declared.instr.Instr.{Instr}
use Rattle.gen_arena.specs.declared.id.Id.{Id}
use Rattle.gen_arena.specs.SameId.{is_same_id}
use Rattle.card_core.specs.declared.ask.Ask.{Ask}
use Rattle.card_core.specs.declared.fault.DeskFault.TheVariants.{Busy, NoProgram, Taken, BadContracts, NoLine, Exhausted, NoConnection, InUse, ProgramsFull}
use Rattle.card_core.specs.declared.reply.Reply.{Reply}
use Rattle.card_core.specs.declared.reply.Reply.TheVariants.{Loaded, Retired, SetUp}
use Rattle.card_core.specs.declared.shape.Shape.{Shape}
use Rattle.card_core.specs.declared.step.Step.{Step}
use Rattle.card_core.specs.declared.step.Step.TheVariants.{Load, Retire, Setup, Reload, Release, Cut}
use Rattle.card_core.specs.World.{World, Loading, is_outside, code_in, without_code, times_given, connection_in, with_connection, any_below, is_busy, is_open_slot, is_open_line, is_named}
use Rattle.card_core.specs.Refusals.{refusal, load_fault, retire_fault, setup_fault, reload_fault, missing_fault}
use Rattle.card_core.specs.Steps.{Loads, Retires, SetsUp, Reloads, Cuts, Releases, new_connection, WorldStep}
use Rattle.card_isolation.specs.Act.{sets_up, reloads, releases, cuts}
use Rattle.card_isolation.specs.OwnEvents.{own_event}
use Rattle.card_core.proofs.LookUps.{passed_on, unmapped}
use Rattle.card_isolation.proofs.Views.{notes_in}
use Rattle.card_isolation.proofs.Unseen.{unseen-sets_up, unseen-reloads, unseen-cuts, unseen-releases}
use Rattle.card_isolation.proofs.Shadow.{idle-too, found-too, unheld-too}
use Rattle.card_isolation.proofs.OwnSteps.{own-sets_up, own-reloads, own-cuts, own-releases, same_holding, new_holding, new_program, no_holding}
use Rattle.card_isolation.proofs.Follows.{Follows, AreBeside, leads-on, stays-shadow, goes-own, goes-beside, granted}

-- A chain of tests passes if its first test and the rest pass.
passes : {X : Type 0} (test : Bool) (refused : X) (rest : Option X) → test ≡ false → rest ≡ None → cond test (Some refused) rest ≡ None
passes true refused rest e e_rest = absurd (cc)
passes false refused rest e e_rest = e_rest

some-of : {X : Type 0} (o : Option X) → is_none o ≡ false → is_some o ≡ true
some-of None e = absurd (cc)
some-of (Some x) e = refl

none-of : {X : Type 0} (o : Option X) → is_some o ≡ true → is_none o ≡ false
none-of None e = absurd (cc)
none-of (Some x) e = refl

-- If a number below the bound passes the test, one does.
below-one : (number : ℕ) (test : ℕ → Bool) (at : ℕ) → at < number → test at ≡ true → any_below number test ≡ true
below-one zero test at within passes = absurd (omega (arith, within))
below-one (suc number) test at within passes = elim (cases_eq at number) [
  | inl is ↦ or_left (test number) (any_below number test) (subst (λ k. test k ≡ true) is passes)
  | inr apart ↦ or_right (test number) (any_below number test) (below-one number test at (omega (arith, within, apart)) passes)
]

module _ {kept : Vc → Bool} {world shadow : World} (beside : AreBeside kept world shadow) where
  -- Load and Retire.

  idle-shadow : is_busy world ≡ false → is_busy shadow ≡ false
  idle-shadow e = ap not (idle-too kept world shadow beside.shadows (not-false (list_all is_outside world.ports) e))

  pub follows-loads : (code : List Instr) (reply : Reply) (after : World) → refusal world (Load code) ≡ None → Loads world code reply after
      → Follows kept world (Load code) reply after shadow
  follows-loads code reply after allowed w =
      let one = passed_on (is_busy world) _ _ (unmapped _ (load_fault world) allowed) in
      let two = passed_on (not (any_below world.shape.programs (is_open_slot world))) _ _ one.1 in
      let open_by : List Loading → List Loading → ℕ → Bool = λ given live slot. is_open_slot (record world { loaded = given; live = live }) slot in
      let opens : (slot : ℕ) → is_open_slot shadow slot ≡ is_open_slot world slot = λ slot.
      ap (λ (l : List Loading). open_by l shadow.live slot) beside.shadows.loaded ∙ ap (λ (l : List Loading). open_by world.loaded l slot) beside.shadows.live in
      let some : not (any_below shadow.shape.programs (is_open_slot shadow)) ≡ false =
      ap (λ (shape : Shape). not (any_below shape.programs (is_open_slot shadow))) beside.shadows.shape
      ∙ ap (λ (test : ℕ → Bool). not (any_below world.shape.programs test)) (λ i slot. opens slot i)
      ∙ two.0 in
      let allowed_too : refusal shadow (Load code) ≡ None =
      ap (option_map _)
      (passes (is_busy shadow) Busy _ (idle-shadow one.0)
      (passes (not (any_below shadow.shape.programs (is_open_slot shadow))) ProgramsFull None some refl)) in
      let later : World = record shadow {
        loaded = record { id = w.id; code = code } ∷ shadow.loaded;
        live = record { id = w.id; code = code } ∷ shadow.live;
      } in
      let loads : Loads shadow code (Loaded w.id) later = record {
        accepted = w.accepted;
        slot = w.slot;
        within = subst (λ (shape : Shape). w.slot < shape.programs) (sym beside.shadows.shape) w.within;
        open_slot = opens w.slot ∙ w.open_slot;
        id = w.id;
        here = w.here;
        next = w.next ∙ ap (λ (l : List Loading). times_given l w.slot + 1) (sym beside.shadows.loaded);
        answer = refl;
        world = refl;
      } in
      goes-beside beside (Load code) reply (Loaded w.id) after later (leads-on world (Load code) reply after allowed w)
      (leads-on shadow (Load code) (Loaded w.id) later allowed_too loads) refl
      (λ vc. ap (λ (r : Reply). own_event world.shape.side vc (notes_in vc world) r (Load code)) w.answer) (λ vc. refl)
      (ap (λ (l : List Loading). record { id = w.id; code = code } ∷ l) beside.shadows.loaded ∙ sym (ap (λ (v : World). v.loaded) w.world))
      (ap (λ (l : List Loading). record { id = w.id; code = code } ∷ l) beside.shadows.live ∙ sym (ap (λ (v : World). v.live) w.world))
      (ap (λ (v : World). v.connections) w.world) refl (ap (λ (v : World). v.incarnations) w.world) refl refl

  -- If no connection of the world names a program, none of the shadow does.
  unnamed : (id : Id) → is_named world id ≡ false → is_named shadow id ≡ false
  unnamed id none = unheld-too kept world shadow beside.shadows beside.sound_too (λ holding. is_same_id holding.program id) none

  -- A line that is open in the world is open in the shadow.
  opens-too : (line : ℕ) → is_open_line world line ≡ true → is_open_line shadow line ≡ true
  opens-too line unheld =
      ap not (unheld-too kept world shadow beside.shadows beside.sound_too (λ holding. holding.line == line)
      (not-true (list_any (λ here. here.1.line == line) world.connections) unheld))

  pub follows-retires : (id : Id) (reply : Reply) (after : World) → refusal world (Retire id) ≡ None → Retires world id reply after
      → Follows kept world (Retire id) reply after shadow
  follows-retires id reply after allowed w =
      let one = passed_on (is_busy world) _ _ (unmapped _ (retire_fault world id) allowed) in
      let two = passed_on (is_none (code_in world.live id)) _ _ one.1 in
      let three = passed_on (is_named world id) _ _ two.1 in
      let allowed_too : refusal shadow (Retire id) ≡ None =
      ap (option_map _)
      (passes (is_busy shadow) Busy _ (idle-shadow one.0)
      (passes (is_none (code_in shadow.live id)) NoProgram _ (ap (λ (l : List Loading). is_none (code_in l id)) beside.shadows.live ∙ two.0)
      (passes (is_named shadow id) InUse None (unnamed id three.0) refl))) in
      let later : World = record shadow { live = without_code shadow.live id } in
      let retires : Retires shadow id (Retired w.code) later = record {
        code = w.code;
        was = ap (λ (l : List Loading). code_in l id) beside.shadows.live ∙ w.was;
        answer = refl;
        world = refl;
      } in
      goes-beside beside (Retire id) reply (Retired w.code) after later (leads-on world (Retire id) reply after allowed w)
      (leads-on shadow (Retire id) (Retired w.code) later allowed_too retires) refl
      (λ vc. ap (λ (r : Reply). own_event world.shape.side vc (notes_in vc world) r (Retire id)) w.answer) (λ vc. refl)
      (beside.shadows.loaded ∙ sym (ap (λ (v : World). v.loaded) w.world))
      (ap (λ (l : List Loading). without_code l id) beside.shadows.live ∙ sym (ap (λ (v : World). v.live) w.world))
      (ap (λ (v : World). v.connections) w.world) refl (ap (λ (v : World). v.incarnations) w.world) refl refl

  -- Steps of the desk for one connection.

  pub follows-sets_up : (ask : Ask) (reply : Reply) (after : World) → refusal world (Setup ask) ≡ None
      → SetsUp world ask reply after → Follows kept world (Setup ask) reply after shadow
  follows-sets_up ask reply after allowed w =
      let step : Step = Setup ask in
      let ws : WorldStep world step reply after = leads-on world step reply after allowed w in
      let one = passed_on (is_none (code_in world.live ask.program)) _ _ (unmapped _ (setup_fault world ask) allowed) in
      let two = passed_on (is_some (connection_in world.connections ask.vc)) _ _ one.1 in
      let three = passed_on (length ask.contracts.items == 0) _ _ two.1 in
      let four = passed_on (not (any_below world.shape.lines (is_open_line world))) _ _ three.1 in
      let five = passed_on (nat_le (2 ^ 62) world.incarnations) _ _ four.1 in
      let choice : (b : Bool) → kept ask.vc ≡ b → Follows kept world step reply after shadow = elim [
        | true ↦ λ is.
            let opens : is_open_line shadow w.line ≡ true = opens-too w.line w.open_line in
            let within : w.line < shadow.shape.lines = subst (λ (shape : Shape). w.line < shape.lines) (sym beside.shadows.shape) w.within in
            let some : not (any_below shadow.shape.lines (is_open_line shadow)) ≡ false =
            ap not (below-one shadow.shape.lines (is_open_line shadow) w.line within opens) in
            let less : world.incarnations < 2 ^ 62 = leb-false (2 ^ 62) world.incarnations five.0 in
            let unspent : nat_le (2 ^ 62) shadow.incarnations ≡ false = grind (arith, less, beside.shadows.incarnations) in
            let allowed_too : refusal shadow step ≡ None =
            ap (option_map _)
            (passes (is_none (code_in shadow.live ask.program)) NoProgram _ (ap (λ (l : List Loading). is_none (code_in l ask.program)) beside.shadows.live ∙ one.0)
            (passes (is_some (connection_in shadow.connections ask.vc)) Taken _ (found-too ask.vc world shadow (beside.shadows.holding ask.vc is) ∙ two.0)
            (passes (length ask.contracts.items == 0) BadContracts _ three.0
            (passes (not (any_below shadow.shape.lines (is_open_line shadow))) NoLine _ some
            (passes (nat_le (2 ^ 62) shadow.incarnations) Exhausted None unspent refl))))) in
            -- The shadow may choose any open line, and takes that of the world.
            let answered : Reply = SetUp (record { vc = ask.vc; incarnation = shadow.incarnations + 1 }) in
            let later : World = record shadow {
              connections = with_connection shadow.connections ask.vc (new_connection ask w.line (shadow.incarnations + 1));
              incarnations = shadow.incarnations + 1;
            } in
            let sets_up_too : SetsUp shadow ask answered later = record {
              line = w.line;
              within = within;
              open_line = opens;
              answer = refl;
              world = refl;
            } in
            goes-own beside ask.vc is step reply answered after later (sets_up ask.contracts.items (code_in world.loaded ask.program))
            (sets_up ask.contracts.items (code_in shadow.loaded ask.program)) (new_holding w.line ask.program) 1 ws
            (leads-on shadow step answered later allowed_too sets_up_too) is
            (own-sets_up ask.vc world ask reply after (vc_itself ask.vc) w)
            (own-sets_up ask.vc shadow ask answered later (vc_itself ask.vc) sets_up_too)
            (ap (λ (l : List Loading). sets_up ask.contracts.items (code_in l ask.program)) beside.shadows.loaded)
        | false ↦ λ isnt. stays-shadow beside step reply after ws (unseen-sets_up kept world ask reply after isnt w)
      ] in
      choice (kept ask.vc) refl

  -- A kept connection exists in the shadow too.
  there-too : (vc : Vc) → kept vc ≡ true → is_none (connection_in world.connections vc) ≡ false
      → is_none (connection_in shadow.connections vc) ≡ false
  there-too vc is some =
      none-of (connection_in shadow.connections vc)
      (found-too vc world shadow (beside.shadows.holding vc is) ∙ some-of (connection_in world.connections vc) some)

  pub follows-reloads : (other : Vc) (program : Id) (reply : Reply) (after : World) → refusal world (Reload other program) ≡ None
      → Reloads world other program reply after → Follows kept world (Reload other program) reply after shadow
  follows-reloads other program reply after allowed w =
      let step : Step = Reload other program in
      let ws : WorldStep world step reply after = leads-on world step reply after allowed w in
      let one = passed_on (is_none (code_in world.live program)) _ _ (unmapped _ (reload_fault world other program) allowed) in
      let two = passed_on (is_none (connection_in world.connections other)) _ _ one.1 in
      let choice : (b : Bool) → kept other ≡ b → Follows kept world step reply after shadow = elim [
        | true ↦ λ is.
            let allowed_too : refusal shadow step ≡ None =
            ap (option_map _)
            (passes (is_none (code_in shadow.live program)) NoProgram _ (ap (λ (l : List Loading). is_none (code_in l program)) beside.shadows.live ∙ one.0)
            (passes (is_none (connection_in shadow.connections other)) NoConnection None (there-too other is two.0) refl)) in
            let too = granted beside step tt allowed_too in
            goes-own beside other is step reply too.0 after too.1 (reloads (code_in world.loaded program)) (reloads (code_in shadow.loaded program))
            (new_program program) 0 ws too.3 is (own-reloads other world other program reply after (vc_itself other) w)
            (own-reloads other shadow other program too.0 too.1 (vc_itself other) too.2)
            (ap (λ (l : List Loading). reloads (code_in l program)) beside.shadows.loaded)
        | false ↦ λ isnt. stays-shadow beside step reply after ws (unseen-reloads kept world other program reply after isnt w)
      ] in
      choice (kept other) refl

  pub follows-cuts : (other : Vc) (reply : Reply) (after : World) → refusal world (Cut other) ≡ None
      → Cuts world other reply after → Follows kept world (Cut other) reply after shadow
  follows-cuts other reply after allowed w =
      let step : Step = Cut other in
      let ws : WorldStep world step reply after = leads-on world step reply after allowed w in
      let one = passed_on (is_none (connection_in world.connections other)) _ _ (unmapped _ (missing_fault world other) allowed) in
      let choice : (b : Bool) → kept other ≡ b → Follows kept world step reply after shadow = elim [
        | true ↦ λ is.
            let allowed_too : refusal shadow step ≡ None =
            ap (option_map _) (passes (is_none (connection_in shadow.connections other)) NoConnection None (there-too other is one.0) refl) in
            let too = granted beside step tt allowed_too in
            goes-own beside other is step reply too.0 after too.1 cuts cuts same_holding 0 ws too.3 is
            (own-cuts other world other reply after (vc_itself other) w) (own-cuts other shadow other too.0 too.1 (vc_itself other) too.2) refl
        | false ↦ λ isnt. stays-shadow beside step reply after ws (unseen-cuts kept world other reply after isnt w)
      ] in
      choice (kept other) refl

  pub follows-releases : (other : Vc) (reply : Reply) (after : World) → refusal world (Release other) ≡ None
      → Releases world other reply after → Follows kept world (Release other) reply after shadow
  follows-releases other reply after allowed w =
      let step : Step = Release other in
      let ws : WorldStep world step reply after = leads-on world step reply after allowed w in
      let one = passed_on (is_none (connection_in world.connections other)) _ _ (unmapped _ (missing_fault world other) allowed) in
      let choice : (b : Bool) → kept other ≡ b → Follows kept world step reply after shadow = elim [
        | true ↦ λ is.
            let allowed_too : refusal shadow step ≡ None =
            ap (option_map _) (passes (is_none (connection_in shadow.connections other)) NoConnection None (there-too other is one.0) refl) in
            let too = granted beside step tt allowed_too in
            goes-own beside other is step reply too.0 after too.1 releases releases no_holding 0 ws too.3 is
            (own-releases other world other reply after (vc_itself other) w) (own-releases other shadow other too.0 too.1 (vc_itself other) too.2) refl
        | false ↦ λ isnt. stays-shadow beside step reply after ws (unseen-releases kept world other reply after isnt w)
      ] in
      choice (kept other) refl
