-- A Load and a Retire.
use Rattle.std.proofs.Common.{◌≡◌, ◌↔◌, suc, Bool, true, false, cond, not, ◌||◌, Option, Some, None, IsSome, List, [], ◌∷◌, refl, sym, ap, subst, ◌∙◌, arith}
use Rattle.std.specs.Prelude.{option_map, is_none, IsErrOf, Err, Contains}
use Rattle.std.specs.List.{list_any, list_all}
use Rattle.gen_arena.specs.declared.id.Id.{Id}
use Rattle.gen_arena.specs.SameId.{is_same_id}
use Rattle.gen_arena.specs.Slot.{Slot}
use Rattle.gen_arena.specs.Live.{live_value, IsLive}
use Rattle.gen_arena.specs.Free.{NoneIsFree}
use Rattle.gen_arena.specs.Insert.{Inserts}
use Rattle.gen_arena.specs.Remove.{Removes}
use Rattle.gen_arena.proofs.Public.{id_same, id_itself}
use Rattle.upc_cell.specs.declared.vc.Vc.{Vc}
use Rattle.bpf_code.specs.declared.instr.Instr.{Instr}
use Rattle.bpf_verify.specs.Accepted.{IsAccepted}
use Rattle.line_record.specs.declared.directory.Seating.{Seating}
use Rattle.line_record.specs.Directory.{DirectoryView, IsNamed}
use Rattle.line_record.specs.Line.{LineView}
use Rattle.card_core.specs.declared.fault.DeskFault.{DeskFault}
use Rattle.card_core.specs.declared.fault.DeskFault.TheVariants.{NoProgram, InUse, Busy, ProgramsFull}
use Rattle.card_core.specs.declared.port.Port.{Port}
use Rattle.card_core.specs.declared.port.Port.TheVariants.{Outside, Entered, Picked}
use Rattle.card_core.specs.declared.reply.Reply.TheVariants.{Loaded, NotLoaded, Retired, Refused}
use Rattle.card_core.specs.declared.step.Step.TheVariants.{Load, Retire}
use Rattle.card_core.specs.declared.shape.Shape.{Shape}
use Rattle.card_core.specs.World.{World, Loading, Connection, PortState, is_outside, is_busy, is_named, any_below, is_open_slot, code_in, without_code, connection_in}
use Rattle.card_core.specs.Refusals.{load_fault, retire_fault}
use Rattle.card_core.specs.Agreement.{CoreView, CoreAgrees, Follows, seating_of}
use Rattle.card_core.specs.inner.Ports.{states_of, is_free_port}
use Rattle.card_core.proofs.Sound.{WorldInvariant}
use Rattle.card_core.proofs.Follow.{follows, step-refused, step-taken}
use Rattle.card_core.proofs.LookUps.{mapped}
use Rattle.card_core.proofs.ConnectionLemmas.{connection_passes}
use Rattle.card_core.proofs.PortLemmas.{core_of}
use Rattle.card_core.proofs.StoreLemmas.{below-passes, below-fails, inserted-open, inserted-within, inserted-next, full-closed, store-inserted, store-removed}

-- The core's ports have no cell exactly if the world's have none.
pub all-outside : (ports : List Port) → list_all is_outside (states_of ports) ≡ list_all is_free_port ports
all-outside [] = refl
all-outside (Outside ∷ later) = all-outside later
all-outside (Entered came ∷ later) = refl
all-outside (Picked found ∷ later) = refl

-- If the test is true for some entry, there is a connection for which it is true.
pub tested-connection : (connections : List (Vc × Connection)) (test : (Vc × Connection) → Bool) → list_any test connections ≡ true
    → (here : Vc × Connection) × Contains connections here × (test here ≡ true)
tested-connection [] test e = absurd (cc)
tested-connection (first ∷ later) test e =
    let choice : (b : Bool) → test first ≡ b → (here : Vc × Connection) × Contains (first ∷ later) here × (test here ≡ true) = elim [
      | true ↦ λ passes. (first, (0, omega arith, refl), passes)
      | false ↦ λ fails.
          let rest = tested-connection later test (sym (ap (λ b. b || list_any test later) fails) ∙ e) in
          (rest.0, (suc rest.1.0, omega (arith, rest.1.1), rest.1.2), rest.2)
    ] in
    choice (test first) refl

same_Err : (one other : DeskFault) → IsErrOf {T = List Instr} (Err one) other → one ≡ other
same_Err one other e = cc

module _ (shape : Shape) (store : List (Slot (List Instr))) (directory : DirectoryView) (lines : List LineView) (ports : List Port) where
  abbrev Old : CoreView
  Old = core_of shape store directory lines ports

  busy-is : (before : World) → CoreAgrees Old before → (b : Bool) → list_all is_free_port ports ≡ b → is_busy before ≡ not b
  busy-is before agrees b e =
      ap (λ (states : List PortState). not (list_all is_outside states)) (sym agrees.ports)
      ∙ ap not (all-outside ports ∙ e)

  pub load-busy : (code : List Instr) → list_all is_free_port ports ≡ false → Follows Old (Load code) (NotLoaded Busy code) Old
  load-busy code some = follows Old Old (Load code) (NotLoaded Busy code) (λ before sound agrees.
      let fault : load_fault before ≡ Some Busy =
      ap (λ b. cond b (Some Busy) (cond (not (any_below before.shape.programs (is_open_slot before))) (Some ProgramsFull) None))
      (busy-is before agrees false some) in
      (before, step-refused before (Load code) (NotLoaded Busy code) (ap (option_map (λ f. NotLoaded f code)) fault), agrees))

  pub load-full : (code : List Instr) → list_all is_free_port ports ≡ true → NoneIsFree store
      → Follows Old (Load code) (NotLoaded ProgramsFull code) Old
  load-full code free full = follows Old Old (Load code) (NotLoaded ProgramsFull code) (λ before sound agrees.
      let closed = below-fails before.shape.programs (is_open_slot before)
      (full-closed before.shape store before.loaded before.live agrees.store before refl refl full) in
      let fault : load_fault before ≡ Some ProgramsFull =
      ap (λ b. cond b (Some Busy) (cond (not (any_below before.shape.programs (is_open_slot before))) (Some ProgramsFull) None))
      (busy-is before agrees true free)
      ∙ ap (λ b. cond (not b) (Some ProgramsFull) (let none : Option DeskFault = None in none)) closed in
      (before, step-refused before (Load code) (NotLoaded ProgramsFull code) (ap (option_map (λ f. NotLoaded f code)) fault), agrees))

  pub load-goes : (code : List Instr) (new : List (Slot (List Instr))) (id : Id) → list_all is_free_port ports ≡ true → IsAccepted code
      → Inserts store new id code → Follows Old (Load code) (Loaded id) (core_of shape new directory lines ports)
  load-goes code new id free accepted insert = follows Old _ (Load code) (Loaded id) (λ before sound agrees.
      let open_slot = inserted-open before.shape store before.loaded before.live agrees.store before refl refl new id code insert in
      let there = inserted-within before.shape store before.loaded before.live agrees.store new id code insert in
      let fault : load_fault before ≡ None =
      ap (λ b. cond b (Some Busy) (cond (not (any_below before.shape.programs (is_open_slot before))) (Some ProgramsFull) None))
      (busy-is before agrees true free)
      ∙ ap (λ b. cond (not b) (Some ProgramsFull) (let none : Option DeskFault = None in none))
      (below-passes before.shape.programs (is_open_slot before) id.slot there open_slot) in
      let loading : Loading = record { id = id; code = code } in
      let stored = store-inserted before.shape store before.loaded before.live agrees.store new id code insert in
      let after : World = record before { loaded = loading ∷ before.loaded; live = loading ∷ before.live } in (
        after,
        step-taken before after (Load code) (Loaded id) (ap (option_map (λ f. NotLoaded f code)) fault) (record {
          accepted = accepted;
          slot = id.slot;
          within = there;
          open_slot = open_slot;
          id = id;
          here = refl;
          next = inserted-next before.shape store before.loaded before.live agrees.store new id code insert;
          answer = refl;
          world = refl;
        }),
        record { shape = agrees.shape; store = stored; seatings = agrees.seatings; lines = agrees.lines; ports = agrees.ports },
      ))

  pub retire-busy : (id : Id) → list_all is_free_port ports ≡ false → Follows Old (Retire id) (Refused Busy) Old
  retire-busy id some = follows Old Old (Retire id) (Refused Busy) (λ before sound agrees.
      let fault : retire_fault before id ≡ Some Busy =
      ap (λ b. cond b (Some Busy) (cond (is_none (code_in before.live id)) (Some NoProgram) (cond (is_named before id) (Some InUse) None)))
      (busy-is before agrees false some) in
      (before, step-refused before (Retire id) (Refused Busy) (ap (option_map Refused) fault), agrees))

  -- Some connection of the directory names a program exactly if some connection of the world does.
  named-there : (before : World) → WorldInvariant before → CoreAgrees Old before → (id : Id) → is_named before id ≡ true → IsNamed directory id
  named-there before sound agrees id e =
      let found = tested-connection before.connections (λ (here : Vc × Connection). is_same_id here.1.program id) e in
      let known = sound.connections.once found.0 found.1 in
      record {
        vc = found.0.0;
        seating = seating_of found.0.1;
        sits = agrees.seatings.seatings found.0.0 ∙ ap (option_map seating_of) known;
        names = id_same found.0.1.program id found.2;
      }

  named-here : (before : World) → CoreAgrees Old before → (id : Id) → IsNamed directory id → is_named before id ≡ true
  named-here before agrees id named =
      let known = mapped seating_of (connection_in before.connections named.vc) named.seating
      (sym (agrees.seatings.seatings named.vc) ∙ named.sits) in
      let same : known.0.program ≡ id = ap (λ (seating : Seating). seating.program) (sym known.2) ∙ named.names in
      connection_passes (λ (here : Vc × Connection). is_same_id here.1.program id) before.connections named.vc known.0 known.1
      (λ other. subst (λ (i : Id). is_same_id known.0.program i ≡ true) same (id_itself known.0.program))

  -- The reason why a Retire is refused while no port has a cell.
  retire-fault-is : (before : World) → CoreAgrees Old before → (id : Id) → list_all is_free_port ports ≡ true
      → (o : Option (List Instr)) → code_in before.live id ≡ o → (b : Bool) → is_named before id ≡ b
      → retire_fault before id ≡ cond (is_none o) (Some NoProgram) (cond b (Some InUse) None)
  retire-fault-is before agrees id free o codes b names =
      ap (λ c. cond c (Some Busy) (cond (is_none (code_in before.live id)) (Some NoProgram) (cond (is_named before id) (Some InUse) None)))
      (busy-is before agrees true free)
      ∙ ap (λ (p : Option (List Instr)). cond (is_none p) (Some NoProgram) (cond (is_named before id) (Some InUse) None)) codes
      ∙ ap (λ c. cond (is_none o) (Some NoProgram) (cond c (Some InUse) (let none : Option DeskFault = None in none))) names

  pub retire-goes : (id : Id) (new : List (Slot (List Instr))) (code : List Instr) → list_all is_free_port ports ≡ true
      → Removes store new id code → (IsNamed directory id → ⊥) → Follows Old (Retire id) (Retired code) (core_of shape new directory lines ports)
  retire-goes id new code free remove unnamed = follows Old _ (Retire id) (Retired code) (λ before sound agrees.
      let live : code_in before.live id ≡ Some code = sym (agrees.store.values id) ∙ remove.was in
      let choice : (b : Bool) → is_named before id ≡ b → b ≡ false = elim [
        | true ↦ λ e. absurd (unnamed (named-there before sound agrees id e))
        | false ↦ λ e. refl
      ] in
      let names : is_named before id ≡ false = choice (is_named before id) refl in
      let fault = retire-fault-is before agrees id free (Some code) live false names in
      let after : World = record before { live = without_code before.live id } in (
        after,
        step-taken before after (Retire id) (Retired code) (ap (option_map Refused) fault) (record {
          code = code;
          was = live;
          answer = refl;
          world = refl;
        }),
        record {
          shape = agrees.shape;
          store = store-removed before.shape store before.loaded before.live agrees.store new id code remove;
          seatings = agrees.seatings;
          lines = agrees.lines;
          ports = agrees.ports;
        },
      ))

  pub retire-refused : (id : Id) (fault : DeskFault) → list_all is_free_port ports ≡ true
      → (IsErrOf {T = List Instr} (Err fault) NoProgram ↔ (live_value store id ≡ None))
      → (IsErrOf {T = List Instr} (Err fault) InUse ↔ (IsLive store id × IsNamed directory id))
      → ((IsLive store id × (IsNamed directory id → ⊥)) → ⊥)
      → Follows Old (Retire id) (Refused fault) Old
  retire-refused id fault free missing used none = follows Old Old (Retire id) (Refused fault) (λ before sound agrees.
      let Why : Type 0 = retire_fault before id ≡ Some fault in
      let choice : (o : Option (List Instr)) → code_in before.live id ≡ o → (b : Bool) → is_named before id ≡ b → Why = elim [
        | None ↦ λ codes b names.
            let gone : live_value store id ≡ None = agrees.store.values id ∙ codes in
            retire-fault-is before agrees id free None codes b names ∙ ap Some (sym (same_Err fault NoProgram (missing.1 gone)))
        | Some code ↦ λ codes. elim [
          | true ↦ λ names.
              let live : IsLive store id = subst (λ (o : Option (List Instr)). IsSome o) (sym (agrees.store.values id ∙ codes)) refl in
              retire-fault-is before agrees id free (Some code) codes true names
              ∙ ap Some (sym (same_Err fault InUse (used.1 (live, named-there before sound agrees id names))))
          | false ↦ λ names.
              let live : IsLive store id = subst (λ (o : Option (List Instr)). IsSome o) (sym (agrees.store.values id ∙ codes)) refl in
              absurd (none (live, λ named. let is = named-here before agrees id named in absurd (cc)))
        ]
      ] in
      let why : Why = choice (code_in before.live id) refl (is_named before id) refl in
      (before, step-refused before (Retire id) (Refused fault) (ap (option_map Refused) why), agrees))
