-- If the views of two cards are equal, programs are loaded and retired with the same answers on both, in whatever
-- slots.
use Rattle.std.proofs.Common.{◌≡◌, ℕ, suc, ◌+◌, ◌<◌, ◌≤◌, ◌==◌, ◌&&◌, Bool, true, false, if◌then◌else◌, not, List, [], ◌∷◌, ◌++◌, length, Option, Some, None, is_none, nat_lt, codes, refl, sym, ap, ◌∙◌, subst, arith}
use Rattle.std.specs.List.{list_all, filter}
use Rattle.std.proofs.lemmas.Bool.{and_parts, lt-ltb, not-true}
use Rattle.bpf_code.specs.declared.instr.Instr.{Instr}
use Rattle.gen_arena.specs.SameId.{is_same_id}
use Rattle.gen_arena.specs.Slot.{greatest_generation}
use Rattle.gen_arena.specs.declared.id.Id.{Id}
use Rattle.card_core.specs.Refusals.{load_fault, retire_fault}
use Rattle.card_core.specs.Steps.{Loads, Retires, WorldStep}
use Rattle.card_core.specs.World.{Loading, World, any_below, code_in, is_busy, is_open_slot, is_outside, times_given, without_code}
use Rattle.card_core.specs.inner.Sound.{WorldInvariant}
use Rattle.card_core.specs.declared.fault.DeskFault.{DeskFault}
use Rattle.card_core.specs.declared.fault.DeskFault.TheVariants.{Busy, InUse, NoProgram, ProgramsFull}
use Rattle.card_core.specs.declared.reply.Reply.{Reply}
use Rattle.card_core.specs.declared.reply.Reply.TheVariants.{Loaded, NotLoaded, Refused, Retired}
use Rattle.card_core.specs.declared.step.Step.TheVariants.{Load, Retire}
use Rattle.text_words.specs.FaultLines.{line}
use Rattle.text_script.specs.ReplyTexts.{program_name}
use Rattle.text_card.specs.Replies.{reply_text}
use Rattle.cmd_run.specs.RunText.{id_loaded}
use Rattle.text_script.specs.ScriptCommands.{load, retire}
use Rattle.cmd_run.proofs.one_script.Numbers.{names_of, number_in, number-next, number-none}
use Rattle.cmd_run.proofs.one_script.OpenPlaces.{any-same, apart-filter, is_open, is_taken, open-place}
use Rattle.cmd_run.proofs.one_script.Seen.{Seen, code_of, codes_of, names_number, seen, seen_live, without_program}
use Rattle.cmd_run.proofs.one_script.SeenConnections.{all-filter}
use Rattle.cmd_run.proofs.one_script.SeenPrograms.{code-seen, connections-stay, known-stays, live-stays, named-seen, names-stay, without-filter, without-seen}
use Rattle.cmd_run.proofs.one_script.HoldsAfter.{Comes, HoldsAfter, ProgramsHold, answered, desk-split, left, refused-comes, reprinted, slot_of, holds-later, unnamed}

and-true : (b : Bool) → (b && true) ≡ b
and-true true = refl
and-true false = refl

length-live : (given live : List Loading) → length (seen_live given live) ≡ length live
length-live given [] = refl
length-live given (loading ∷ later) = ap suc (length-live given later)

-- After fewer lines than a slot has generations, it is open exactly if there are fewer live programs than slots.
open-slots : (met : ℕ) (world : World) → HoldsAfter met world → met < greatest_generation
    → any_below world.shape.programs (is_open_slot world) ≡ nat_lt (length (seen_live world.loaded world.live)) world.shape.programs
open-slots met world invariant few =
    let unworn : (slot : ℕ) → nat_lt (times_given world.loaded slot) greatest_generation ≡ true = λ slot.
    let worn = invariant.programs.worn slot in lt-ltb (times_given world.loaded slot) greatest_generation (omega arith) in
    any-same world.shape.programs (is_open_slot world) (is_open slot_of world.live)
    (λ slot within. ap (λ b. not (is_taken slot_of world.live slot) && b) (unworn slot) ∙ and-true (not (is_taken slot_of world.live slot)))
    ∙ (open-place slot_of world.shape.programs world.live invariant.programs.apart invariant.programs.below).some
    ∙ ap (λ n. nat_lt n world.shape.programs) (sym (length-live world.loaded world.live))

-- The reason not to load a program: some port has a cell, or there are as many programs as slots.
abbrev pub seen_load_fault : Seen → Option DeskFault
seen_load_fault s =
    if not (list_all is_outside s.ports) then Some Busy
    else if not (nat_lt (length s.live) s.shape.programs) then Some ProgramsFull
    else None

load_fault-seen : (met : ℕ) (world : World) → HoldsAfter met world → met < greatest_generation → load_fault world ≡ seen_load_fault (seen world)
load_fault-seen met world invariant few =
    let e = open-slots met world invariant few in
    λ i. if is_busy world then Some Busy else if not (e i) then Some ProgramsFull else None

-- The view with one more program.
abbrev pub with_program : Seen → List Instr → Seen
with_program s code = record s { programs = suc s.programs; codes = code ∷ s.codes; live = record { number = suc s.programs; code = code } ∷ s.live }

-- The id of a program that is loaded is new.
new-id : (world : World) → WorldInvariant world → (id : Id) → id.generation ≡ times_given world.loaded id.slot + 1 → number_in world.loaded id ≡ 0
new-id world sound id next =
    let choice : (found : Option (List Instr)) → code_in world.loaded id ≡ found → number_in world.loaded id ≡ 0 = elim [
      | None ↦ λ e. number-none world.loaded id e
      | Some code ↦ λ e. absurd (omega (arith, sound.programs.once id code e, next))
    ] in
    choice (code_in world.loaded id) refl

times-more : (loading : Loading) (given : List Loading) (slot met : ℕ) → times_given given slot ≤ met → times_given (loading ∷ given) slot ≤ met + 1
times-more loading given slot met worn =
    let choice : (b : Bool) → (if b then suc (times_given given slot) else times_given given slot) ≤ met + 1 = elim [
      | true ↦ omega arith
      | false ↦ omega arith
    ] in
    choice (loading.id.slot == slot)

holds-loaded : (met : ℕ) (before : World) (loading : Loading) → HoldsAfter met before → number_in before.loaded loading.id ≡ 0
    → is_taken slot_of before.live loading.id.slot ≡ false → loading.id.slot < before.shape.programs
    → HoldsAfter (met + 1) (record before { loaded = loading ∷ before.loaded; live = loading ∷ before.live })
holds-loaded met before loading invariant new free within =
    let next = number-next loading before.loaded in
    record {
      programs = record {
        once = (new, invariant.programs.once);
        known = (omega (arith, next), known-stays loading before.loaded before.live new invariant.programs.known);
        apart = (free, invariant.programs.apart);
        below = (within, invariant.programs.below);
        worn = λ slot. times-more loading before.loaded slot met (invariant.programs.worn slot);
      };
      connections = record {
        known = names-stay loading before.loaded before.connections new invariant.connections.known;
        once = invariant.connections.once;
        apart = invariant.connections.apart;
        below = invariant.connections.below;
      };
    }

shown-loaded : (met : ℕ) (before : World) (loading : Loading) → HoldsAfter met before → number_in before.loaded loading.id ≡ 0
    → seen (record before { loaded = loading ∷ before.loaded; live = loading ∷ before.live }) ≡ with_program (seen before) loading.code
shown-loaded met before loading invariant new =
    let number = number-next loading before.loaded in
    let live = live-stays loading before.loaded before.live new invariant.programs.known in
    let connections = connections-stay loading before.loaded before.connections new invariant.connections.known in
    λ i. record (seen before) {
      programs = suc (length before.loaded);
      codes = loading.code ∷ codes_of before.loaded;
      live = record { number = number i; code = loading.code } ∷ live i;
      connections = connections i;
    }

abbrev pub loaded_text : Seen → Option (List ℕ)
loaded_text s = Some (line (codes "loaded " ++ program_name (suc s.programs)))

loads-comes : (met : ℕ) (before after : World) (code : List Instr) (digits : List ℕ) (reply : Reply) (text : List ℕ) → HoldsAfter met before
    → WorldInvariant before → reply_text before.shape.side (load digits) (length before.loaded) reply ≡ Some text → Loads before code reply after
    → Comes met before after reply (loaded_text (seen before)) text (with_program (seen before) code)
loads-comes met before after code digits reply text invariant sound printed goes =
    let loading : Loading = record { id = goes.id; code = code } in
    let next : goes.id.generation ≡ times_given before.loaded goes.id.slot + 1 =
    subst (λ slot. goes.id.generation ≡ times_given before.loaded slot + 1) (sym goes.here) goes.next in
    let new = new-id before sound goes.id next in
    let unused = and_parts (not (is_taken slot_of before.live goes.slot)) (nat_lt (times_given before.loaded goes.slot) greatest_generation) goes.open_slot in
    let free : is_taken slot_of before.live goes.id.slot ≡ false =
    subst (λ slot. is_taken slot_of before.live slot ≡ false) (sym goes.here) (not-true (is_taken slot_of before.live goes.slot) unused.0) in
    let within : goes.id.slot < before.shape.programs = subst (λ slot. slot < before.shape.programs) (sym goes.here) goes.within in
    record {
      printed = reprinted before.shape.side (load digits) (length before.loaded) reply (Loaded goes.id) text goes.answer printed;
      shown = ap seen goes.world ∙ shown-loaded met before loading invariant new;
      holds = subst (λ (world : World). HoldsAfter (met + 1) world) (sym goes.world) (holds-loaded met before loading invariant new free within);
      named = ap (λ (world : World). names_of world.loaded) goes.world
          ∙ ap (λ (r : Reply). names_of before.loaded ++ id_loaded r) (sym goes.answer);
      judged = ap (λ (world : World). world.verdicts) goes.world;
    }

-- A program is loaded.
pub load-comes : (met : ℕ) (before after : World) (code : List Instr) (digits : List ℕ) (reply : Reply) (text : List ℕ) → HoldsAfter met before
    → WorldInvariant before → met < greatest_generation → reply_text before.shape.side (load digits) (length before.loaded) reply ≡ Some text
    → WorldStep before (Load code) reply after
    → Comes met before after reply (answered (seen_load_fault (seen before)) (loaded_text (seen before))) text
    (left (seen_load_fault (seen before)) (seen before) (with_program (seen before) code))
load-comes met before after code digits reply text invariant sound few printed step =
    let P : Option DeskFault → Type 0 = λ found.
    Comes met before after reply (answered found (loaded_text (seen before))) text (left found (seen before) (with_program (seen before) code)) in
    subst P (load_fault-seen met before invariant few)
    (desk-split P (λ fault. NotLoaded fault code) (load_fault before) before after (Load code) reply
    (λ goes. loads-comes met before after code digits reply text invariant sound printed goes)
    (λ lacks. let no = lacks.answer in absurd (cc))
    (λ fault is. refused-comes met before after reply fault text invariant is.world (ap id_loaded is.answer)
    (reprinted before.shape.side (load digits) (length before.loaded) reply (NotLoaded fault code) text is.answer printed)) step)

-- The reason not to retire a program.
abbrev pub seen_retire_fault : Seen → ℕ → Option DeskFault
seen_retire_fault s number =
    if not (list_all is_outside s.ports) then Some Busy
    else if is_none (code_of s.live number) then Some NoProgram
    else if names_number s.connections number then Some InUse
    else None

retire_fault-seen : (met : ℕ) (world : World) (id : Id) → HoldsAfter met world
    → retire_fault world id ≡ seen_retire_fault (seen world) (number_in world.loaded id)
retire_fault-seen met world id invariant =
    let code = code-seen world.loaded world.live invariant.programs.known id in
    let named = named-seen world.loaded world.connections invariant.connections.known id in
    λ i. if is_busy world then Some Busy
    else if is_none (sym code i) then Some NoProgram
    else if named i then Some InUse
    else None

abbrev pub retired : Seen → ℕ → Seen
retired s number = record s { live = without_program s.live number }

abbrev pub retired_text : ℕ → Option (List ℕ)
retired_text number = Some (line (codes "retired " ++ program_name number))

programs-without : (met bound : ℕ) (given live : List Loading) (id : Id) → ProgramsHold met bound given live
    → ProgramsHold met bound given (without_code live id)
programs-without met bound given live id invariant =
    let kept : Loading → Bool = λ loading. not (is_same_id id loading.id) in
    let less : ProgramsHold met bound given (filter kept live) = record {
      once = invariant.once;
      known = all-filter (λ loading. 0 < number_in given loading.id) kept live invariant.known;
      apart = apart-filter slot_of kept live invariant.apart;
      below = all-filter (λ loading. slot_of loading < bound) kept live invariant.below;
      worn = invariant.worn;
    } in
    subst (λ others. ProgramsHold met bound given others) (sym (without-filter live id)) less

retires-comes : (met : ℕ) (before after : World) (id : Id) (number : ℕ) (reply : Reply) (text : List ℕ) → HoldsAfter met before
    → reply_text before.shape.side (retire number) (length before.loaded) reply ≡ Some text → Retires before id reply after
    → Comes met before after reply (retired_text number) text (retired (seen before) (number_in before.loaded id))
retires-comes met before after id number reply text invariant printed goes =
    let live = without-seen before.loaded before.live invariant.programs.known id in
    let later = holds-later met before invariant in
    record {
      printed = reprinted before.shape.side (retire number) (length before.loaded) reply (Retired goes.code) text goes.answer printed;
      shown = ap seen goes.world ∙ (λ i. record (seen before) { live = live i });
      holds = subst (λ (world : World). HoldsAfter (met + 1) world) (sym goes.world) (record {
        programs = programs-without (met + 1) before.shape.programs before.loaded before.live id later.programs;
        connections = later.connections;
      });
      named = unnamed before after reply (ap (λ (world : World). world.loaded) goes.world) (ap id_loaded goes.answer);
      judged = ap (λ (world : World). world.verdicts) goes.world;
    }

-- A program is retired.
pub retire-comes : (met : ℕ) (before after : World) (id : Id) (number : ℕ) (reply : Reply) (text : List ℕ) → HoldsAfter met before
    → reply_text before.shape.side (retire number) (length before.loaded) reply ≡ Some text → WorldStep before (Retire id) reply after
    → Comes met before after reply (answered (seen_retire_fault (seen before) (number_in before.loaded id)) (retired_text number)) text
    (left (seen_retire_fault (seen before) (number_in before.loaded id)) (seen before) (retired (seen before) (number_in before.loaded id)))
retire-comes met before after id number reply text invariant printed step =
    let P : Option DeskFault → Type 0 = λ found.
    Comes met before after reply (answered found (retired_text number)) text (left found (seen before) (retired (seen before) (number_in before.loaded id))) in
    subst P (retire_fault-seen met before id invariant)
    (desk-split P (λ fault. Refused fault) (retire_fault before id) before after (Retire id) reply
    (λ goes. retires-comes met before after id number reply text invariant printed goes)
    (λ lacks. let no = lacks.answer in absurd (cc))
    (λ fault is. refused-comes met before after reply fault text invariant is.world (ap id_loaded is.answer)
    (reprinted before.shape.side (retire number) (length before.loaded) reply (Refused fault) text is.answer printed)) step)
