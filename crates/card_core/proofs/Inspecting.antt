-- Reads of a core without a step, by its parts.
use Rattle.std.proofs.Common.{◌≡◌, ◌≢◌, ◌↔◌, Bool, true, false, cond, not, Option, Some, None, List, Ok, Err, IsOk, IsErr, IsSome, refl, sym, ap, subst, ◌∙◌, arith}
use Rattle.std.specs.Prelude.{◌==◌, IsErrOf}
use Rattle.std.specs.List.{list_all}
use Rattle.std.proofs.lemmas.Bool.Decides.{nat_tests, Decides-eqb}
use Rattle.gen_arena.specs.declared.id.Id.{Id}
use Rattle.gen_arena.specs.Free.{free_slots}
use Rattle.gen_arena.specs.Insert.{Inserts}
use Rattle.gen_arena.specs.Live.{live_value, IsLive}
use Rattle.gen_arena.specs.Remove.{Removes}
use Rattle.gen_arena.specs.Slot.{Slot}
use Rattle.gen_arena.proofs.Public.{Inserts-live, Inserts-new, Inserts-others, Removes-gone, Removes-others}
use Rattle.bpf_code.specs.declared.instr.Instr.{Instr}
use Rattle.line_record.specs.Directory.{DirectoryView, IsNamed}
use Rattle.line_record.specs.Line.{LineView}
use Rattle.card_core.specs.declared.fault.DeskFault.{DeskFault}
use Rattle.card_core.specs.declared.fault.DeskFault.TheVariants.{NoProgram, NoConnection, Taken, NoLine, InUse, ProgramsFull, Exhausted, BadContracts, Busy, NoMemory, Stale}
use Rattle.card_core.specs.declared.port.Port.{Port}
use Rattle.card_core.specs.declared.shape.Shape.{Shape}
use Rattle.card_core.specs.Agreement.{CoreView}
use Rattle.card_core.specs.Inspection.{has_cell, load_fault_of, IsRetireFault, PutsIn, TakesOut}
use Rattle.card_core.specs.inner.Ports.{is_free_port}
use Rattle.card_core.proofs.PortLemmas.{core_of}
use Rattle.card_core.proofs.StoreSteps.{all-outside}

-- A result that is Ok isn't an error.
pub never-err : {A : Type 0} (E : Type 0) (value : A) → IsErr {E = E} (Ok value) → ⊥
never-err E value e = absurd (cc)

pub never-ok : (A : Type 0) {E : Type 0} (fault : E) → IsOk {T = A} (Err fault) → ⊥
never-ok A fault e = absurd (cc)

module _ (shape : Shape) (store : List (Slot (List Instr))) (directory : DirectoryView) (lines : List LineView) (ports : List Port) where
  abbrev Old : CoreView
  Old = core_of shape store directory lines ports

  pub has-cell : (b : Bool) → list_all is_free_port ports ≡ b → has_cell Old ≡ not b
  has-cell b e = ap not (all-outside ports ∙ e)

  abbrev Full : Option DeskFault
  Full = cond (free_slots store == 0) (Some ProgramsFull) None

  pub load-fault-busy : list_all is_free_port ports ≡ false → load_fault_of Old ≡ Some Busy
  load-fault-busy some = ap (λ b. cond b (Some Busy) Full) (has-cell false some)

  pub load-fault-full : list_all is_free_port ports ≡ true → free_slots store ≡ 0 → load_fault_of Old ≡ Some ProgramsFull
  load-fault-full free full =
      ap (λ b. cond b (Some Busy) Full) (has-cell true free)
      ∙ ap (λ b. cond b (Some ProgramsFull) (let none : Option DeskFault = None in none)) ((Decides-eqb (free_slots store) 0).1 full)

  pub load-fault-none : list_all is_free_port ports ≡ true → (free_slots store ≡ 0 → ⊥) → load_fault_of Old ≡ None
  load-fault-none free room =
      let some : free_slots store ≢ 0 = room in
      let differs : (free_slots store == 0) ≡ false = grind (arith, nat_tests) in
      ap (λ b. cond b (Some Busy) Full) (has-cell true free)
      ∙ ap (λ b. cond b (Some ProgramsFull) (let none : Option DeskFault = None in none)) differs

  pub puts-in : (new : List (Slot (List Instr))) (id : Id) (code : List Instr) → Inserts store new id code
      → PutsIn Old id code (core_of shape new directory lines ports)
  puts-in new id code insert = record {
    inserts = insert;
    was = Inserts-new store new id code insert;
    live = Inserts-live store new id code insert;
    others = Inserts-others store new id code insert;
    rest = refl;
  }

  pub takes-out : (new : List (Slot (List Instr))) (id : Id) (code : List Instr) → Removes store new id code
      → TakesOut Old id code (core_of shape new directory lines ports)
  takes-out new id code remove = record {
    removes = remove;
    was = remove.was;
    gone = Removes-gone store new id code remove;
    others = Removes-others store new id code remove;
    rest = refl;
  }

  -- While no port has a cell, a retirement has only two reasons to be refused.
  no-third : (id : Id) → ((live_value store id ≡ None) → ⊥) → ((IsLive store id × IsNamed directory id) → ⊥)
      → ((IsLive store id × (IsNamed directory id → ⊥)) → ⊥) → ⊥
  no-third id missing used none =
      let choice : (o : Option (List Instr)) → live_value store id ≡ o → ⊥ = elim [
        | None ↦ λ e. missing e
        | Some code ↦ λ e.
            let live : IsLive store id = subst (λ (o : Option (List Instr)). IsSome o) (sym e) refl in
            none (live, λ named. used (live, named))
      ] in
      choice (live_value store id) refl

  pub retire-why : (id : Id) (fault : DeskFault) → has_cell Old ≡ false
      → (IsErrOf {T = List Instr} (Err fault) NoProgram ↔ (live_value store id ≡ None))
      → (IsErrOf {T = List Instr} (Err fault) InUse ↔ (IsLive store id × IsNamed directory id))
      → ((IsLive store id × (IsNamed directory id → ⊥)) → ⊥)
      → IsRetireFault Old id (Some fault)
  retire-why id NoProgram free missing used none = (free, missing.0 refl)
  retire-why id InUse free missing used none =
      let both = used.0 refl in
      (free, both.0, both.1)
  retire-why id NoConnection free missing used none =
      absurd (no-third id (λ gone. let no = missing.1 gone in absurd (cc)) (λ both. let no = used.1 both in absurd (cc)) none)
  retire-why id Taken free missing used none =
      absurd (no-third id (λ gone. let no = missing.1 gone in absurd (cc)) (λ both. let no = used.1 both in absurd (cc)) none)
  retire-why id NoLine free missing used none =
      absurd (no-third id (λ gone. let no = missing.1 gone in absurd (cc)) (λ both. let no = used.1 both in absurd (cc)) none)
  retire-why id ProgramsFull free missing used none =
      absurd (no-third id (λ gone. let no = missing.1 gone in absurd (cc)) (λ both. let no = used.1 both in absurd (cc)) none)
  retire-why id Exhausted free missing used none =
      absurd (no-third id (λ gone. let no = missing.1 gone in absurd (cc)) (λ both. let no = used.1 both in absurd (cc)) none)
  retire-why id BadContracts free missing used none =
      absurd (no-third id (λ gone. let no = missing.1 gone in absurd (cc)) (λ both. let no = used.1 both in absurd (cc)) none)
  retire-why id Busy free missing used none =
      absurd (no-third id (λ gone. let no = missing.1 gone in absurd (cc)) (λ both. let no = used.1 both in absurd (cc)) none)
  retire-why id NoMemory free missing used none =
      absurd (no-third id (λ gone. let no = missing.1 gone in absurd (cc)) (λ both. let no = used.1 both in absurd (cc)) none)
  retire-why id Stale free missing used none =
      absurd (no-third id (λ gone. let no = missing.1 gone in absurd (cc)) (λ both. let no = used.1 both in absurd (cc)) none)

-- An id that isn't live has no value.
pub not-live : (store : List (Slot (List Instr))) (id : Id) → (IsLive store id → ⊥) → live_value store id ≡ None
not-live store id dead =
    let choice : (o : Option (List Instr)) → live_value store id ≡ o → o ≡ None = elim [
      | None ↦ λ e. refl
      | Some code ↦ λ e. absurd (dead (subst (λ (o : Option (List Instr)). IsSome o) (sym e) refl))
    ] in
    choice (live_value store id) refl
