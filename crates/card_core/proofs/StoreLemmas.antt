-- The agreement of the store, and the world's tests of slots and programs.
use Rattle.std.proofs.Common.{◌≡◌, ◌≢◌, ℕ, zero, suc, ◌+◌, ◌<◌, Bool, true, false, cond, not, ◌&&◌, ◌||◌, Option, Some, None, IsSome, List, [], ◌∷◌, length, refl, sym, ap, subst, ◌∙◌, inl, inr, arith}
use Rattle.std.specs.Prelude.{slice_get, nat_lt, is_none, ◌==◌}
use Rattle.std.specs.List.{list_any}
use Rattle.std.proofs.lemmas.Bool.{cases_eq}
use Rattle.std.proofs.lemmas.Bool.Decides.{nat_tests, Decides-eqb}
use Rattle.std.proofs.lemmas.Option.{slice_get_within}
use Rattle.gen_arena.specs.declared.id.Id.{Id}
use Rattle.gen_arena.specs.SameId.{is_same_id}
use Rattle.gen_arena.specs.Slot.{Slot, generation_at, generation_or_zero, greatest_generation, full_slot, empty_slot}
use Rattle.gen_arena.specs.Live.{live_value}
use Rattle.gen_arena.specs.Free.{NoneIsFree}
use Rattle.gen_arena.specs.Insert.{Inserts}
use Rattle.gen_arena.specs.Remove.{Removes}
use Rattle.gen_arena.proofs.Public.{id_same, id_itself, id_differs, id_cases, slot_of_live, live_of_slot, Inserts-live, Inserts-others, Inserts-length, Removes-gone, Removes-others, Removes-length}
use Rattle.bpf_code.specs.declared.instr.Instr.{Instr}
use Rattle.card_core.specs.declared.shape.Shape.{Shape}
use Rattle.card_core.specs.World.{World, Loading, code_in, without_code, times_given, is_open_slot, any_below}
use Rattle.card_core.specs.Agreement.{StoreAgrees}
use Rattle.card_core.proofs.CodeLemmas.{code-first, code-later, without_code-here, without_code-others, times-same}
use Rattle.gen_arena.proofs.Public.{slice_get-set_other}
use Rattle.card_core.proofs.LineLemmas.{get-set_same}

or_right : (a b : Bool) → b ≡ true → (a || b) ≡ true
or_right true b e = refl
or_right false b e = e

or_left : (a b : Bool) → a ≡ true → (a || b) ≡ true
or_left a b e = ap (λ c. c || b) e

-- A test that is true somewhere below the bound.
pub below-passes : (number : ℕ) (test : ℕ → Bool) (k : ℕ) → k < number → test k ≡ true → any_below number test ≡ true
below-passes zero test k within e = absurd (omega arith)
below-passes (suc number) test k within e = elim (cases_eq k number) [
  | inl same ↦ or_left (test number) (any_below number test) (subst (λ (n : ℕ). test n ≡ true) same e)
  | inr apart ↦ or_right (test number) (any_below number test) (below-passes number test k (omega arith) e)
]

-- A test that is true nowhere below the bound.
pub below-fails : (number : ℕ) (test : ℕ → Bool) → ((k : ℕ) → k < number → test k ≡ false) → any_below number test ≡ false
below-fails zero test fails = refl
below-fails (suc number) test fails =
    ap (λ b. b || any_below number test) (fails number (omega arith))
    ∙ below-fails number test (λ k within. fails k (omega arith))

-- The slot of a live id passes the test.
live-tested : (live : List Loading) (id : Id) (code : List Instr) → code_in live id ≡ Some code
    → list_any (λ (loading : Loading). loading.id.slot == id.slot) live ≡ true
live-tested [] id code e = absurd (cc)
live-tested (here ∷ later) id code e =
    let choice : (b : Bool) → is_same_id id here.id ≡ b
    → list_any (λ (loading : Loading). loading.id.slot == id.slot) (here ∷ later) ≡ true = elim [
      | true ↦ λ same.
          let is : id ≡ here.id = id_same id here.id same in
          or_left (here.id.slot == id.slot) (list_any (λ (loading : Loading). loading.id.slot == id.slot) later)
          ((Decides-eqb here.id.slot id.slot).1 (ap (λ (i : Id). i.slot) (sym is)))
      | false ↦ λ differs.
          or_right (here.id.slot == id.slot) (list_any (λ (loading : Loading). loading.id.slot == id.slot) later)
          (live-tested later id code (sym (code-later here later id differs) ∙ e))
    ] in
    choice (is_same_id id here.id) refl

-- A slot that passes the test has a live id.
tested-live : (live : List Loading) (slot : ℕ) → list_any (λ (loading : Loading). loading.id.slot == slot) live ≡ true
    → (id : Id) × (code : List Instr) × (id.slot ≡ slot) × (code_in live id ≡ Some code)
tested-live [] slot e = absurd (cc)
tested-live (here ∷ later) slot e =
    let choice : (b : Bool) → (here.id.slot == slot) ≡ b
    → (id : Id) × (code : List Instr) × (id.slot ≡ slot) × (code_in (here ∷ later) id ≡ Some code) = elim [
      | true ↦ λ same.
          (here.id, here.code, (Decides-eqb here.id.slot slot).0 same, code-first here later here.id (id_itself here.id))
      | false ↦ λ differs.
          let rest = tested-live later slot (sym (ap (λ b. b || list_any (λ (loading : Loading). loading.id.slot == slot) later) differs) ∙ e) in
          let found : (b : Bool) → is_same_id rest.0 here.id ≡ b → (code : List Instr) × (code_in (here ∷ later) rest.0 ≡ Some code) = elim [
            | true ↦ λ same. (here.code, code-first here later rest.0 same)
            | false ↦ λ away. (rest.1, code-later here later rest.0 away ∙ rest.3)
          ] in
          let one = found (is_same_id rest.0 here.id) refl in
          (rest.0, one.0, rest.2, one.1)
    ] in
    choice (here.id.slot == slot) refl

free_parts : (value : Option (List Instr)) (generation : ℕ) → (is_none value && nat_lt generation greatest_generation) ≡ true
    → (value ≡ None) × (nat_lt generation greatest_generation ≡ true)
free_parts None generation free = (refl, free)
free_parts (Some v) generation free = absurd (cc)

and_false : (a : Bool) → (a && false) ≡ false
and_false true = refl
and_false false = refl

some_value : (o : Option (List Instr)) → IsSome o → (code : List Instr) × (o ≡ Some code)
some_value None has = absurd (cc)
some_value (Some code) has = (code, refl)

some_there : (slots : List (Slot (List Instr))) (k : ℕ) → k < length slots → (slot : Slot (List Instr)) × (slice_get slots k ≡ Some slot)
some_there [] k within = absurd (omega arith)
some_there (slot ∷ later) zero within = (slot, refl)
some_there (slot ∷ later) (suc k) within = some_there later k (omega arith)

times-other : (loading : Loading) (later : List Loading) (slot : ℕ) → loading.id.slot ≢ slot
    → times_given (loading ∷ later) slot ≡ times_given later slot
times-other loading later slot apart =
    let differs : (loading.id.slot == slot) ≡ false = grind (arith, nat_tests) in
    ap (λ b. cond b (suc (times_given later slot)) (times_given later slot)) differs

module _ (shape : Shape) (store : List (Slot (List Instr))) (given live : List Loading) (agrees : StoreAgrees shape store given live) where
  -- The slot of an id that was just given was open.
  pub inserted-open : (world : World) → world.loaded ≡ given → world.live ≡ live → (new : List (Slot (List Instr))) (id : Id) (code : List Instr)
      → Inserts store new id code → is_open_slot world id.slot ≡ true
  inserted-open world same_given same_live new id code insert =
      let parts = free_parts insert.taken.value insert.taken.generation insert.was_free in
      let times : times_given given id.slot ≡ insert.taken.generation =
      sym (agrees.generations id.slot) ∙ ap generation_or_zero insert.held in
      let unworn : nat_lt (times_given given id.slot) greatest_generation ≡ true =
      ap (λ (n : ℕ). nat_lt n greatest_generation) times ∙ parts.1 in
      let test = list_any (λ (loading : Loading). loading.id.slot == id.slot) live in
      let choice : (b : Bool) → test ≡ b → b ≡ false = elim [
        | true ↦ λ e.
            let other = tested-live live id.slot e in
            let value : live_value store other.0 ≡ Some other.1 = agrees.values other.0 ∙ other.3 in
            let slot_there : slice_get store id.slot ≡ Some (full_slot other.0.generation other.1) =
            subst (λ (n : ℕ). slice_get store n ≡ Some (full_slot other.0.generation other.1)) other.2 (slot_of_live store other.0 other.1 value) in
            let is : Some insert.taken ≡ Some (full_slot other.0.generation other.1) = sym insert.held ∙ slot_there in
            let none = parts.0 in
            absurd (cc)
        | false ↦ λ e. refl
      ] in
      let empty : test ≡ false = choice test refl in
      ap (λ (list : List Loading). not (list_any (λ (loading : Loading). loading.id.slot == id.slot) list) && nat_lt (times_given world.loaded id.slot) greatest_generation) same_live
      ∙ ap (λ (list : List Loading). not test && nat_lt (times_given list id.slot) greatest_generation) same_given
      ∙ ap (λ b. not b && nat_lt (times_given given id.slot) greatest_generation) empty ∙ unworn

  -- The slot of the id is one of the card's, and its generation is the slot's next.
  pub inserted-within : (new : List (Slot (List Instr))) (id : Id) (code : List Instr) → Inserts store new id code → id.slot < shape.programs
  inserted-within new id code insert =
      let within = slice_get_within store id.slot insert.taken insert.held in
      omega (arith, within, agrees.sized)

  pub inserted-next : (new : List (Slot (List Instr))) (id : Id) (code : List Instr) → Inserts store new id code
      → id.generation ≡ times_given given id.slot + 1
  inserted-next new id code insert =
      insert.next ∙ ap (λ (n : ℕ). n + 1) (sym (sym (agrees.generations id.slot) ∙ ap generation_or_zero insert.held))

  -- If no slot is free, none is open.
  pub full-closed : (world : World) → world.loaded ≡ given → world.live ≡ live → NoneIsFree store → (slot : ℕ) → slot < shape.programs
      → is_open_slot world slot ≡ false
  full-closed world same_given same_live full slot within =
      let there = some_there store slot (omega (arith, agrees.sized)) in
      let times : times_given given slot ≡ there.0.generation =
      sym (agrees.generations slot) ∙ ap generation_or_zero there.1 in
      let Closed : Bool → Bool → Type 0 = λ any unworn. (not any && unworn) ≡ false in
      let test = list_any (λ (loading : Loading). loading.id.slot == slot) live in
      let unworn = nat_lt (times_given given slot) greatest_generation in
      let closed : (not test && unworn) ≡ false = elim (full slot there.0 there.1) [
        | inl has ↦
            let value = some_value there.0.value has in
            let id : Id = record { slot = slot; generation = there.0.generation } in
            let slot_there : slice_get store slot ≡ Some (full_slot there.0.generation value.0) =
            there.1 ∙ ap (λ (o : Option (List Instr)). Some (record { generation = there.0.generation; value = o })) value.1 in
            let alive : code_in live id ≡ Some value.0 = sym (agrees.values id) ∙ live_of_slot store id value.0 slot_there in
            ap (λ b. not b && unworn) (live-tested live id value.0 alive)
        | inr worn ↦
            let all : unworn ≡ false =
            ap (λ (n : ℕ). nat_lt n greatest_generation) (times ∙ worn) in
            ap (λ b. not test && b) all ∙ and_false (not test)
      ] in
      ap (λ (list : List Loading). not (list_any (λ (loading : Loading). loading.id.slot == slot) list) && nat_lt (times_given world.loaded slot) greatest_generation) same_live
      ∙ ap (λ (list : List Loading). not test && nat_lt (times_given list slot) greatest_generation) same_given
      ∙ closed

  -- The store after an id is given.
  pub store-inserted : (new : List (Slot (List Instr))) (id : Id) (code : List Instr) → Inserts store new id code
      → StoreAgrees shape new (record { id = id; code = code } ∷ given) (record { id = id; code = code } ∷ live)
  store-inserted new id code insert =
      let loading : Loading = record { id = id; code = code } in
      record {
        sized = Inserts-length store new id code insert ∙ agrees.sized;
        generations = λ slot. elim (cases_eq slot id.slot) [
          | inl same ↦
              let here : slice_get new id.slot ≡ Some (full_slot id.generation code) =
              ap (λ (slots : List (Slot (List Instr))). slice_get slots id.slot) insert.after
              ∙ get-set_same store id.slot (full_slot id.generation code) insert.taken insert.held in
              let times : times_given given id.slot ≡ insert.taken.generation =
              sym (agrees.generations id.slot) ∙ ap generation_or_zero insert.held in
              let more : times_given (loading ∷ given) id.slot ≡ suc (times_given given id.slot) = times-same loading given id.slot refl in
              let next : id.generation ≡ times_given (loading ∷ given) id.slot = omega (arith, more, times, insert.next) in
              subst (λ (n : ℕ). generation_at new n ≡ times_given (loading ∷ given) n) (sym same) (ap generation_or_zero here ∙ next)
          | inr apart ↦
              ap (λ (slots : List (Slot (List Instr))). generation_at slots slot) insert.after
              ∙ ap generation_or_zero (slice_get-set_other store id.slot slot (full_slot id.generation code) apart)
              ∙ agrees.generations slot ∙ sym (times-other loading given slot (λ e. apart (sym e)))
        ];
        values = λ other. elim (id_cases other id) [
          | inl same ↦
              subst (λ (i : Id). live_value new i ≡ code_in (loading ∷ live) i) (sym same)
              (Inserts-live store new id code insert ∙ sym (code-first loading live id (id_itself id)))
          | inr apart ↦
              Inserts-others store new id code insert other apart ∙ agrees.values other
              ∙ sym (code-later loading live other (id_differs other id apart))
        ];
      }

  -- The store after an id is retired.
  pub store-removed : (new : List (Slot (List Instr))) (id : Id) (code : List Instr) → Removes store new id code
      → StoreAgrees shape new given (without_code live id)
  store-removed new id code remove =
      let slot_there = slot_of_live store id code remove.was in
      record {
        sized = Removes-length store new id code remove ∙ agrees.sized;
        generations = λ slot. elim (cases_eq slot id.slot) [
          | inl same ↦
              let here : slice_get new id.slot ≡ Some (empty_slot id.generation) =
              ap (λ (slots : List (Slot (List Instr))). slice_get slots id.slot) remove.after
              ∙ get-set_same store id.slot (empty_slot id.generation) (full_slot id.generation code) slot_there in
              let was : generation_at store id.slot ≡ id.generation = ap generation_or_zero slot_there in
              subst (λ (n : ℕ). generation_at new n ≡ times_given given n) (sym same)
              (ap generation_or_zero here ∙ sym was ∙ agrees.generations id.slot)
          | inr apart ↦
              ap (λ (slots : List (Slot (List Instr))). generation_at slots slot) remove.after
              ∙ ap generation_or_zero (slice_get-set_other store id.slot slot (empty_slot id.generation) apart)
              ∙ agrees.generations slot
        ];
        values = λ other. elim (id_cases other id) [
          | inl same ↦
              subst (λ (i : Id). live_value new i ≡ code_in (without_code live id) i) (sym same)
              (Removes-gone store new id code remove ∙ sym (without_code-here live id))
          | inr apart ↦
              Removes-others store new id code remove other apart ∙ agrees.values other ∙ sym (without_code-others live id other apart)
        ];
      }
