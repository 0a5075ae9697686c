-- Look-ups in the codes of a world, before and after a load or a retirement.
use Rattle.std.proofs.Common.{◌≡◌, ◌≢◌, ◌⊎◌, ℕ, suc, ◌≤◌, ◌==◌, Bool, true, false, cond, List, [], ◌∷◌, Some, None, refl, sym, ap, ◌∙◌, subst, inl, inr, arith}
use Rattle.std.proofs.lemmas.Bool.{eq-eqb}
use Rattle.bpf_code.specs.declared.instr.Instr.{Instr}
use Rattle.gen_arena.specs.declared.id.Id.{Id}
use Rattle.gen_arena.specs.SameId.{is_same_id}
use Rattle.gen_arena.proofs.Public.{id_same, id_itself, id_differs, id_cases}
use Rattle.card_core.specs.World.{Loading, code_in, without_code, times_given}
use Rattle.card_core.proofs.LookUps.{same_some}

pub code-first : (loading : Loading) (later : List Loading) (id : Id) → is_same_id id loading.id ≡ true
    → code_in (loading ∷ later) id ≡ Some loading.code
code-first loading later id e = ap (λ b. cond b (Some loading.code) (code_in later id)) e

pub code-later : (loading : Loading) (later : List Loading) (id : Id) → is_same_id id loading.id ≡ false
    → code_in (loading ∷ later) id ≡ code_in later id
code-later loading later id e = ap (λ b. cond b (Some loading.code) (code_in later id)) e

pub without_code-here : (loadings : List Loading) (id : Id) → code_in (without_code loadings id) id ≡ None
without_code-here [] id = refl
without_code-here (here ∷ later) id =
    let rest = without_code-here later id in
    let choice : (b : Bool) → is_same_id id here.id ≡ b
    → code_in (cond b (without_code later id) (here ∷ without_code later id)) id ≡ None = elim [
      | true ↦ λ e. rest
      | false ↦ λ e. code-later here (without_code later id) id e ∙ rest
    ] in
    choice (is_same_id id here.id) refl

pub without_code-others : (loadings : List Loading) (id other : Id) → other ≢ id
    → code_in (without_code loadings id) other ≡ code_in loadings other
without_code-others [] id other apart = refl
without_code-others (here ∷ later) id other apart =
    let rest = without_code-others later id other apart in
    let choice : (b : Bool) → is_same_id id here.id ≡ b
    → code_in (cond b (without_code later id) (here ∷ without_code later id)) other
    ≡ code_in (here ∷ later) other = elim [
      | true ↦ λ e.
          let away : is_same_id other here.id ≡ false =
          id_differs other here.id (λ same. apart (same ∙ sym (id_same id here.id e))) in
          rest ∙ sym (code-later here later other away)
      | false ↦ λ e. ap (cond (is_same_id other here.id) (Some here.code)) rest
    ] in
    choice (is_same_id id here.id) refl

-- A code that is found after one was removed was found before.
pub without_code-was : (loadings : List Loading) (gone id : Id) (code : List Instr)
    → code_in (without_code loadings gone) id ≡ Some code → (id ≢ gone) × (code_in loadings id ≡ Some code)
without_code-was loadings gone id code e = elim (id_cases id gone) [
  | inl same ↦
      let at : code_in (without_code loadings gone) gone ≡ Some code =
      subst (λ (i : Id). code_in (without_code loadings gone) i ≡ Some code) same e in
      let none = without_code-here loadings gone in
      absurd (cc)
  | inr apart ↦ (apart, sym (without_code-others loadings gone id apart) ∙ e)
]

-- The number of times that a slot was given, after one more.
pub times-same : (loading : Loading) (later : List Loading) (slot : ℕ) → loading.id.slot ≡ slot
    → times_given (loading ∷ later) slot ≡ suc (times_given later slot)
times-same loading later slot e =
    ap (λ b. cond b (suc (times_given later slot)) (times_given later slot)) (eq-eqb loading.id.slot slot e)

pub times-grow : (loading : Loading) (later : List Loading) (slot : ℕ)
    → times_given later slot ≤ times_given (loading ∷ later) slot
times-grow loading later slot =
    let choice : (b : Bool) → times_given later slot ≤ cond b (suc (times_given later slot)) (times_given later slot) = elim [
      | true ↦ omega arith
      | false ↦ omega arith
    ] in
    choice (loading.id.slot == slot)

-- A code that is found after a load is the new one or was found before.
pub code-cases : (loading : Loading) (later : List Loading) (id : Id) (code : List Instr)
    → code_in (loading ∷ later) id ≡ Some code
    → ((id ≡ loading.id) × (loading.code ≡ code)) ⊎ ((id ≢ loading.id) × (code_in later id ≡ Some code))
code-cases loading later id code e =
    let choice : (b : Bool) → is_same_id id loading.id ≡ b → cond b (Some loading.code) (code_in later id) ≡ Some code
    → ((id ≡ loading.id) × (loading.code ≡ code)) ⊎ ((id ≢ loading.id) × (code_in later id ≡ Some code)) = elim [
      | true ↦ λ same at. inl (id_same id loading.id same, same_some loading.code code at)
      | false ↦ λ differs at. inr (
        λ same.
            let itself : is_same_id id loading.id ≡ true = subst (λ (i : Id). is_same_id id i ≡ true) same (id_itself id) in
            cc,
        at,
      )
    ] in
    choice (is_same_id id loading.id) refl e
