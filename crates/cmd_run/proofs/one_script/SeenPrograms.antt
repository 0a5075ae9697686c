-- The view of a card's programs after a lookup, after a removal, and after one more was loaded.
use Rattle.std.proofs.Common.{◌≡◌, ◌<◌, Bool, true, false, cond, if◌then◌else◌, not, ◌||◌, List, [], ◌∷◌, Some, refl, sym, ap, ◌∙◌, subst}
use Rattle.std.specs.List.{list_any, filter, AllByRecursion}
use Rattle.upc_cell.specs.declared.vc.Vc.{Vc}
use Rattle.gen_arena.specs.SameId.{is_same_id}
use Rattle.gen_arena.specs.declared.id.Id.{Id}
use Rattle.card_core.specs.World.{Connection, Loading, code_in, without_code}
use Rattle.cmd_run.proofs.one_script.Numbers.{number_in, number-stays, number-gives, number-gives_back}
use Rattle.cmd_run.proofs.one_script.Seen.{code_of, names_number, seen_connection, seen_connections, seen_live, seen_program, without_program}

-- Each of the codes has a name.
abbrev pub AreKnown : List Loading → List Loading → Type 0
AreKnown given live = AllByRecursion (λ loading. 0 < number_in given loading.id) live

-- Each connection's program has a name.
abbrev pub NameKnown : List Loading → List (Vc × Connection) → Type 0
NameKnown given connections = AllByRecursion (λ here. 0 < number_in given here.1.program) connections

pub code-seen : (given live : List Loading) → AreKnown given live → (id : Id)
    → code_of (seen_live given live) (number_in given id) ≡ code_in live id
code-seen given [] known id = refl
code-seen given (loading ∷ later) known id =
    let same = number-gives_back given id loading.id known.0 in
    let rest = code-seen given later known.1 id in
    λ i. if sym same i then Some loading.code else rest i

pub without-seen : (given live : List Loading) → AreKnown given live → (id : Id)
    → seen_live given (without_code live id) ≡ without_program (seen_live given live) (number_in given id)
without-seen given [] known id = refl
without-seen given (loading ∷ later) known id =
    let same = number-gives_back given id loading.id known.0 in
    let rest = without-seen given later known.1 id in
    let choice : (b : Bool) → seen_live given (if b then without_code later id else loading ∷ without_code later id)
    ≡ (if b then without_program (seen_live given later) (number_in given id)
    else seen_program given loading ∷ without_program (seen_live given later) (number_in given id)) = elim [
      | true ↦ rest
      | false ↦ ap (λ programs. seen_program given loading ∷ programs) rest
    ] in
    choice (is_same_id id loading.id)
    ∙ ap (λ b. if b then without_program (seen_live given later) (number_in given id)
    else seen_program given loading ∷ without_program (seen_live given later) (number_in given id)) same

pub named-seen : (given : List Loading) (connections : List (Vc × Connection)) → NameKnown given connections → (id : Id)
    → list_any (λ here. is_same_id here.1.program id) connections ≡ names_number (seen_connections given connections) (number_in given id)
named-seen given [] known id = refl
named-seen given (here ∷ later) known id =
    let same = number-gives given here.1.program id known.0 in
    let rest = named-seen given later known.1 id in
    λ i. same i || rest i

-- One more code leaves the view of the others unchanged.
pub live-stays : (loading : Loading) (given live : List Loading) → number_in given loading.id ≡ 0 → AreKnown given live
    → seen_live (loading ∷ given) live ≡ seen_live given live
live-stays loading given [] new known = refl
live-stays loading given (here ∷ later) new known =
    let number = number-stays loading given here.id new known.0 in
    let rest = live-stays loading given later new known.1 in
    λ i. record { number = number i; code = here.code } ∷ rest i

pub known-stays : (loading : Loading) (given live : List Loading) → number_in given loading.id ≡ 0 → AreKnown given live
    → AreKnown (loading ∷ given) live
known-stays loading given [] new known = tt
known-stays loading given (here ∷ later) new known =
    let number = number-stays loading given here.id new known.0 in
    let some = known.0 in
    (subst (λ n. 0 < n) (sym number) some, known-stays loading given later new known.1)

pub connections-stay : (loading : Loading) (given : List Loading) (connections : List (Vc × Connection))
    → number_in given loading.id ≡ 0 → NameKnown given connections
    → seen_connections (loading ∷ given) connections ≡ seen_connections given connections
connections-stay loading given [] new known = refl
connections-stay loading given (here ∷ later) new known =
    let number = number-stays loading given here.1.program new known.0 in
    let rest = connections-stay loading given later new known.1 in
    λ i. (here.0, record (seen_connection given here.1) { program = number i }) ∷ rest i

pub names-stay : (loading : Loading) (given : List Loading) (connections : List (Vc × Connection))
    → number_in given loading.id ≡ 0 → NameKnown given connections → NameKnown (loading ∷ given) connections
names-stay loading given [] new known = tt
names-stay loading given (here ∷ later) new known =
    let number = number-stays loading given here.1.program new known.0 in
    let some = known.0 in
    (subst (λ n. 0 < n) (sym number) some, names-stay loading given later new known.1)

-- Removing a code keeps all others.
pub without-filter : (live : List Loading) (id : Id) → without_code live id ≡ filter (λ loading. not (is_same_id id loading.id)) live
without-filter [] id = refl
without-filter (loading ∷ later) id =
    let rest = without-filter later id in
    let choice : (b : Bool) → (if b then without_code later id else loading ∷ without_code later id)
    ≡ cond (not b) (loading ∷ filter (λ loading. not (is_same_id id loading.id)) later) (filter (λ loading. not (is_same_id id loading.id)) later) = elim [
      | true ↦ rest
      | false ↦ ap (λ others. loading ∷ others) rest
    ] in
    choice (is_same_id id loading.id)
