-- Look-ups in the connections and codes of a world, before and after a change of one.
use Rattle.std.proofs.Common.{◌≡◌, ◌+◌, Bool, true, false, cond, List, [], ◌∷◌, Option, Some, IsSome, refl, sym, ap, ◌∙◌, subst, arith}
use Rattle.std.specs.List.{list_any}
use Rattle.std.proofs.lemmas.Bool.{or_left, or_right}
use Rattle.std.proofs.lemmas.Option.{same_Some}
use Rattle.upc_cell.specs.declared.vc.Vc.{Vc}
use Rattle.upc_cell.specs.Connection.{is_same_vc}
use Rattle.upc_cell.proofs.Public.{vc_same}
use Rattle.bpf_code.specs.declared.instr.Instr.{Instr}
use Rattle.gen_arena.specs.declared.id.Id.{Id}
use Rattle.gen_arena.specs.SameId.{is_same_id}
use Rattle.gen_arena.proofs.Public.{id_same}
use Rattle.card_core.specs.World.{World, Connection, code_in, times_given, connection_in, without_connection, with_connection}
use Rattle.card_core.specs.inner.Sound.{WorldInvariant}
use Rattle.card_core.proofs.ConnectionLemmas.{connection-later}
use Rattle.card_core.proofs.LookUps.{there_is}

pub without-others : (connections : List (Vc × Connection)) (vc other : Vc) → is_same_vc other vc ≡ false
    → connection_in (without_connection connections vc) other ≡ connection_in connections other
without-others [] vc other apart = refl
without-others (here ∷ later) vc other apart =
    let rest = without-others later vc other apart in
    let choice : (b : Bool) → is_same_vc vc here.0 ≡ b
    → connection_in (cond b (without_connection later vc) (here ∷ without_connection later vc)) other
    ≡ connection_in (here ∷ later) other = elim [
      | true ↦ λ e.
          let away : is_same_vc other here.0 ≡ false =
          subst (λ (v : Vc). is_same_vc other v ≡ false) (vc_same vc here.0 e) apart in
          rest ∙ sym (connection-later here.0 other here.1 later away)
      | false ↦ λ e. ap (cond (is_same_vc other here.0) (Some here.1)) rest
    ] in
    choice (is_same_vc vc here.0) refl

pub with-here : (connections : List (Vc × Connection)) (vc other : Vc) (connection : Connection) → is_same_vc other vc ≡ true
    → connection_in (with_connection connections vc connection) other ≡ Some connection
with-here connections vc other connection e =
    ap (λ b. cond b (Some connection) (connection_in (without_connection connections vc) other)) e

pub with-others : (connections : List (Vc × Connection)) (vc other : Vc) (connection : Connection) → is_same_vc other vc ≡ false
    → connection_in (with_connection connections vc connection) other ≡ connection_in connections other
with-others connections vc other connection apart =
    connection-later vc other connection (without_connection connections vc) apart
    ∙ without-others connections vc other apart

-- The list has the same connection for equal virtual connections.
pub found-same : (connections : List (Vc × Connection)) (vc other : Vc) (found : Option Connection) → is_same_vc vc other ≡ true
    → connection_in connections other ≡ found → connection_in connections vc ≡ found
found-same connections vc other found e at =
    subst (λ (v : Vc). connection_in connections v ≡ found) (sym (vc_same vc other e)) at

-- A live program keeps its code after a load under a new id.
pub code-stays : (world : World) (id program : Id) (code : List Instr) → WorldInvariant world
    → id.generation ≡ times_given world.loaded id.slot + 1 → IsSome (code_in world.live program)
    → code_in (record { id = id; code = code } ∷ world.loaded) program ≡ code_in world.loaded program
code-stays world id program code sound next live =
    let there = there_is (code_in world.live program) live in
    let given = sound.programs.live_given program there.0 there.1 in
    let choice : (b : Bool) → is_same_id program id ≡ b
    → cond b (Some code) (code_in world.loaded program) ≡ code_in world.loaded program = elim [
      | true ↦ λ e.
          let old = subst (λ (i : Id). code_in world.loaded i ≡ Some there.0) (id_same program id e) given in
          absurd (omega (arith, sound.programs.once id there.0 old, next))
      | false ↦ λ e. refl
    ] in
    choice (is_same_id program id) refl

-- If the test is true for a connection that is found, it is true for some entry.
pub connection-passes : (test : (Vc × Connection) → Bool) (connections : List (Vc × Connection)) (vc : Vc) (connection : Connection)
    → connection_in connections vc ≡ Some connection → ((other : Vc) → test (other, connection) ≡ true)
    → list_any test connections ≡ true
connection-passes test [] vc connection at passes = absurd (cc)
connection-passes test (first ∷ later) vc connection at passes =
    let choice : (b : Bool) → is_same_vc vc first.0 ≡ b → list_any test (first ∷ later) ≡ true = elim [
      | true ↦ λ same.
          let found : connection_in (first ∷ later) vc ≡ Some first.1 = ap (λ b. cond b (Some first.1) (connection_in later vc)) same in
          let is : first.1 ≡ connection = same_Some first.1 connection (sym found ∙ at) in
          or_left (test first) (list_any test later)
          (subst (λ (c : Connection). test (first.0, c) ≡ true) (sym is) (passes first.0))
      | false ↦ λ differs.
          or_right (test first) (list_any test later)
          (connection-passes test later vc connection (sym (connection-later first.0 vc first.1 later differs) ∙ at) passes)
    ] in
    choice (is_same_vc vc first.0) refl
