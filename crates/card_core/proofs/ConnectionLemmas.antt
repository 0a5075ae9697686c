-- Look-ups in the connections of a world, before and after a change of one.
use Rattle.std.proofs.Common.{◌≡◌, ◌≢◌, ◌⊎◌, suc, Bool, true, false, cond, List, [], ◌∷◌, zero, Option, Some, None, refl, sym, ap, ◌∙◌, subst, inl, inr, arith}
use Rattle.std.specs.List.{list_any, Contains}
use Rattle.std.proofs.lemmas.Bool.{or_left, or_right}
use Rattle.upc_cell.specs.declared.vc.Vc.{Vc}
use Rattle.upc_cell.specs.Connection.{is_same_vc}
use Rattle.upc_cell.proofs.Public.{vc_same, vc_itself, vc_differs}
use Rattle.card_core.specs.World.{Connection, connection_in, without_connection, with_connection}
use Rattle.card_core.proofs.LookUps.{same_some}

pub connection-first : (vc other : Vc) (connection : Connection) (later : List (Vc × Connection)) → is_same_vc other vc ≡ true
    → connection_in ((vc, connection) ∷ later) other ≡ Some connection
connection-first vc other connection later e = ap (λ b. cond b (Some connection) (connection_in later other)) e

pub connection-later : (vc other : Vc) (connection : Connection) (later : List (Vc × Connection)) → is_same_vc other vc ≡ false
    → connection_in ((vc, connection) ∷ later) other ≡ connection_in later other
connection-later vc other connection later e = ap (λ b. cond b (Some connection) (connection_in later other)) e

pub without-here : (connections : List (Vc × Connection)) (vc : Vc) → connection_in (without_connection connections vc) vc ≡ None
without-here [] vc = refl
without-here (here ∷ later) vc =
    let rest = without-here later vc in
    let choice : (b : Bool) → is_same_vc vc here.0 ≡ b
    → connection_in (cond b (without_connection later vc) (here ∷ without_connection later vc)) vc ≡ None = elim [
      | true ↦ λ e. rest
      | false ↦ λ e. connection-later here.0 vc here.1 (without_connection later vc) e ∙ rest
    ] in
    choice (is_same_vc vc here.0) refl

pub without-others : (connections : List (Vc × Connection)) (vc other : Vc) → other ≢ vc
    → connection_in (without_connection connections vc) other ≡ connection_in connections other
without-others [] vc other apart = refl
without-others (here ∷ later) vc other apart =
    let rest = without-others later vc other apart in
    let choice : (b : Bool) → is_same_vc vc here.0 ≡ b
    → connection_in (cond b (without_connection later vc) (here ∷ without_connection later vc)) other
    ≡ connection_in (here ∷ later) other = elim [
      | true ↦ λ e.
          let away : is_same_vc other here.0 ≡ false =
          vc_differs other here.0 (λ same. apart (same ∙ sym (vc_same vc here.0 e))) in
          rest ∙ sym (connection-later here.0 other here.1 later away)
      | false ↦ λ e. ap (cond (is_same_vc other here.0) (Some here.1)) rest
    ] in
    choice (is_same_vc vc here.0) refl

pub with-here : (connections : List (Vc × Connection)) (vc : Vc) (connection : Connection)
    → connection_in (with_connection connections vc connection) vc ≡ Some connection
with-here connections vc connection =
    connection-first vc vc connection (without_connection connections vc) (vc_itself vc)

pub with-others : (connections : List (Vc × Connection)) (vc : Vc) (connection : Connection) (other : Vc) → other ≢ vc
    → connection_in (with_connection connections vc connection) other ≡ connection_in connections other
with-others connections vc connection other apart =
    connection-later vc other connection (without_connection connections vc) (vc_differs other vc apart)
    ∙ without-others connections vc other apart

-- One connection of the list changed, and no other.
pub record ConnectionChanges (old new : List (Vc × Connection)) (vc : Vc) (connection : Option Connection) : Type 0 where
  pub here : connection_in new vc ≡ connection
  pub others : (other : Vc) → other ≢ vc → connection_in new other ≡ connection_in old other

pub changes-with : (old : List (Vc × Connection)) (vc : Vc) (connection : Connection)
    → ConnectionChanges old (with_connection old vc connection) vc (Some connection)
changes-with old vc connection = record {
  here = with-here old vc connection;
  others = λ other apart. with-others old vc connection other apart;
}

pub changes-without : (old : List (Vc × Connection)) (vc : Vc)
    → ConnectionChanges old (without_connection old vc) vc None
changes-without old vc = record {
  here = without-here old vc;
  others = λ other apart. without-others old vc other apart;
}

-- If the test is true for a connection that is found, it is true for some entry.
pub connection_passes : (test : (Vc × Connection) → Bool) (connections : List (Vc × Connection)) (vc : Vc) (connection : Connection)
    → connection_in connections vc ≡ Some connection → ((other : Vc) → test (other, connection) ≡ true)
    → list_any test connections ≡ true
connection_passes test [] vc connection at passes = absurd (cc)
connection_passes test (first ∷ later) vc connection at passes =
    let choice : (b : Bool) → is_same_vc vc first.0 ≡ b → list_any test (first ∷ later) ≡ true = elim [
      | true ↦ λ same.
          let is : first.1 ≡ connection =
          same_some first.1 connection (sym (connection-first first.0 vc first.1 later same) ∙ at) in
          or_left (test first) (list_any test later)
          (subst (λ (c : Connection). test (first.0, c) ≡ true) (sym is) (passes first.0))
      | false ↦ λ differs.
          or_right (test first) (list_any test later)
          (connection_passes test later vc connection (sym (connection-later first.0 vc first.1 later differs) ∙ at) passes)
    ] in
    choice (is_same_vc vc first.0) refl

-- Each entry of the list is the one that a look-up finds.
abbrev pub IsOnce : List (Vc × Connection) → Type 0
IsOnce connections = (here : Vc × Connection) → Contains connections here → connection_in connections here.0 ≡ Some here.1

contains-later : (first entry : Vc × Connection) (later : List (Vc × Connection)) → Contains later entry → Contains (first ∷ later) entry
contains-later first entry later there = (suc there.0, omega (arith, there.1), there.2)

contains-first : (first entry : Vc × Connection) (later : List (Vc × Connection)) → Contains (first ∷ later) entry
    → (first ≡ entry) ⊎ Contains later entry
contains-first first entry later (zero, within, is) = inl is
contains-first first entry later (suc place, within, is) = inr (place, omega (arith, within), is)

-- An entry of the list without one connection was in the list, and is another connection's.
pub contains-without : (connections : List (Vc × Connection)) (vc : Vc) (entry : Vc × Connection)
    → Contains (without_connection connections vc) entry → Contains connections entry × (entry.0 ≢ vc)
contains-without [] vc entry there = absurd (omega (arith, there.1))
contains-without (here ∷ later) vc entry there =
    let after : Contains (without_connection later vc) entry → Contains (here ∷ later) entry × (entry.0 ≢ vc) = λ there.
    let rest = contains-without later vc entry there in (contains-later here entry later rest.0, rest.1) in
    let choice : (b : Bool) → is_same_vc vc here.0 ≡ b
    → Contains (cond b (without_connection later vc) (here ∷ without_connection later vc)) entry
    → Contains (here ∷ later) entry × (entry.0 ≢ vc) = elim [
      | true ↦ λ e. after
      | false ↦ λ e there. elim (contains-first here entry (without_connection later vc) there) [
        | inl is ↦ (
          (zero, omega arith, is),
          λ same.
              let at : here.0 ≡ vc = ap (λ (one : Vc × Connection). one.0) is ∙ same in
              let itself : is_same_vc vc here.0 ≡ true = subst (λ (v : Vc). is_same_vc vc v ≡ true) (sym at) (vc_itself vc) in
              cc,
        )
        | inr rest ↦ after rest
      ]
    ] in
    choice (is_same_vc vc here.0) refl there

pub once-without : (connections : List (Vc × Connection)) (vc : Vc) → IsOnce connections → IsOnce (without_connection connections vc)
once-without connections vc once = λ here there.
    let was = contains-without connections vc here there in
    without-others connections vc here.0 was.1 ∙ once here was.0

pub once-with : (connections : List (Vc × Connection)) (vc : Vc) (connection : Connection) → IsOnce connections
    → IsOnce (with_connection connections vc connection)
once-with connections vc connection once = λ here there.
    elim (contains-first (vc, connection) here (without_connection connections vc) there) [
      | inl is ↦
          subst (λ (entry : Vc × Connection). connection_in (with_connection connections vc connection) entry.0 ≡ Some entry.1)
          is (with-here connections vc connection)
      | inr rest ↦
          let was = contains-without connections vc here rest in
          with-others connections vc connection here.0 was.1 ∙ once here was.0
    ]
