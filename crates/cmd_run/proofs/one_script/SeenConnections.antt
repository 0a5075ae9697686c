-- The view of a card's connections after a lookup and after a removal. No two connections have the same line.
use Rattle.std.proofs.Common.{◌≡◌, ℕ, ◌==◌, Bool, true, false, cond, if◌then◌else◌, not, List, [], ◌∷◌, Option, Some, None, is_some, option_map, refl, sym, ap, ◌∙◌, subst}
use Rattle.std.specs.Bool.{⊤}
use Rattle.std.specs.List.{filter, AllByRecursion}
use Rattle.std.proofs.lemmas.Bool.{or_from, or_left, or_right, eq-eqb, ne_eqb}
use Rattle.std.proofs.lemmas.Option.{same_Some}
use Rattle.upc_cell.specs.Connection.{is_same_vc}
use Rattle.upc_cell.specs.declared.vc.Vc.{Vc}
use Rattle.card_core.specs.World.{Connection, Loading, connection_in, without_connection}
use Rattle.cmd_run.proofs.one_script.OpenPlaces.{AreApart, is_taken, taken-filter}
use Rattle.cmd_run.proofs.one_script.Seen.{found_at, seen_connection, seen_connections, seen_entry, without_at}

pub found-seen : (given : List Loading) (connections : List (Vc × Connection)) (vc : Vc)
    → found_at (seen_connections given connections) vc ≡ option_map (seen_connection given) (connection_in connections vc)
found-seen given [] vc = refl
found-seen given (here ∷ later) vc =
    let rest = found-seen given later vc in
    let choice : (b : Bool) → (if b then Some (seen_connection given here.1) else found_at (seen_connections given later) vc)
    ≡ option_map (seen_connection given) (if b then Some here.1 else connection_in later vc) = elim [
      | true ↦ refl
      | false ↦ rest
    ] in
    choice (is_same_vc vc here.0)

pub is-mapped : {X Y : Type 0} (f : X → Y) (found : Option X) → is_some (option_map f found) ≡ is_some found
is-mapped f None = refl
is-mapped f (Some x) = refl

-- A virtual connection has a connection exactly if the view has one there.
pub some-seen : (given : List Loading) (connections : List (Vc × Connection)) (vc : Vc)
    → is_some (connection_in connections vc) ≡ is_some (found_at (seen_connections given connections) vc)
some-seen given connections vc =
    sym (ap is_some (found-seen given connections vc) ∙ is-mapped (seen_connection given) (connection_in connections vc))

pub gone-seen : (given : List Loading) (connections : List (Vc × Connection)) (vc : Vc)
    → seen_connections given (without_connection connections vc) ≡ without_at (seen_connections given connections) vc
gone-seen given [] vc = refl
gone-seen given (here ∷ later) vc =
    let rest = gone-seen given later vc in
    let choice : (b : Bool) → seen_connections given (if b then without_connection later vc else here ∷ without_connection later vc)
    ≡ (if b then without_at (seen_connections given later) vc else seen_entry given here ∷ without_at (seen_connections given later) vc) = elim [
      | true ↦ rest
      | false ↦ ap (λ others. seen_entry given here ∷ others) rest
    ] in
    choice (is_same_vc vc here.0)

-- Removing a connection keeps all others.
pub gone-filter : (connections : List (Vc × Connection)) (vc : Vc)
    → without_connection connections vc ≡ filter (λ here. not (is_same_vc vc here.0)) connections
gone-filter [] vc = refl
gone-filter (here ∷ later) vc =
    let rest = gone-filter later vc in
    let choice : (b : Bool) → (if b then without_connection later vc else here ∷ without_connection later vc)
    ≡ cond (not b) (here ∷ filter (λ one. not (is_same_vc vc one.0)) later) (filter (λ one. not (is_same_vc vc one.0)) later) = elim [
      | true ↦ rest
      | false ↦ ap (λ others. here ∷ others) rest
    ] in
    choice (is_same_vc vc here.0)

module _ {X : Type 0} where
  -- A fact about each item holds for each that the filter keeps.
  pub all-filter : (P : X → Type 0) (test : X → Bool) (items : List X) → AllByRecursion P items → AllByRecursion P (filter test items)
  all-filter P test [] all = tt
  all-filter P test (item ∷ later) all =
      let rest = all-filter P test later all.1 in
      let choice : (b : Bool) → AllByRecursion P (cond b (item ∷ filter test later) (filter test later)) = elim [
        | true ↦ (all.0, rest)
        | false ↦ rest
      ] in
      choice (test item)

-- A fact about each connection holds for one that is looked up.
pub all-found : (P : Connection → Type 0) (connections : List (Vc × Connection)) (vc : Vc) (connection : Connection)
    → AllByRecursion (λ here. P here.1) connections → connection_in connections vc ≡ Some connection → P connection
all-found P [] vc connection all found = absurd (cc)
all-found P (here ∷ later) vc connection all found =
    let choice : (b : Bool) → (if b then Some here.1 else connection_in later vc) ≡ Some connection → P connection = elim [
      | true ↦ λ found. subst P (same_Some here.1 connection found) all.0
      | false ↦ λ found. all-found P later vc connection all.1 found
    ] in
    choice (is_same_vc vc here.0) found

-- No virtual connection has two connections.
abbrev pub AreSetUpOnce : List (Vc × Connection) → Type 0
AreSetUpOnce [] = ⊤
AreSetUpOnce (here ∷ later) = (connection_in later here.0 ≡ None) × AreSetUpOnce later

-- A virtual connection without a connection has none after a removal either.
none-without : (connections : List (Vc × Connection)) (vc other : Vc) → connection_in connections other ≡ None
    → connection_in (without_connection connections vc) other ≡ None
none-without [] vc other none = refl
none-without (here ∷ later) vc other none =
    let parts : (b : Bool) → (if b then Some here.1 else connection_in later other) ≡ None → (b ≡ false) × (connection_in later other ≡ None) = elim [
      | true ↦ λ e. absurd (cc)
      | false ↦ λ e. (refl, e)
    ] in
    let apart = parts (is_same_vc other here.0) none in
    let rest = none-without later vc other apart.1 in
    let choice : (b : Bool) → connection_in (if b then without_connection later vc else here ∷ without_connection later vc) other ≡ None = elim [
      | true ↦ rest
      | false ↦ ap (λ (b : Bool). if b then Some here.1 else connection_in (without_connection later vc) other) apart.0 ∙ rest
    ] in
    choice (is_same_vc vc here.0)

-- It has none after its own removal.
pub gone-here : (connections : List (Vc × Connection)) (vc : Vc) → connection_in (without_connection connections vc) vc ≡ None
gone-here [] vc = refl
gone-here (here ∷ later) vc =
    let rest = gone-here later vc in
    let choice : (b : Bool) → is_same_vc vc here.0 ≡ b
    → connection_in (if b then without_connection later vc else here ∷ without_connection later vc) vc ≡ None = elim [
      | true ↦ λ e. rest
      | false ↦ λ e. ap (λ (b : Bool). if b then Some here.1 else connection_in (without_connection later vc) vc) e ∙ rest
    ] in
    choice (is_same_vc vc here.0) refl

pub once-without : (connections : List (Vc × Connection)) (vc : Vc) → AreSetUpOnce connections → AreSetUpOnce (without_connection connections vc)
once-without [] vc once = tt
once-without (here ∷ later) vc once =
    let rest = once-without later vc once.1 in
    let choice : (b : Bool) → AreSetUpOnce (if b then without_connection later vc else here ∷ without_connection later vc) = elim [
      | true ↦ rest
      | false ↦ (none-without later vc here.0 once.0, rest)
    ] in
    choice (is_same_vc vc here.0)

-- The line of an entry.
abbrev pub line_of : Vc × Connection → ℕ
line_of here = here.1.line

pub line-taken : (connections : List (Vc × Connection)) (vc : Vc) (connection : Connection)
    → connection_in connections vc ≡ Some connection → is_taken line_of connections connection.line ≡ true
line-taken [] vc connection found = absurd (cc)
line-taken (here ∷ later) vc connection found =
    let choice : (b : Bool) → (if b then Some here.1 else connection_in later vc) ≡ Some connection
    → is_taken line_of (here ∷ later) connection.line ≡ true = elim [
      | true ↦ λ found.
          let same : here.1.line ≡ connection.line = ap (λ (c : Connection). c.line) (same_Some here.1 connection found) in
          or_left (here.1.line == connection.line) (is_taken line_of later connection.line) (eq-eqb here.1.line connection.line same)
      | false ↦ λ found.
          or_right (here.1.line == connection.line) (is_taken line_of later connection.line) (line-taken later vc connection found)
    ] in
    choice (is_same_vc vc here.0) found

-- After its connection is removed, a line is free.
pub line-freed : (connections : List (Vc × Connection)) (vc : Vc) (connection : Connection) → AreApart line_of connections
    → connection_in connections vc ≡ Some connection → is_taken line_of (without_connection connections vc) connection.line ≡ false
line-freed [] vc connection apart found = absurd (cc)
line-freed (here ∷ later) vc connection apart found =
    let choice : (b : Bool) → (if b then Some here.1 else connection_in later vc) ≡ Some connection
    → is_taken line_of (if b then without_connection later vc else here ∷ without_connection later vc) connection.line ≡ false = elim [
      | true ↦ λ found.
          let line : here.1.line ≡ connection.line = ap (λ (c : Connection). c.line) (same_Some here.1 connection found) in
          let none : is_taken line_of later connection.line ≡ false = subst (λ number. is_taken line_of later number ≡ false) line apart.0 in
          subst (λ others. is_taken line_of others connection.line ≡ false) (sym (gone-filter later vc))
          (taken-filter line_of (λ one. not (is_same_vc vc one.0)) later connection.line none)
      | false ↦ λ found.
          let taken = line-taken later vc connection found in
          let other : (here.1.line == connection.line) ≡ false = ne_eqb here.1.line connection.line (λ same.
          let free : is_taken line_of later connection.line ≡ false =
          subst (λ number. is_taken line_of later number ≡ false) same apart.0 in
          absurd (cc)) in
          or_from (here.1.line == connection.line) (is_taken line_of (without_connection later vc) connection.line) other
          (line-freed later vc connection apart.1 found)
    ] in
    choice (is_same_vc vc here.0) found
