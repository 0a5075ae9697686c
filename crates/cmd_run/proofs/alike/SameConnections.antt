-- Lists of connections, as views have them, that differ only in their order and in which cells cuts have returned.
use Rattle.std.proofs.Common.{◌≡◌, ◌≢◌, inl, inr, ℕ, suc, ◌==◌, Bool, true, false, if◌then◌else◌, not, ◌&&◌, ◌||◌, List, [], ◌∷◌, length, Option, Some, None, is_none, is_some, nat_lt, option_map, refl, sym, ap, ◌∙◌, subst, arith}
use Rattle.std.specs.Bool.{⊤}
use Rattle.std.proofs.lemmas.Bool.{lt-ltb}
use Rattle.std.proofs.lemmas.Option.{same_Some}
use Rattle.upc_cell.proofs.Public.{vc_cases, vc_differs, vc_itself, vc_same}
use Rattle.upc_cell.specs.Connection.{is_same_vc}
use Rattle.upc_cell.specs.declared.vc.Vc.{Vc}
use Rattle.card_core.specs.World.{Connection, Loading}
use Rattle.cmd_run.proofs.one_script.ConnectionSteps.{changed_by, is-none_mapped}
use Rattle.cmd_run.proofs.one_script.Seen.{SeenConnection, found_at, names_number, seen_connection, seen_connections, with_at, without_at}
use Rattle.cmd_run.proofs.one_script.SeenConnections.{AreSetUpOnce, found-seen, is-mapped}

-- A connection as if no cut had returned a cell.
abbrev pub bare : SeenConnection → SeenConnection
bare connection = record connection { returned = 0 }

abbrev pub bare_entry : Vc × SeenConnection → Vc × SeenConnection
bare_entry here = (here.0, bare here.1)

abbrev pub Entries : Type 0
Entries = List (Vc × SeenConnection)

-- How many of these connections pass the test.
abbrev pub many : (Vc × SeenConnection → Bool) → Entries → ℕ
many test [] = 0
many test (here ∷ later) = if test (bare_entry here) then suc (many test later) else many test later

-- Both lists have the same connections.
pub record HaveSame (one other : Entries) : Type 0 where
  pub found : (vc : Vc) → option_map bare (found_at one vc) ≡ option_map bare (found_at other vc)
  pub counts : (test : Vc × SeenConnection → Bool) → many test one ≡ many test other

pub same-itself : (one : Entries) → HaveSame one one
same-itself one = record { found = λ vc. refl; counts = λ test. refl }

pub same-back : (one other : Entries) → HaveSame one other → HaveSame other one
same-back one other same = record { found = λ vc. sym (same.found vc); counts = λ test. sym (same.counts test) }

pub same-joined : (one middle other : Entries) → HaveSame one middle → HaveSame middle other → HaveSame one other
same-joined one middle other first second = record {
  found = λ vc. first.found vc ∙ second.found vc;
  counts = λ test. first.counts test ∙ second.counts test;
}

-- Look-ups after a removal.

found-gone : (connections : Entries) (vc : Vc) → found_at (without_at connections vc) vc ≡ None
found-gone [] vc = refl
found-gone (here ∷ later) vc =
    let rest = found-gone later vc in
    let choice : (b : Bool) → is_same_vc vc here.0 ≡ b → found_at (if b then without_at later vc else here ∷ without_at later vc) vc ≡ None = elim [
      | true ↦ λ e. rest
      | false ↦ λ e. ap (λ (b : Bool). if b then Some here.1 else found_at (without_at later vc) vc) e ∙ rest
    ] in
    choice (is_same_vc vc here.0) refl

found-kept : (connections : Entries) (vc other : Vc) → other ≢ vc → found_at (without_at connections vc) other ≡ found_at connections other
found-kept [] vc other apart = refl
found-kept (here ∷ later) vc other apart =
    let rest = found-kept later vc other apart in
    let choice : (b : Bool) → is_same_vc vc here.0 ≡ b
    → found_at (if b then without_at later vc else here ∷ without_at later vc) other ≡ found_at (here ∷ later) other = elim [
      | true ↦ λ e.
          let away : is_same_vc other here.0 ≡ false = vc_differs other here.0 (λ same. apart (same ∙ sym (vc_same vc here.0 e))) in
          rest ∙ sym (ap (λ (b : Bool). if b then Some here.1 else found_at later other) away)
      | false ↦ λ e. ap (λ (o : Option SeenConnection). if is_same_vc other here.0 then Some here.1 else o) rest
    ] in
    choice (is_same_vc vc here.0) refl

-- A removal leaves the others.
abbrev others_that : Vc → (Vc × SeenConnection → Bool) → Vc × SeenConnection → Bool
others_that vc test here = not (is_same_vc vc here.0) && test here

many-gone : (test : Vc × SeenConnection → Bool) (connections : Entries) (vc : Vc)
    → many test (without_at connections vc) ≡ many (others_that vc test) connections
many-gone test [] vc = refl
many-gone test (here ∷ later) vc =
    let rest = many-gone test later vc in
    let choice : (b : Bool) → many test (if b then without_at later vc else here ∷ without_at later vc)
    ≡ (if not b && test (bare_entry here) then suc (many (others_that vc test) later) else many (others_that vc test) later) = elim [
      | true ↦ rest
      | false ↦ ap (λ n. if test (bare_entry here) then suc n else n) rest
    ] in
    choice (is_same_vc vc here.0)

pub without-same : (one other : Entries) (vc : Vc) → HaveSame one other → HaveSame (without_at one vc) (without_at other vc)
without-same one other vc same = record {
  found = λ at. elim (vc_cases at vc) [
    | inl here ↦ subst (λ (v : Vc). option_map bare (found_at (without_at one vc) v) ≡ option_map bare (found_at (without_at other vc) v)) (sym here)
        (ap (option_map bare) (found-gone one vc) ∙ sym (ap (option_map bare) (found-gone other vc)))
    | inr apart ↦ ap (option_map bare) (found-kept one vc at apart) ∙ same.found at ∙ sym (ap (option_map bare) (found-kept other vc at apart))
  ];
  counts = λ test. many-gone test one vc ∙ same.counts (others_that vc test) ∙ sym (many-gone test other vc);
}

-- The same connection more.
first-same : (one other : Entries) (vc : Vc) (x y : SeenConnection) → bare x ≡ bare y → HaveSame one other → HaveSame ((vc, x) ∷ one) ((vc, y) ∷ other)
first-same one other vc x y like same = record {
  found = λ at.
      let choice : (b : Bool) → option_map bare (if b then Some x else found_at one at) ≡ option_map bare (if b then Some y else found_at other at) = elim [
        | true ↦ ap (λ (c : SeenConnection). Some c) like
        | false ↦ same.found at
      ] in
      choice (is_same_vc at vc);
  counts = λ test.
      let rest = same.counts test in
      λ i. if test (vc, like i) then suc (rest i) else rest i;
}

pub with-same : (one other : Entries) (vc : Vc) (x y : SeenConnection) → bare x ≡ bare y → HaveSame one other
    → HaveSame (with_at one vc x) (with_at other vc y)
with-same one other vc x y like same = first-same (without_at one vc) (without_at other vc) vc x y like (without-same one other vc same)

-- The connection of a virtual connection is changed in both, if it is there.
pub changed-same : (one other : Entries) (vc : Vc) (change : SeenConnection → SeenConnection)
    → ((x y : SeenConnection) → bare x ≡ bare y → bare (change x) ≡ bare (change y)) → HaveSame one other
    → HaveSame (changed_by (found_at one vc) one vc change) (changed_by (found_at other vc) other vc change)
changed-same one other vc change respects same = choice (found_at one vc) (found_at other vc) (same.found vc)
  where
    choice : (x y : Option SeenConnection) → option_map bare x ≡ option_map bare y → HaveSame (changed_by x one vc change) (changed_by y other vc change)
    choice None None e = same
    choice None (Some y) e = absurd (cc)
    choice (Some x) None e = absurd (cc)
    choice (Some x) (Some y) e = with-same one other vc (change x) (change y) (respects x y (same_Some (bare x) (bare y) e)) same

-- A connection that is put back in another place.

abbrev AreFoundOnce : Entries → Type 0
AreFoundOnce [] = ⊤
AreFoundOnce (here ∷ later) = (found_at later here.0 ≡ None) × AreFoundOnce later

once-found : (given : List Loading) (connections : List (Vc × Connection)) → AreSetUpOnce connections → AreFoundOnce (seen_connections given connections)
once-found given [] once = tt
once-found given (here ∷ later) once =
    let none = ap (option_map (seen_connection given)) once.0 in
    (found-seen given later here.0 ∙ none, once-found given later once.1)

none-gone : (connections : Entries) (vc : Vc) → found_at connections vc ≡ None → without_at connections vc ≡ connections
none-gone [] vc none = refl
none-gone (here ∷ later) vc none =
    let choice : (b : Bool) → (if b then Some here.1 else found_at later vc) ≡ None
    → (if b then without_at later vc else here ∷ without_at later vc) ≡ here ∷ later = elim [
      | true ↦ λ e. absurd (cc)
      | false ↦ λ e. ap (λ (others : Entries). here ∷ others) (none-gone later vc e)
    ] in
    choice (is_same_vc vc here.0) none

swapped : (a b : Bool) (few more : ℕ) → (if a then suc few else few) ≡ more
    → (if a then suc (if b then suc few else few) else (if b then suc few else few)) ≡ (if b then suc more else more)
swapped true true few more is = ap suc is
swapped true false few more is = is
swapped false true few more is = ap suc is
swapped false false few more is = is

many-back : (test : Vc × SeenConnection → Bool) (connections : Entries) → AreFoundOnce connections → (vc : Vc) (x y : SeenConnection)
    → found_at connections vc ≡ Some x → bare y ≡ bare x → many test (with_at connections vc y) ≡ many test connections
many-back test [] once vc x y found like = absurd (cc)
many-back test (here ∷ later) once vc x y found like =
    let choice : (b : Bool) → is_same_vc vc here.0 ≡ b → (if b then Some here.1 else found_at later vc) ≡ Some x
    → many test ((vc, y) ∷ (if b then without_at later vc else here ∷ without_at later vc)) ≡ many test (here ∷ later) = elim [
      | true ↦ λ e found.
          let same : vc ≡ here.0 = vc_same vc here.0 e in
          let own : bare y ≡ bare here.1 = like ∙ sym (ap bare (same_Some here.1 x found)) in
          let none : found_at later vc ≡ None = subst (λ (v : Vc). found_at later v ≡ None) (sym same) once.0 in
          let kept = none-gone later vc none in
          λ i. if test (same i, own i) then suc (many test (kept i)) else many test (kept i)
      | false ↦ λ e found.
          let rest = many-back test later once.1 vc x y found like in
          swapped (test (vc, bare y)) (test (bare_entry here)) (many test (without_at later vc)) (many test later) rest
    ] in
    choice (is_same_vc vc here.0) refl found

back-same : (connections : Entries) → AreFoundOnce connections → (vc : Vc) (x y : SeenConnection) → found_at connections vc ≡ Some x → bare y ≡ bare x
    → HaveSame (with_at connections vc y) connections
back-same connections once vc x y found like = record {
  found = λ at. elim (vc_cases at vc) [
    | inl here ↦
        let itself : is_same_vc at vc ≡ true = subst (λ (v : Vc). is_same_vc v vc ≡ true) (sym here) (vc_itself vc) in
        let there : found_at connections at ≡ Some x = ap (found_at connections) here ∙ found in
        ap (λ (b : Bool). option_map bare (if b then Some y else found_at (without_at connections vc) at)) itself
        ∙ ap (λ (c : SeenConnection). Some c) like ∙ sym (ap (option_map bare) there)
    | inr apart ↦
        ap (λ (b : Bool). option_map bare (if b then Some y else found_at (without_at connections vc) at)) (vc_differs at vc apart)
        ∙ ap (option_map bare) (found-kept connections vc at apart)
  ];
  counts = λ test. many-back test connections once vc x y found like;
}

-- A change that no test shows leaves the same connections.
pub unchanged-same : (given : List Loading) (connections : List (Vc × Connection)) → AreSetUpOnce connections → (vc : Vc) (change : SeenConnection → SeenConnection)
    → ((x : SeenConnection) → bare (change x) ≡ bare x)
    → HaveSame (changed_by (found_at (seen_connections given connections) vc) (seen_connections given connections) vc change) (seen_connections given connections)
unchanged-same given connections once vc change like = choice (found_at (seen_connections given connections) vc) refl
  where
    choice : (x : Option SeenConnection) → found_at (seen_connections given connections) vc ≡ x
        → HaveSame (changed_by x (seen_connections given connections) vc change) (seen_connections given connections)
    choice None e = same-itself (seen_connections given connections)
    choice (Some x) e = back-same (seen_connections given connections) (once-found given connections once) vc x (change x) e (like x)

-- What a card asks of its connections.

all-counted : (connections : Entries) → many (λ here. true) connections ≡ length connections
all-counted [] = refl
all-counted (here ∷ later) = ap suc (all-counted later)

pub length-same : (one other : Entries) → HaveSame one other → length one ≡ length other
length-same one other same = sym (all-counted one) ∙ same.counts (λ here. true) ∙ all-counted other

named-counted : (connections : Entries) (number : ℕ) → names_number connections number ≡ nat_lt 0 (many (λ here. here.1.program == number) connections)
named-counted [] number = refl
named-counted (here ∷ later) number =
    let rest = named-counted later number in
    let some : nat_lt 0 (suc (many (λ here. here.1.program == number) later)) ≡ true = lt-ltb 0 (suc (many (λ here. here.1.program == number) later)) (omega arith) in
    let choice : (b : Bool) → (b || names_number later number)
    ≡ nat_lt 0 (if b then suc (many (λ here. here.1.program == number) later) else many (λ here. here.1.program == number) later) = elim [
      | true ↦ sym some
      | false ↦ rest
    ] in
    choice (here.1.program == number)

pub names-same : (one other : Entries) (number : ℕ) → HaveSame one other → names_number one number ≡ names_number other number
names-same one other number same =
    named-counted one number ∙ ap (nat_lt 0) (same.counts (λ here. here.1.program == number)) ∙ sym (named-counted other number)

pub none-same : (one other : Entries) (vc : Vc) → HaveSame one other → is_none (found_at one vc) ≡ is_none (found_at other vc)
none-same one other vc same =
    sym (is-none_mapped bare (found_at one vc)) ∙ ap is_none (same.found vc) ∙ is-none_mapped bare (found_at other vc)

pub some-same : (one other : Entries) (vc : Vc) → HaveSame one other → is_some (found_at one vc) ≡ is_some (found_at other vc)
some-same one other vc same =
    sym (is-mapped bare (found_at one vc)) ∙ ap is_some (same.found vc) ∙ is-mapped bare (found_at other vc)
