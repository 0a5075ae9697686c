-- A connection on its own: its state as a function of its own acts, and their outcomes. The same acts have the same
-- outcomes.
use Rattle.std.proofs.Common.{◌≡◌, ℕ, ◌^◌, Bool, true, false, if◌then◌else◌, List, [], ◌∷◌, ◌++◌, length, take, drop, Option, Some, None, nat_lt, nat_le, refl, sym, ap, ◌∙◌, subst}
use Rattle.std.specs.Prelude.{⊤}
use Rattle.std.proofs.lemmas.Option.{same_Some}
use Rattle.bpf_code.specs.declared.instr.Instr.{Instr}
use Rattle.bpf_interp.proofs.Public.{Value-unique}
use Rattle.leaky.specs.declared.contract.Contract.{Contract}
use Rattle.line_record.specs.History.{NamedCell, empty_buckets, verdict_after, last_moment}
use Rattle.card_core.specs.declared.answer.Answer.{Answer}
use Rattle.card_core.specs.declared.answer.Answer.TheVariants.{NoConnection, Released, MomentTooLate, MomentBack, JournalFull}
use Rattle.card_core.specs.Steps.{Gives, cell_after, named_cell}
use Rattle.card_isolation.specs.Act.{Act, sets_up, reloads, releases, cuts, enters, looks_up, judges}
use Rattle.card_isolation.specs.Outcome.{Outcome, done, named_before, handed_out, was_judged, was_not_judged}
use Rattle.card_isolation.specs.OwnEvents.{OwnEvent, acts_of}
use Rattle.card_isolation.proofs.Basics.{with_at}
use Rattle.card_isolation.proofs.Forgotten.{seen_entries}

-- A connection that is set up: its contracts, the code of its program, the judged cells, and the number of these that
-- cuts have returned.
pub record OwnConnection : Type 0 where
  pub contracts : List Contract
  pub code : Option (List Instr)
  pub history : List NamedCell
  pub returned : ℕ

-- The connection's part of a port: nothing, a cell that entered at a moment, or one that was looked up, with the value
-- and the code that gave it, and whether the connection is still the one that was looked up.
pub data Place : Type 0 where
  idle : Place
  came : List ℕ → ℕ → Place
  looked : List ℕ → ℕ → ℕ → Option (List Instr) → Bool → Place

pub record Alone : Type 0 where
  pub connection : Option OwnConnection
  pub places : ℕ → Place

-- A port's part after the connection was released.
abbrev pub ended : Place → Place
ended idle = idle
ended (came cell moment) = came cell moment
ended (looked cell moment value code current) = looked cell moment value code false

-- The cell as the history has it.
abbrev pub cell_alone : List ℕ → ℕ → ℕ → NamedCell
cell_alone cell moment value = named_cell cell moment (record { slot = 0; generation = 0 }) value

-- The reason why a cell isn't judged.

abbrev pub moment_refusal : ℕ → OwnConnection → ℕ → Option Answer
moment_refusal journal own_connection moment =
    if nat_lt (2 ^ 62) moment then Some MomentTooLate
    else if nat_lt moment (last_moment 0 own_connection.history) then Some (MomentBack (last_moment 0 own_connection.history))
    else if nat_le journal (length (drop own_connection.returned own_connection.history)) then Some JournalFull
    else None

abbrev pub refusal_alone : ℕ → Option OwnConnection → ℕ → Bool → Option Answer
refusal_alone journal None moment current = Some Released
refusal_alone journal (Some own_connection) moment current = if current then moment_refusal journal own_connection moment else Some Released

-- The outcome of a cell that is judged, or isn't.

abbrev pub judged_alone : Option OwnConnection → List ℕ → ℕ → ℕ → Option (List Instr) → Outcome
judged_alone None cell moment value code = done
judged_alone (Some own_connection) cell moment value code =
    let verdict = verdict_after own_connection.contracts empty_buckets own_connection.history (cell_alone cell moment value) in
    was_judged moment value code verdict (cell_after verdict cell)

abbrev pub answered_alone : Option Answer → Outcome → Outcome
answered_alone None outcome = outcome
answered_alone (Some answer) outcome = was_not_judged answer

abbrev pub outcome_at : ℕ → Option OwnConnection → Place → Outcome
outcome_at journal connection idle = done
outcome_at journal connection (came cell moment) = done
outcome_at journal connection (looked cell moment value code current) =
    answered_alone (refusal_alone journal connection moment current) (judged_alone connection cell moment value code)

abbrev pub with_judged : Option OwnConnection → NamedCell → Option OwnConnection
with_judged None cell = None
with_judged (Some own_connection) cell = Some (record own_connection { history = own_connection.history ++ cell ∷ [] })

abbrev pub kept_alone : Option Answer → Option OwnConnection → Option OwnConnection → Option OwnConnection
kept_alone None connection longer = longer
kept_alone (Some answer) connection longer = connection

abbrev pub judged_at : ℕ → Option OwnConnection → Place → Option OwnConnection
judged_at journal connection idle = connection
judged_at journal connection (came cell moment) = connection
judged_at journal connection (looked cell moment value code current) =
    kept_alone (refusal_alone journal connection moment current) connection (with_judged connection (cell_alone cell moment value))

abbrev pub piece_alone : Option OwnConnection → Outcome
piece_alone None = done
piece_alone (Some own_connection) =
    handed_out own_connection.contracts
    (seen_entries own_connection.contracts (take own_connection.returned own_connection.history) (drop own_connection.returned own_connection.history))

abbrev pub code_alone : Option OwnConnection → Option (List Instr)
code_alone None = None
code_alone (Some own_connection) = own_connection.code

abbrev pub named_outcome : Option OwnConnection → Outcome
named_outcome connection = named_before (code_alone connection)

abbrev pub found_alone : Option OwnConnection → Outcome
found_alone None = was_not_judged NoConnection
found_alone (Some own_connection) = done

-- The outcome of an act.
abbrev pub outcome_alone : ℕ → Alone → Act → Outcome
outcome_alone journal alone (sets_up contracts code) = done
outcome_alone journal alone (reloads code) = named_outcome alone.connection
outcome_alone journal alone releases = piece_alone alone.connection
outcome_alone journal alone cuts = piece_alone alone.connection
outcome_alone journal alone (enters port cell moment) = done
outcome_alone journal alone (looks_up port) = found_alone alone.connection
outcome_alone journal alone (judges port) = outcome_at journal alone.connection (alone.places port)

-- The connection's program gives a value for the cell.
pub record IsNamed (own_connection : OwnConnection) (cell : List ℕ) (moment : ℕ) (after : Place) : Type 0 where
  pub code : List Instr
  pub named : own_connection.code ≡ Some code
  pub value : ℕ
  pub gives : Gives code cell value
  pub is : after ≡ looked cell moment value own_connection.code true

abbrev pub LooksUp : Option OwnConnection → Place → Place → Type 0
LooksUp None before after = after ≡ idle
LooksUp (Some own_connection) idle after = after ≡ idle
LooksUp (Some own_connection) (came cell moment) after = IsNamed own_connection cell moment after
LooksUp (Some own_connection) (looked cell moment value code current) after = after ≡ idle

abbrev pub reloaded : Option OwnConnection → Option (List Instr) → Option OwnConnection
reloaded None code = None
reloaded (Some own_connection) code = Some (record own_connection { code = code })

abbrev pub cut_off : Option OwnConnection → Option OwnConnection
cut_off None = None
cut_off (Some own_connection) = Some (record own_connection { returned = length own_connection.history })

abbrev pub set_up : List Contract → Option (List Instr) → OwnConnection
set_up contracts code = record { contracts = contracts; code = code; history = []; returned = 0 }

-- The effect of an act on the connection and on its part of the ports.
abbrev pub Next : ℕ → Alone → Act → Alone → Type 0
Next journal before (sets_up contracts code) after = after ≡ record before { connection = Some (set_up contracts code) }
Next journal before (reloads code) after = after ≡ record before { connection = reloaded before.connection code }
Next journal before releases after = after ≡ record before { connection = None; places = λ port. ended (before.places port) }
Next journal before cuts after = after ≡ record before { connection = cut_off before.connection }
Next journal before (enters port cell moment) after = after ≡ record before { places = with_at before.places port (came cell moment) }
Next journal before (looks_up port) after =
    (place : Place) × LooksUp before.connection (before.places port) place × (after ≡ record before { places = with_at before.places port place })
Next journal before (judges port) after = after ≡ record before {
  connection = judged_at journal before.connection (before.places port);
  places = with_at before.places port idle;
}

-- The port has no cell of the connection.
abbrev pub is_idle : Place → Bool
is_idle idle = true
is_idle (came cell moment) = false
is_idle (looked cell moment value code current) = false

-- The act fits: the port has a cell of the connection to be looked up or judged.
abbrev pub Fits : Alone → Act → Type 0
Fits before (looks_up port) = is_idle (before.places port) ≡ false
Fits before (judges port) = is_idle (before.places port) ≡ false
Fits before _ = ⊤

-- The effect of one own event.
pub record Does (journal : ℕ) (before : Alone) (event : OwnEvent) (after : Alone) : Type 0 where
  pub fits : Fits before event.act
  pub outcome : event.outcome ≡ outcome_alone journal before event.act
  pub next : Next journal before event.act after

abbrev pub Plays : ℕ → Alone → List OwnEvent → Type 0
Plays journal before [] = ⊤
Plays journal before (event ∷ later) = (after : Alone) × Does journal before event after × Plays journal after later

-- An act leads to at most one state.

one-named : (own_connection : OwnConnection) (cell : List ℕ) (moment : ℕ) (one other : Place) → IsNamed own_connection cell moment one
    → IsNamed own_connection cell moment other → one ≡ other
one-named own_connection cell moment one other p q =
    let same : p.code ≡ q.code = same_Some p.code q.code (sym p.named ∙ q.named) in
    let gives : Gives q.code cell p.value = subst (λ (code : List Instr). Gives code cell p.value) same p.gives in
    p.is
    ∙ ap (λ value. looked cell moment value own_connection.code true)
    (Value-unique q.code cell p.value q.value gives.0 q.gives.0 gives.1 q.gives.1).0
    ∙ sym q.is

one-place : (connection : Option OwnConnection) (before one other : Place) → LooksUp connection before one → LooksUp connection before other → one ≡ other
one-place None before one other p q = p ∙ sym q
one-place (Some own_connection) idle one other p q = p ∙ sym q
one-place (Some own_connection) (came cell moment) one other p q = one-named own_connection cell moment one other p q
one-place (Some own_connection) (looked cell moment value code current) one other p q = p ∙ sym q

pub one-next : (journal : ℕ) (before : Alone) (act : Act) (one other : Alone) → Next journal before act one → Next journal before act other
    → one ≡ other
one-next journal before (sets_up contracts code) one other p q = p ∙ sym q
one-next journal before (reloads code) one other p q = p ∙ sym q
one-next journal before releases one other p q = p ∙ sym q
one-next journal before cuts one other p q = p ∙ sym q
one-next journal before (enters port cell moment) one other p q = p ∙ sym q
one-next journal before (looks_up port) one other p q =
    p.2
    ∙ ap (λ (place : Place). record before { places = with_at before.places port place })
    (one-place before.connection (before.places port) p.0 q.0 p.1 q.1)
    ∙ sym q.2
one-next journal before (judges port) one other p q = p ∙ sym q

-- The same acts have the same outcomes.

rest_of : List Act → List Act
rest_of [] = []
rest_of (act ∷ later) = later

first_of : Act → List Act → Act
first_of default [] = default
first_of default (act ∷ later) = act

heads : (one other : Act) (xs ys : List Act) → one ∷ xs ≡ other ∷ ys → one ≡ other
unfolding first_of
heads one other xs ys e = ap (first_of one) e

tails : (one other : Act) (xs ys : List Act) → one ∷ xs ≡ other ∷ ys → xs ≡ ys
unfolding rest_of
tails one other xs ys e = ap rest_of e

abbrev pub event_with : Act → Outcome → OwnEvent
event_with act outcome = record { act = act; outcome = outcome }

pub same-outcomes : (journal : ℕ) (before : Alone) (one other : List OwnEvent) → Plays journal before one → Plays journal before other
    → acts_of one ≡ acts_of other → one ≡ other
same-outcomes journal before [] [] p q e = refl
same-outcomes journal before [] (event ∷ later) p q e = absurd (cc)
same-outcomes journal before (event ∷ later) [] p q e = absurd (cc)
same-outcomes journal before (first ∷ xs) (second ∷ ys) p q e =
    let act : first.act ≡ second.act = heads first.act second.act (acts_of xs) (acts_of ys) e in
    let outcome : first.outcome ≡ second.outcome =
    p.1.outcome ∙ ap (outcome_alone journal before) act ∙ sym q.1.outcome in
    let events : first ≡ second =
    ap (λ (a : Act). event_with a first.outcome) act ∙ ap (event_with second.act) outcome in
    let after : p.0 ≡ q.0 =
    one-next journal before second.act p.0 q.0 (subst (λ (a : Act). Next journal before a p.0) act p.1.next) q.1.next in
    ap (λ (event : OwnEvent). event ∷ xs) events
    ∙ ap (λ (l : List OwnEvent). second ∷ l)
    (same-outcomes journal q.0 xs ys (subst (λ (a : Alone). Plays journal a xs) after p.2) q.2
    (tails first.act second.act (acts_of xs) (acts_of ys) e))
