-- The invariant after a change of a world: of its ports, of one of its connections, or of its programs.
use Rattle.std.proofs.Common.{◌≡◌, ◌≢◌, ◌⊎◌, ℕ, ◌^◌, ◌<◌, ◌≤◌, Bool, true, false, cond, List, ◌∷◌, length, length-set, set, Option, Some, IsSome, slice_get, refl, sym, ap, ◌∙◌, subst, inl, inr, arith}
use Rattle.std.proofs.lemmas.List.{length-replicate}
use Rattle.upc_cell.specs.declared.vc.Vc.{Vc}
use Rattle.upc_cell.proofs.Public.{vc_cases}
use Rattle.gen_arena.specs.declared.id.Id.{Id}
use Rattle.gen_arena.specs.SameId.{is_same_id}
use Rattle.leaky.specs.declared.verdict.Verdict.{Verdict}
use Rattle.line_record.specs.Tally.{tally_of}
use Rattle.card_core.specs.declared.shape.Shape.{Shape}
use Rattle.card_core.specs.World.{World, Loading, Connection, Picking, PortState, outside, entered, picked, code_in, connection_in, with_connection, opening_world, with_port}
use Rattle.card_core.proofs.Sound.{SoundPrograms, SoundConnection, SoundPicking, WorldInvariant}
use Rattle.gen_arena.proofs.Public.{slice_get-set}
use Rattle.card_core.proofs.LookUps.{same_some, replicated}
use Rattle.card_core.proofs.ConnectionLemmas.{ConnectionChanges, changes-with, IsOnce, once-with}

pub opening-sound : (shape : Shape) → WorldInvariant (opening_world shape)
opening-sound shape = record {
  programs = record {
    once = λ id code e. absurd (cc);
    live_given = λ id code e. absurd (cc);
    accepted = λ id code e. absurd (cc);
  };
  connections = record {
    once = λ here there. absurd (omega (arith, there.1));
    each = λ vc connection e. absurd (cc);
    lines_apart = λ one other connection another e. absurd (cc);
    apart = λ one other connection another e. absurd (cc);
  };
  ports = λ port picking e.
      let none : outside ≡ picked picking = replicated shape.ports port outside (picked picking) e in absurd (cc);
  sized = length-replicate shape.ports outside;
  incarnations = omega arith;
}

-- A change of the ports alone.

picking_in : PortState → Picking → Picking
picking_in outside default = default
picking_in (entered cell moment) default = default
picking_in (picked picking) default = picking

pub picked_same : (one other : Picking) → picked one ≡ picked other → one ≡ other
unfolding picking_in
picked_same one other e = ap (λ state. picking_in state one) e

-- The picked cells after a write to a port.
pub picks-set : (before : World) (port : ℕ) (state : PortState) → WorldInvariant before
    → ((picking : Picking) → state ≡ picked picking → SoundPicking before picking)
    → (place : ℕ) (picking : Picking) → slice_get (set before.ports port state) place ≡ Some (picked picking)
    → SoundPicking before picking
picks-set before port state sound new place picking e = elim (slice_get-set before.ports port place state (picked picking) e) [
  | inl here ↦ new picking here.1
  | inr there ↦ sound.ports place picking there.1
]

pub sound-ported : (before : World) (ports : List PortState) → WorldInvariant before → length ports ≡ before.shape.ports
    → ((port : ℕ) (picking : Picking) → slice_get ports port ≡ Some (picked picking) → SoundPicking before picking)
    → WorldInvariant (record before { ports = ports })
sound-ported before ports sound sized picks = record {
  programs = record {
    once = sound.programs.once;
    live_given = sound.programs.live_given;
    accepted = sound.programs.accepted;
  };
  connections = record {
    once = sound.connections.once;
    each = λ vc connection e.
        let s = sound.connections.each vc connection e in
        record {
          within = s.within;
          first = s.first;
          old = s.old;
          named_live = s.named_live;
          some = s.some;
          history = s.history;
          early = s.early;
          returned = s.returned;
          opening = s.opening;
          counted = s.counted;
        };
    lines_apart = sound.connections.lines_apart;
    apart = sound.connections.apart;
  };
  ports = λ port picking e.
      let s = picks port picking e in
      record { own = s.own; live = s.live; old = s.old; same_line = s.same_line };
  sized = sized;
  incarnations = sound.incarnations;
}

pub sound-port : (before : World) (port : ℕ) (state : PortState) → WorldInvariant before
    → ((picking : Picking) → state ≡ picked picking → SoundPicking before picking)
    → WorldInvariant (with_port before port state)
sound-port before port state sound new =
    sound-ported before (set before.ports port state) sound (length-set before.ports port state ∙ sound.sized)
    (picks-set before port state sound new)

-- The connection is new, on a line without a connection, or it has its incarnation and line from before.
abbrev pub IsNewOrKept : World → Vc → Connection → Type 0
IsNewOrKept before vc connection =
    (before.incarnations < connection.incarnation)
    × ((other : Vc) (another : Connection) → connection_in before.connections other ≡ Some another
    → another.line ≢ connection.line)
    ⊎ ((old : Connection) × (connection_in before.connections vc ≡ Some old)
    × (connection.incarnation ≡ old.incarnation) × (connection.line ≡ old.line))

-- The world with new connections, incarnations, verdicts and ports.
abbrev pub changed : World → List (Vc × Connection) → ℕ → (ℕ → List Verdict) → List PortState → World
changed before connections used judged ports =
    record before { connections = connections; incarnations = used; verdicts = judged; ports = ports }

pub record OneChanges (before : World) (connections : List (Vc × Connection)) (used : ℕ) (judged : ℕ → List Verdict) (ports : List PortState) (vc : Vc) (new : Option Connection) : Type 0 where
  pub changes : ConnectionChanges before.connections connections vc new
  pub once : IsOnce connections
  pub grows : before.incarnations ≤ used
  pub most : used ≤ 2 ^ 62
  pub verdicts : (other : Vc) (another : Connection) → other ≢ vc → connection_in before.connections other ≡ Some another
      → judged another.line ≡ before.verdicts another.line
  pub sized : length ports ≡ before.shape.ports
  pub picks : (port : ℕ) (picking : Picking) → slice_get ports port ≡ Some (picked picking) → SoundPicking before picking
  pub sound : (connection : Connection) → new ≡ Some connection
      → SoundConnection (changed before connections used judged ports) connection
  pub kept : (connection : Connection) → new ≡ Some connection → IsNewOrKept before vc connection

module _ (before : World) (connections : List (Vc × Connection)) (used : ℕ) (judged : ℕ → List Verdict) (ports : List PortState) (vc : Vc) (new : Option Connection) (is : WorldInvariant before) (c : OneChanges before connections used judged ports vc new) where
  found_new : (other : Vc) (connection : Connection) → other ≡ vc → connection_in connections other ≡ Some connection
      → new ≡ Some connection
  found_new other connection same e =
      sym c.changes.here ∙ subst (λ (v : Vc). connection_in connections v ≡ Some connection) same e

  found_old : (other : Vc) (connection : Connection) → other ≢ vc → connection_in connections other ≡ Some connection
      → connection_in before.connections other ≡ Some connection
  found_old other connection apart e = sym (c.changes.others other apart) ∙ e

  each-changed : (other : Vc) (connection : Connection) → connection_in connections other ≡ Some connection
      → SoundConnection (changed before connections used judged ports) connection
  each-changed other connection e = elim (vc_cases other vc) [
    | inl same ↦ c.sound connection (found_new other connection same e)
    | inr apart ↦
        let s = is.connections.each other connection (found_old other connection apart e) in
        record {
          within = s.within;
          first = s.first;
          old = omega (arith, s.old, c.grows);
          named_live = s.named_live;
          some = s.some;
          history = s.history;
          early = s.early;
          returned = s.returned;
          opening = s.opening;
          counted = s.counted ∙ ap tally_of (sym (c.verdicts other connection apart (found_old other connection apart e)));
        }
  ]

  -- Any other connection has another line and another incarnation.
  alone : (connection : Connection) → new ≡ Some connection → (other : Vc) (another : Connection) → other ≢ vc
      → connection_in before.connections other ≡ Some another
      → (another.line ≢ connection.line) × (another.incarnation ≢ connection.incarnation)
  alone connection e other another apart found = elim (c.kept connection e) [
    | inl fresh ↦ (
      fresh.1 other another found,
      λ same. absurd (omega (arith, same, fresh.0, (is.connections.each other another found).old)),
    )
    | inr kept ↦ (
      λ same. apart (is.connections.lines_apart other vc another kept.0 found kept.1 (same ∙ kept.3)),
      λ same. apart (is.connections.apart other vc another kept.0 found kept.1 (same ∙ kept.2)),
    )
  ]

  lines_apart-changed : (one other : Vc) (connection another : Connection)
      → connection_in connections one ≡ Some connection → connection_in connections other ≡ Some another
      → connection.line ≡ another.line → one ≡ other
  lines_apart-changed one other connection another e f same = elim (vc_cases one vc) [
    | inl at ↦ elim (vc_cases other vc) [
      | inl at_other ↦ at ∙ sym at_other
      | inr apart ↦ absurd ((alone connection (found_new one connection at e) other another apart (found_old other another apart f)).0 (sym same))
    ]
    | inr apart ↦ elim (vc_cases other vc) [
      | inl at_other ↦ absurd ((alone another (found_new other another at_other f) one connection apart (found_old one connection apart e)).0 same)
      | inr both ↦ is.connections.lines_apart one other connection another (found_old one connection apart e) (found_old other another both f) same
    ]
  ]

  apart-changed : (one other : Vc) (connection another : Connection)
      → connection_in connections one ≡ Some connection → connection_in connections other ≡ Some another
      → connection.incarnation ≡ another.incarnation → one ≡ other
  apart-changed one other connection another e f same = elim (vc_cases one vc) [
    | inl at ↦ elim (vc_cases other vc) [
      | inl at_other ↦ at ∙ sym at_other
      | inr apart ↦ absurd ((alone connection (found_new one connection at e) other another apart (found_old other another apart f)).1 (sym same))
    ]
    | inr apart ↦ elim (vc_cases other vc) [
      | inl at_other ↦ absurd ((alone another (found_new other another at_other f) one connection apart (found_old one connection apart e)).1 same)
      | inr both ↦ is.connections.apart one other connection another (found_old one connection apart e) (found_old other another both f) same
    ]
  ]

  same_line-changed : (picking : Picking) → SoundPicking before picking → (connection : Connection)
      → connection_in connections picking.vc ≡ Some connection → connection.incarnation ≡ picking.incarnation
      → connection.line ≡ picking.line
  same_line-changed picking s connection e same = elim (vc_cases picking.vc vc) [
    | inl at ↦ elim (c.kept connection (found_new picking.vc connection at e)) [
      | inl fresh ↦ absurd (omega (arith, same, fresh.0, s.old))
      | inr kept ↦
          let there : connection_in before.connections picking.vc ≡ Some kept.0 =
          subst (λ (v : Vc). connection_in before.connections v ≡ Some kept.0) (sym at) kept.1 in
          kept.3 ∙ s.same_line kept.0 there (sym kept.2 ∙ same)
    ]
    | inr apart ↦ s.same_line connection (found_old picking.vc connection apart e) same
  ]

  pub sound-changed : WorldInvariant (changed before connections used judged ports)
  sound-changed = record {
    programs = record {
      once = is.programs.once;
      live_given = is.programs.live_given;
      accepted = is.programs.accepted;
    };
    connections = record {
      once = c.once;
      each = each-changed;
      lines_apart = lines_apart-changed;
      apart = apart-changed;
    };
    ports = λ port picking e.
        let s = c.picks port picking e in
        record {
          own = s.own;
          live = s.live;
          old = omega (arith, s.old, c.grows);
          same_line = same_line-changed picking s;
        };
    sized = c.sized;
    incarnations = c.most;
  }

-- A connection keeps its line and its incarnation.
pub sound-rewritten : (before : World) (vc : Vc) (connection new : Connection) → WorldInvariant before
    → connection_in before.connections vc ≡ Some connection
    → new.incarnation ≡ connection.incarnation → new.line ≡ connection.line
    → SoundConnection (record before { connections = with_connection before.connections vc new }) new
    → WorldInvariant (record before { connections = with_connection before.connections vc new })
sound-rewritten before vc connection new sound found same_incarnation same_line one =
    let connections : List (Vc × Connection) = with_connection before.connections vc new in
    sound-changed before connections before.incarnations before.verdicts before.ports vc (Some new) sound (record {
      changes = changes-with before.connections vc new;
      once = once-with before.connections vc new sound.connections.once;
      grows = omega arith;
      most = sound.incarnations;
      verdicts = λ other another apart found. refl;
      sized = sound.sized;
      picks = sound.ports;
      sound = λ found e. subst (λ (c : Connection). SoundConnection (changed before connections before.incarnations before.verdicts before.ports) c) (same_some new found e) one;
      kept = λ other e. subst (λ (c : Connection). IsNewOrKept before vc c) (same_some new other e)
          (inr (connection, found, same_incarnation, same_line));
    })

-- One more program leaves each live program live.

pub some-more : (loading : Loading) (later : List Loading) (id : Id) → IsSome (code_in later id) → IsSome (code_in (loading ∷ later) id)
some-more loading later id there =
    let choice : (b : Bool) → IsSome (cond b (Some loading.code) (code_in later id)) = elim [
      | true ↦ refl
      | false ↦ there
    ] in
    choice (is_same_id id loading.id)

-- A world of which only the programs changed.
pub sound-programs : (before : World) (given live : List Loading) → WorldInvariant before
    → SoundPrograms (record before { loaded = given; live = live })
    → ((vc : Vc) (connection : Connection) → connection_in before.connections vc ≡ Some connection
    → IsSome (code_in live connection.program))
    → ((port : ℕ) (picking : Picking) → slice_get before.ports port ≡ Some (picked picking) → IsSome (code_in live picking.program))
    → WorldInvariant (record before { loaded = given; live = live })
sound-programs before given live sound programs named picks = record {
  programs = programs;
  connections = record {
    once = sound.connections.once;
    each = λ vc connection e.
        let s = sound.connections.each vc connection e in
        record {
          within = s.within;
          first = s.first;
          old = s.old;
          named_live = named vc connection e;
          some = s.some;
          history = s.history;
          early = s.early;
          returned = s.returned;
          opening = s.opening;
          counted = s.counted;
        };
    lines_apart = sound.connections.lines_apart;
    apart = sound.connections.apart;
  };
  ports = λ port picking e.
      let s = sound.ports port picking e in
      record { own = s.own; live = picks port picking e; old = s.old; same_line = s.same_line };
  sized = sound.sized;
  incarnations = sound.incarnations;
}
