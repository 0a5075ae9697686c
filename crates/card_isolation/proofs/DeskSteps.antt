-- The effect of the steps of the desk on a connection.
use Rattle.std.proofs.Common.{◌≡◌, ℕ, ◌+◌, ◌<◌, ◌==◌, Bool, true, false, cond, List, ◌∷◌, map, length, take, Option, Some, None, is_none, is_some, slice_get, option_map, refl, sym, ap, ◌∙◌, subst, arith}
use Rattle.std.proofs.lemmas.Bool.{ne_eqb}
use Rattle.std.proofs.lemmas.List.{take-map, drop-map, length-map}
use Rattle.upc_cell.specs.declared.vc.Vc.{Vc}
use Rattle.upc_cell.specs.Connection.{vc_of, is_same_vc}
use Rattle.bpf_code.specs.declared.instr.Instr.{Instr}
use Rattle.gen_arena.specs.declared.id.Id.{Id}
use Rattle.line_record.specs.declared.entry.Entry.{Entry}
use Rattle.line_record.specs.History.{NamedCell}
use Rattle.line_record.specs.Piece.{PieceView}
use Rattle.card_core.specs.declared.ask.Ask.{Ask}
use Rattle.card_core.specs.declared.reply.Reply.{Reply}
use Rattle.card_core.specs.declared.reply.Reply.TheVariants.{Loaded, Retired, SetUp, Reloaded, Released, Cut as CutOff}
use Rattle.card_core.specs.declared.step.Step.TheVariants.{Load, Retire, Setup, Reload, Release, Cut}
use Rattle.card_core.specs.World.{World, Loading, Connection, Picking, PortState, outside, entered, picked, code_in, without_code, times_given, returned_cells, kept_cells, connection_in, with_connection, without_connection}
use Rattle.card_core.specs.Refusals.{refusal, setup_fault}
use Rattle.card_core.specs.Steps.{Loads, Retires, SetsUp, Reloads, Releases, Cuts, IsPieceOf, new_connection}
use Rattle.card_core.specs.inner.Sound.{WorldInvariant}
use Rattle.card_isolation.specs.Act.{sets_up, reloads, releases, cuts}
use Rattle.card_isolation.specs.Outcome.{Outcome, seen, done, named_before, handed_out, outcome_of_piece}
use Rattle.card_isolation.specs.OwnEvents.{own_where}
use Rattle.card_core.proofs.LookUps.{passed_on, unmapped, is_missing}
use Rattle.card_isolation.proofs.Basics.{pointwise}
use Rattle.card_isolation.proofs.Forgotten.{forgotten, seen_entries, entries-forgotten}
use Rattle.card_core.proofs.ConnectionLemmas.{without-here}
use Rattle.card_isolation.proofs.Connections.{with-here, with-others, without-others, found-same, code-stays}
use Rattle.card_isolation.proofs.Alone.{OwnConnection, Place, idle, came, looked, Alone, ended, code_alone, piece_alone, reloaded, cut_off, set_up}
use Rattle.card_isolation.proofs.Views.{own_connection_of, is_current, place_of, alone_of, alone_in, Goes, StepEffect, no-more, same-alone, effect-at}

-- Load: the codes that were loaded before remain.

place-loaded : (vc : Vc) (before : World) (new : Loading) (found : Option Connection) (port : ℕ) → (o : Option PortState)
    → ((picking : Picking) → o ≡ Some (picked picking) → code_in (new ∷ before.loaded) picking.program ≡ code_in before.loaded picking.program)
    → place_of before.shape.side vc (new ∷ before.loaded) found o ≡ place_of before.shape.side vc before.loaded found o
place-loaded vc before new found port None stays = refl
place-loaded vc before new found port (Some outside) stays = refl
place-loaded vc before new found port (Some (entered cell moment)) stays = refl
place-loaded vc before new found port (Some (picked picking)) stays =
    ap (λ code. cond (is_same_vc vc picking.vc) (looked picking.cell picking.moment picking.value code (is_current found picking)) idle)
    (stays picking refl)

own_connection-loaded : (before : World) (new : Loading) → (o : Option Connection)
    → ((connection : Connection) → o ≡ Some connection → code_in (new ∷ before.loaded) connection.program ≡ code_in before.loaded connection.program)
    → option_map (own_connection_of (new ∷ before.loaded)) o ≡ option_map (own_connection_of before.loaded) o
own_connection-loaded before new None stays = refl
own_connection-loaded before new (Some connection) stays =
    ap (λ code. Some (record (own_connection_of before.loaded connection) { code = code })) (stays connection refl)

pub effect-loads : (vc : Vc) (before : World) (code : List Instr) (reply : Reply) (after : World) → WorldInvariant before
    → Loads before code reply after → StepEffect vc before (Load code) reply after
effect-loads vc before code reply after sound w =
    let new : Loading = record { id = w.id; code = code } in
    let here : Option Connection = connection_in before.connections vc in
    let next : w.id.generation ≡ times_given before.loaded w.id.slot + 1 =
    subst (λ slot. w.id.generation ≡ times_given before.loaded slot + 1) (sym w.here) w.next in
    let later : World = record before { loaded = new ∷ before.loaded; live = new ∷ before.live } in
    effect-at vc before (Load code) reply (Loaded w.id) after later w.answer w.world (record {
      shape = refl;
      notes = refl;
      own = same-alone (alone_in vc later) (alone_in vc before)
          (own_connection-loaded before new here
          (λ connection found. code-stays before w.id connection.program code sound next (sound.connections.each vc connection found).named_live))
          (pointwise (alone_in vc later).places (alone_in vc before).places
          (λ port. place-loaded vc before new here port (slice_get before.ports port)
          (λ picking had. code-stays before w.id picking.program code sound next (sound.ports port picking had).live)));
      counts = λ line. no-more (before.verdicts line);
    })

pub effect-retires : (vc : Vc) (before : World) (id : Id) (reply : Reply) (after : World)
    → Retires before id reply after → StepEffect vc before (Retire id) reply after
effect-retires vc before id reply after w =
    effect-at vc before (Retire id) reply (Retired w.code) after (record before { live = without_code before.live id }) w.answer w.world (record {
      shape = refl;
      notes = refl;
      own = refl;
      counts = λ line. no-more (before.verdicts line);
    })

-- The connection's part of the world, after a write of other connections.
abbrev alone_with : Vc → World → Option Connection → Alone
alone_with vc world found = alone_of world.shape.side vc world.loaded found world.ports

-- Setup: no cell that was looked up belongs to the new connection.

place-new : (vc : Vc) (before : World) (new : Connection) → (o : Option PortState)
    → ((picking : Picking) → o ≡ Some (picked picking) → picking.incarnation < new.incarnation)
    → place_of before.shape.side vc before.loaded (Some new) o ≡ place_of before.shape.side vc before.loaded None o
place-new vc before new None old = refl
place-new vc before new (Some outside) old = refl
place-new vc before new (Some (entered cell moment)) old = refl
place-new vc before new (Some (picked picking)) old =
    let less = old picking refl in
    ap (λ current. cond (is_same_vc vc picking.vc) (looked picking.cell picking.moment picking.value (code_in before.loaded picking.program) current) idle)
    (ne_eqb new.incarnation picking.incarnation (λ same. absurd (omega (arith, less, same))))

-- The virtual connection of a setup had no connection before.
pub was-free : (before : World) (ask : Ask) → refusal before (Setup ask) ≡ None → connection_in before.connections ask.vc ≡ None
was-free before ask allowed =
    let one = passed_on (is_none (code_in before.live ask.program)) _ _ (unmapped _ (setup_fault before ask) allowed) in
    let two = passed_on (is_some (connection_in before.connections ask.vc)) _ _ one.1 in
    is_missing (connection_in before.connections ask.vc) two.0

pub effect-sets_up : (vc : Vc) (before : World) (ask : Ask) (reply : Reply) (after : World) → WorldInvariant before
    → refusal before (Setup ask) ≡ None → SetsUp before ask reply after → StepEffect vc before (Setup ask) reply after
effect-sets_up vc before ask reply after sound allowed w =
    let alone : Alone = alone_in vc before in
    let own : Bool = is_same_vc vc ask.vc in
    let code : Option (List Instr) = code_in before.loaded ask.program in
    let new : Connection = new_connection ask w.line (before.incarnations + 1) in
    let later : World = record before {
      connections = with_connection before.connections ask.vc new;
      incarnations = before.incarnations + 1;
    } in
    let choice : (b : Bool) → own ≡ b → Goes before.shape.journal (own_where b (sets_up ask.contracts.items code) done) alone (alone_in vc later) = elim [
      | true ↦ λ e.
          let none : connection_in before.connections vc ≡ None =
          found-same before.connections vc ask.vc None e (was-free before ask allowed) in
          record {
            fits = tt;
            outcome = refl;
            next = ap (alone_with vc before) (with-here before.connections ask.vc vc new e)
                ∙ ap (λ (p : ℕ → Place). record alone { connection = Some (set_up ask.contracts.items code); places = p })
                (pointwise (alone_with vc before (Some new)).places (alone_with vc before None).places
                (λ port. place-new vc before new (slice_get before.ports port)
                (λ picking had. omega (arith, (sound.ports port picking had).old)))
                ∙ ap (λ (o : Option Connection). (alone_with vc before o).places) (sym none));
          }
      | false ↦ λ e. ap (alone_with vc before) (with-others before.connections ask.vc vc new e)
    ] in
    effect-at vc before (Setup ask) reply (SetUp (record { vc = ask.vc; incarnation = before.incarnations + 1 })) after later w.answer w.world (record {
      shape = refl;
      notes = refl;
      own = choice own refl;
      counts = λ line. no-more (before.verdicts line);
    })

-- A connection with the same incarnation has the same cells at the ports.
place-kept : (vc : Vc) (before : World) (one other : Connection) → one.incarnation ≡ other.incarnation → (o : Option PortState)
    → place_of before.shape.side vc before.loaded (Some one) o ≡ place_of before.shape.side vc before.loaded (Some other) o
place-kept vc before one other same None = refl
place-kept vc before one other same (Some outside) = refl
place-kept vc before one other same (Some (entered cell moment)) = refl
place-kept vc before one other same (Some (picked picking)) =
    ap (λ incarnation. cond (is_same_vc vc picking.vc) (looked picking.cell picking.moment picking.value (code_in before.loaded picking.program) (incarnation == picking.incarnation)) idle)
    same

-- The connection is written under its incarnation.
rewritten : (vc other : Vc) (before : World) (old new : Connection) → is_same_vc vc other ≡ true
    → connection_in before.connections other ≡ Some old → new.incarnation ≡ old.incarnation
    → alone_with vc before (connection_in (with_connection before.connections other new) vc)
    ≡ record (alone_in vc before) { connection = Some (own_connection_of before.loaded new) }
rewritten vc other before old new e found same =
    let was : connection_in before.connections vc ≡ Some old = found-same before.connections vc other (Some old) e found in
    ap (alone_with vc before) (with-here before.connections other vc new e)
    ∙ ap (λ (p : ℕ → Place). record (alone_in vc before) { connection = Some (own_connection_of before.loaded new); places = p })
    (pointwise (alone_with vc before (Some new)).places (alone_with vc before (Some old)).places
    (λ port. place-kept vc before new old same (slice_get before.ports port))
    ∙ ap (λ (o : Option Connection). (alone_with vc before o).places) (sym was))

pub effect-reloads : (vc : Vc) (before : World) (other : Vc) (program : Id) (reply : Reply) (after : World)
    → Reloads before other program reply after → StepEffect vc before (Reload other program) reply after
effect-reloads vc before other program reply after w =
    let alone : Alone = alone_in vc before in
    let own : Bool = is_same_vc vc other in
    let code : Option (List Instr) = code_in before.loaded program in
    let new : Connection = record w.connection { program = program } in
    let later : World = record before { connections = with_connection before.connections other new } in
    let outcome : Outcome = named_before (code_in before.loaded w.connection.program) in
    let choice : (b : Bool) → own ≡ b → Goes before.shape.journal (own_where b (reloads code) outcome) alone (alone_in vc later) = elim [
      | true ↦ λ e.
          let was : alone.connection ≡ Some (own_connection_of before.loaded w.connection) =
          ap (option_map (own_connection_of before.loaded)) (found-same before.connections vc other (Some w.connection) e w.found) in
          record {
            fits = tt;
            outcome = sym (ap (λ (c : Option OwnConnection). named_before (code_alone c)) was);
            next = rewritten vc other before w.connection new e w.found refl
                ∙ ap (λ (c : Option OwnConnection). record alone { connection = reloaded c code }) (sym was);
          }
      | false ↦ λ e. ap (alone_with vc before) (with-others before.connections other vc new e)
    ] in
    effect-at vc before (Reload other program) reply (Reloaded w.connection.program) after later w.answer w.world (record {
      shape = refl;
      notes = refl;
      own = choice own refl;
      counts = λ line. no-more (before.verdicts line);
    })

-- A piece has the contracts and the entries of the connection on its own.
piece-alike : (before : World) (other : Vc) (connection : Connection) (piece : PieceView) → IsPieceOf before other connection piece
    → outcome_of_piece piece ≡ piece_alone (Some (own_connection_of before.loaded connection))
piece-alike before other connection piece is =
    ap (λ contracts. handed_out contracts (map seen piece.entries)) is.contracts
    ∙ ap (λ (entries : List Entry). handed_out connection.contracts (map seen entries)) is.entries
    ∙ ap (handed_out connection.contracts) (sym (entries-forgotten connection.contracts (returned_cells connection) (kept_cells connection)))
    ∙ ap (λ (front : List NamedCell). handed_out connection.contracts (seen_entries connection.contracts front (map forgotten (kept_cells connection))))
    (sym (take-map forgotten connection.returned connection.history))
    ∙ ap (λ (rest : List NamedCell). handed_out connection.contracts (seen_entries connection.contracts (take connection.returned (map forgotten connection.history)) rest))
    (sym (drop-map forgotten connection.returned connection.history))

pub effect-cuts : (vc : Vc) (before : World) (other : Vc) (reply : Reply) (after : World)
    → Cuts before other reply after → StepEffect vc before (Cut other) reply after
effect-cuts vc before other reply after w =
    let alone : Alone = alone_in vc before in
    let own : Bool = is_same_vc vc other in
    let new : Connection = record w.connection { returned = length w.connection.history } in
    let later : World = record before { connections = with_connection before.connections other new } in
    let outcome : Outcome = outcome_of_piece w.piece in
    let choice : (b : Bool) → own ≡ b → Goes before.shape.journal (own_where b cuts outcome) alone (alone_in vc later) = elim [
      | true ↦ λ e.
          let own_connection : OwnConnection = own_connection_of before.loaded w.connection in
          let was : alone.connection ≡ Some own_connection =
          ap (option_map (own_connection_of before.loaded)) (found-same before.connections vc other (Some w.connection) e w.found) in
          record {
            fits = tt;
            outcome = piece-alike before other w.connection w.piece w.next ∙ sym (ap piece_alone was);
            next = rewritten vc other before w.connection new e w.found refl
                ∙ ap (λ handed. record alone { connection = Some (record own_connection { returned = handed }) }) (sym (length-map w.connection.history forgotten))
                ∙ ap (λ (c : Option OwnConnection). record alone { connection = cut_off c }) (sym was);
          }
      | false ↦ λ e. ap (alone_with vc before) (with-others before.connections other vc new e)
    ] in
    effect-at vc before (Cut other) reply (CutOff w.piece) after later w.answer w.world (record {
      shape = refl;
      notes = refl;
      own = choice own refl;
      counts = λ line. no-more (before.verdicts line);
    })

-- Release: no cell that was looked up belongs to an existing connection.

place-ended : (vc : Vc) (before : World) (old : Option Connection) → (o : Option PortState)
    → place_of before.shape.side vc before.loaded None o ≡ ended (place_of before.shape.side vc before.loaded old o)
place-ended vc before old None = refl
place-ended vc before old (Some outside) = refl
place-ended vc before old (Some (entered cell moment)) =
    let choice : (b : Bool) → cond b (came cell moment) idle ≡ ended (cond b (came cell moment) idle) = elim [
      | true ↦ refl
      | false ↦ refl
    ] in
    choice (is_same_vc vc (vc_of before.shape.side cell))
place-ended vc before old (Some (picked picking)) =
    let place : Bool → Place = looked picking.cell picking.moment picking.value (code_in before.loaded picking.program) in
    let choice : (b : Bool) → cond b (place false) idle ≡ ended (cond b (place (is_current old picking)) idle) = elim [
      | true ↦ refl
      | false ↦ refl
    ] in
    choice (is_same_vc vc picking.vc)

gone : (connections : List (Vc × Connection)) (vc other : Vc) → is_same_vc vc other ≡ true
    → connection_in (without_connection connections other) vc ≡ None
gone connections vc other e = found-same (without_connection connections other) vc other None e (without-here connections other)

pub effect-releases : (vc : Vc) (before : World) (other : Vc) (reply : Reply) (after : World)
    → Releases before other reply after → StepEffect vc before (Release other) reply after
effect-releases vc before other reply after w =
    let alone : Alone = alone_in vc before in
    let own : Bool = is_same_vc vc other in
    let later : World = record before { connections = without_connection before.connections other } in
    let outcome : Outcome = outcome_of_piece w.piece in
    let choice : (b : Bool) → own ≡ b → Goes before.shape.journal (own_where b releases outcome) alone (alone_in vc later) = elim [
      | true ↦ λ e.
          let was : alone.connection ≡ Some (own_connection_of before.loaded w.connection) =
          ap (option_map (own_connection_of before.loaded)) (found-same before.connections vc other (Some w.connection) e w.found) in
          record {
            fits = tt;
            outcome = piece-alike before other w.connection w.piece w.last ∙ sym (ap piece_alone was);
            next = ap (alone_with vc before) (gone before.connections vc other e)
                ∙ ap (λ (p : ℕ → Place). record { connection = None; places = p })
                (pointwise (alone_with vc before None).places (λ port. ended (alone.places port))
                (λ port. place-ended vc before (connection_in before.connections vc) (slice_get before.ports port)));
          }
      | false ↦ λ e. ap (alone_with vc before) (without-others before.connections other vc e)
    ] in
    effect-at vc before (Release other) reply (Released w.piece) after later w.answer w.world (record {
      shape = refl;
      notes = refl;
      own = choice own refl;
      counts = λ line. no-more (before.verdicts line);
    })
