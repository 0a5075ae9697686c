-- If the views of two cards are equal, connections are reloaded, released and cut with the same answers on both, on
-- whatever lines.
use Rattle.std.proofs.Common.{◌≡◌, ℕ, ◌+◌, ◌<◌, if◌then◌else◌, List, ◌++◌, length, map, Option, Some, None, is_none, option_map, codes, decimal, refl, sym, ap, ◌∙◌, subst}
use Rattle.upc_cell.specs.declared.side.Side.{Side}
use Rattle.upc_cell.specs.declared.vc.Vc.{Vc}
use Rattle.gen_arena.specs.declared.id.Id.{Id}
use Rattle.leaky.specs.declared.verdict.Verdict.{Verdict}
use Rattle.line_record.specs.History.{empty_buckets, judged}
use Rattle.line_record.specs.Piece.{PieceView}
use Rattle.line_record.specs.Tally.{tally_of}
use Rattle.card_core.specs.Refusals.{missing_fault, reload_fault}
use Rattle.card_core.specs.Steps.{Cuts, Releases, Reloads, WorldStep}
use Rattle.card_core.specs.World.{Connection, Loading, World, connection_in, returned_cells, kept_cells}
use Rattle.card_core.specs.declared.fault.DeskFault.{DeskFault}
use Rattle.card_core.specs.declared.fault.DeskFault.TheVariants.{NoConnection, NoMemory, NoProgram}
use Rattle.card_core.specs.declared.reply.Reply.{Reply}
use Rattle.card_core.specs.declared.reply.Reply.TheVariants.{Cut as CutOff, Refused, Released, Reloaded}
use Rattle.card_core.specs.declared.step.Step.TheVariants.{Cut, Release, Reload}
use Rattle.text_words.specs.FaultLines.{line}
use Rattle.text_script.specs.ReplyTexts.{connection_name, piece_text, program_name, tally_text}
use Rattle.text_card.specs.Replies.{reply_text}
use Rattle.cmd_run.specs.RunText.{id_loaded}
use Rattle.text_script.specs.ScriptCommands.{cut, release, reload}
use Rattle.cmd_run.proofs.one_script.ConnectionSteps.{changed_at, changed-seen, connections-changed, connections-without, found-there, none-seen}
use Rattle.cmd_run.proofs.one_script.Numbers.{number_in}
use Rattle.cmd_run.proofs.one_script.Seen.{Seen, SeenConnection, code_of, found_at, kept_verdicts, seen, seen_connection, seen_connections, without_at}
use Rattle.cmd_run.proofs.one_script.SeenCells.{drop-nameless, judged-nameless, length-nameless, length-verdicts, take-nameless, verdict_in}
use Rattle.cmd_run.proofs.one_script.SeenConnections.{all-found, gone-seen}
use Rattle.cmd_run.proofs.one_script.SeenPrograms.{code-seen}
use Rattle.cmd_run.proofs.one_script.HoldsAfter.{Comes, HoldsAfter, answered, desk-split, left, refused-comes, reprinted, holds-later, unnamed}

-- Reload.

abbrev pub seen_reload_fault : Seen → Vc → ℕ → Option DeskFault
seen_reload_fault s vc number =
    if is_none (code_of s.live number) then Some NoProgram
    else if is_none (found_at s.connections vc) then Some NoConnection
    else None

reload_fault-seen : (met : ℕ) (world : World) (vc : Vc) (id : Id) → HoldsAfter met world
    → reload_fault world vc id ≡ seen_reload_fault (seen world) vc (number_in world.loaded id)
reload_fault-seen met world vc id invariant =
    let code = code-seen world.loaded world.live invariant.programs.known id in
    let found = none-seen world.loaded world.connections vc in
    λ i. if is_none (sym code i) then Some NoProgram
    else if found i then Some NoConnection
    else None

abbrev pub reloaded : ℕ → SeenConnection → SeenConnection
reloaded number connection = record connection { program = number }

abbrev pub reloaded_text : Side → Vc → ℕ → Option (List ℕ)
reloaded_text side vc number = Some (line (codes "reloaded " ++ connection_name side vc ++ codes " " ++ program_name number))

reloads-comes : (met : ℕ) (before after : World) (vc : Vc) (id : Id) (number : ℕ) (reply : Reply) (text : List ℕ) → HoldsAfter met before
    → 0 < number_in before.loaded id → reply_text before.shape.side (reload vc number) (length before.loaded) reply ≡ Some text → Reloads before vc id reply after
    → Comes met before after reply (reloaded_text before.shape.side vc number) text (changed_at (seen before) vc (reloaded (number_in before.loaded id)))
reloads-comes met before after vc id number reply text invariant known printed goes =
    let new : Connection = record goes.connection { program = id } in
    let connections = changed-seen before.loaded before.connections vc goes.connection new (reloaded (number_in before.loaded id)) goes.found refl in
    let later = holds-later met before invariant in
    record {
      printed = reprinted before.shape.side (reload vc number) (length before.loaded) reply (Reloaded goes.connection.program) text goes.answer printed;
      shown = ap seen goes.world ∙ (λ i. record (seen before) { connections = connections i });
      holds = subst (λ (world : World). HoldsAfter (met + 1) world) (sym goes.world) (record {
        programs = later.programs;
        connections = connections-changed before.shape.lines before.loaded before.connections vc goes.connection new invariant.connections goes.found refl known;
      });
      named = unnamed before after reply (ap (λ (world : World). world.loaded) goes.world) (ap id_loaded goes.answer);
      judged = ap (λ (world : World). world.verdicts) goes.world;
    }

-- A connection is given another program.
pub reload-comes : (met : ℕ) (before after : World) (vc : Vc) (id : Id) (number : ℕ) (reply : Reply) (text : List ℕ) → HoldsAfter met before
    → 0 < number_in before.loaded id → reply_text before.shape.side (reload vc number) (length before.loaded) reply ≡ Some text → WorldStep before (Reload vc id) reply after
    → Comes met before after reply (answered (seen_reload_fault (seen before) vc (number_in before.loaded id)) (reloaded_text before.shape.side vc number)) text
    (left (seen_reload_fault (seen before) vc (number_in before.loaded id)) (seen before) (changed_at (seen before) vc (reloaded (number_in before.loaded id))))
reload-comes met before after vc id number reply text invariant known printed step =
    let P : Option DeskFault → Type 0 = λ found.
    Comes met before after reply (answered found (reloaded_text before.shape.side vc number)) text
    (left found (seen before) (changed_at (seen before) vc (reloaded (number_in before.loaded id)))) in
    subst P (reload_fault-seen met before vc id invariant)
    (desk-split P (λ fault. Refused fault) (reload_fault before vc id) before after (Reload vc id) reply
    (λ goes. reloads-comes met before after vc id number reply text invariant known printed goes)
    (λ lacks. let no = lacks.answer in absurd (cc))
    (λ fault is. refused-comes met before after reply fault text invariant is.world (ap id_loaded is.answer)
    (reprinted before.shape.side (reload vc number) (length before.loaded) reply (Refused fault) text is.answer printed)) step)

-- Pieces.

-- The number of verdicts, and the number of each verdict.
abbrev verdicts_text : List Verdict → List ℕ
verdicts_text verdicts = codes " " ++ decimal (length verdicts) ++ tally_text (tally_of verdicts)

-- The text for the cells that no cut has returned.
abbrev pub kept_text : SeenConnection → List ℕ
kept_text connection = verdicts_text (kept_verdicts connection)

kept-seen : (given : List Loading) (connection : Connection)
    → map verdict_in (judged connection.contracts empty_buckets (returned_cells connection) (kept_cells connection))
    ≡ kept_verdicts (seen_connection given connection)
kept-seen given connection =
    let handed = take-nameless connection.returned connection.history in
    let kept = drop-nameless connection.returned connection.history in
    sym (judged-nameless connection.contracts empty_buckets (returned_cells connection) (kept_cells connection))
    ∙ (λ i. map verdict_in (judged connection.contracts empty_buckets (sym handed i) (sym kept i)))

-- The text for a piece with these entries.
piece-seen : (given : List Loading) (connection : Connection) (piece : PieceView)
    → piece.entries ≡ judged connection.contracts empty_buckets (returned_cells connection) (kept_cells connection)
    → piece_text piece ≡ kept_text (seen_connection given connection)
piece-seen given connection piece same =
    ap (λ n. codes " " ++ decimal n ++ tally_text (tally_of (map verdict_in piece.entries))) (sym (length-verdicts piece.entries))
    ∙ ap verdicts_text (ap (λ entries. map verdict_in entries) same ∙ kept-seen given connection)

-- The reason that there is no piece.
abbrev pub seen_missing_fault : Seen → Vc → Option DeskFault
seen_missing_fault s vc = if is_none (found_at s.connections vc) then Some NoConnection else None

missing_fault-seen : (world : World) (vc : Vc) → missing_fault world vc ≡ seen_missing_fault (seen world) vc
missing_fault-seen world vc = ap (λ b. if b then Some NoConnection else None) (none-seen world.loaded world.connections vc)

-- The line of a piece, which begins with this word.
abbrev pub printed_piece : Side → List ℕ → Vc → Option SeenConnection → Option (List ℕ)
printed_piece side word vc found = option_map (λ connection. line (word ++ connection_name side vc ++ kept_text connection)) found

printed-piece : (side : Side) (given : List Loading) (connections : List (Vc × Connection)) (vc : Vc) (connection : Connection) (piece : PieceView) (word : List ℕ)
    → connection_in connections vc ≡ Some connection
    → piece.entries ≡ judged connection.contracts empty_buckets (returned_cells connection) (kept_cells connection)
    → printed_piece side word vc (found_at (seen_connections given connections) vc) ≡ Some (line (word ++ connection_name side vc ++ piece_text piece))
printed-piece side given connections vc connection piece word found entries =
    ap (printed_piece side word vc) (found-there given connections vc connection found)
    ∙ ap (λ printed. Some (line (word ++ connection_name side vc ++ printed))) (sym (piece-seen given connection piece entries))

-- Release.

abbrev pub released : Seen → Vc → Seen
released s vc = record s { connections = without_at s.connections vc }

abbrev pub released_text : Seen → Vc → Option (List ℕ)
released_text s vc = printed_piece s.shape.side (codes "released ") vc (found_at s.connections vc)

releases-comes : (met : ℕ) (before after : World) (vc : Vc) (reply : Reply) (text : List ℕ) → HoldsAfter met before
    → reply_text before.shape.side (release vc) (length before.loaded) reply ≡ Some text → Releases before vc reply after
    → Comes met before after reply (released_text (seen before) vc) text (released (seen before) vc)
releases-comes met before after vc reply text invariant printed goes =
    let connections = gone-seen before.loaded before.connections vc in
    let later = holds-later met before invariant in
    record {
      printed = printed-piece before.shape.side before.loaded before.connections vc goes.connection goes.piece (codes "released ") goes.found goes.last.entries
          ∙ reprinted before.shape.side (release vc) (length before.loaded) reply (Released goes.piece) text goes.answer printed;
      shown = ap seen goes.world ∙ (λ i. record (seen before) { connections = connections i });
      holds = subst (λ (world : World). HoldsAfter (met + 1) world) (sym goes.world) (record {
        programs = later.programs;
        connections = connections-without before.shape.lines before.loaded before.connections vc invariant.connections;
      });
      named = unnamed before after reply (ap (λ (world : World). world.loaded) goes.world) (ap id_loaded goes.answer);
      judged = ap (λ (world : World). world.verdicts) goes.world;
    }

-- A connection is released.
pub release-comes : (met : ℕ) (before after : World) (vc : Vc) (reply : Reply) (text : List ℕ) → HoldsAfter met before
    → reply_text before.shape.side (release vc) (length before.loaded) reply ≡ Some text → WorldStep before (Release vc) reply after
    → Comes met before after reply (answered (seen_missing_fault (seen before) vc) (released_text (seen before) vc)) text
    (left (seen_missing_fault (seen before) vc) (seen before) (released (seen before) vc))
release-comes met before after vc reply text invariant printed step =
    let P : Option DeskFault → Type 0 = λ found.
    Comes met before after reply (answered found (released_text (seen before) vc)) text (left found (seen before) (released (seen before) vc)) in
    subst P (missing_fault-seen before vc)
    (desk-split P (λ fault. Refused fault) (missing_fault before vc) before after (Release vc) reply
    (λ goes. releases-comes met before after vc reply text invariant printed goes)
    (λ lacks. let no = lacks.answer in absurd (cc))
    (λ fault is. refused-comes met before after reply fault text invariant is.world (ap id_loaded is.answer)
    (reprinted before.shape.side (release vc) (length before.loaded) reply (Refused fault) text is.answer printed)) step)

-- Cut.

abbrev pub handed_out : SeenConnection → SeenConnection
handed_out connection = record connection { returned = length connection.history }

abbrev pub cut_text : Seen → Vc → Option (List ℕ)
cut_text s vc = printed_piece s.shape.side (codes "cut ") vc (found_at s.connections vc)

cuts-comes : (met : ℕ) (before after : World) (vc : Vc) (reply : Reply) (text : List ℕ) → HoldsAfter met before
    → reply_text before.shape.side (cut vc) (length before.loaded) reply ≡ Some text → Cuts before vc reply after
    → Comes met before after reply (cut_text (seen before) vc) text (changed_at (seen before) vc handed_out)
cuts-comes met before after vc reply text invariant printed goes =
    let new : Connection = record goes.connection { returned = length goes.connection.history } in
    let many = length-nameless goes.connection.history in
    let same : seen_connection before.loaded new ≡ handed_out (seen_connection before.loaded goes.connection) =
    λ i. record (seen_connection before.loaded goes.connection) { returned = sym many i } in
    let connections = changed-seen before.loaded before.connections vc goes.connection new handed_out goes.found same in
    let known = all-found (λ connection. 0 < number_in before.loaded connection.program) before.connections vc goes.connection invariant.connections.known goes.found in
    let later = holds-later met before invariant in
    record {
      printed = printed-piece before.shape.side before.loaded before.connections vc goes.connection goes.piece (codes "cut ") goes.found goes.next.entries
          ∙ reprinted before.shape.side (cut vc) (length before.loaded) reply (CutOff goes.piece) text goes.answer printed;
      shown = ap seen goes.world ∙ (λ i. record (seen before) { connections = connections i });
      holds = subst (λ (world : World). HoldsAfter (met + 1) world) (sym goes.world) (record {
        programs = later.programs;
        connections = connections-changed before.shape.lines before.loaded before.connections vc goes.connection new invariant.connections goes.found refl known;
      });
      named = unnamed before after reply (ap (λ (world : World). world.loaded) goes.world) (ap id_loaded goes.answer);
      judged = ap (λ (world : World). world.verdicts) goes.world;
    }

-- A cut loads no program.
pub cut-loads : (before after : World) (vc : Vc) (reply : Reply) → WorldStep before (Cut vc) reply after → after.loaded ≡ before.loaded
cut-loads before after vc reply step =
    desk-split (λ found. after.loaded ≡ before.loaded) (λ fault. Refused fault) (missing_fault before vc) before after (Cut vc) reply
    (λ goes. ap (λ (world : World). world.loaded) goes.world)
    (λ lacks. ap (λ (world : World). world.loaded) lacks.world)
    (λ fault is. ap (λ (world : World). world.loaded) is.world) step

-- A connection's journal is cut.
pub cut-comes : (met : ℕ) (before after : World) (vc : Vc) (reply : Reply) (text : List ℕ) → HoldsAfter met before
    → reply_text before.shape.side (cut vc) (length before.loaded) reply ≡ Some text → WorldStep before (Cut vc) reply after
    → Comes met before after reply (answered (seen_missing_fault (seen before) vc) (cut_text (seen before) vc)) text
    (left (seen_missing_fault (seen before) vc) (seen before) (changed_at (seen before) vc handed_out))
cut-comes met before after vc reply text invariant printed step =
    let P : Option DeskFault → Type 0 = λ found.
    Comes met before after reply (answered found (cut_text (seen before) vc)) text (left found (seen before) (changed_at (seen before) vc handed_out)) in
    subst P (missing_fault-seen before vc)
    (desk-split P (λ fault. Refused fault) (missing_fault before vc) before after (Cut vc) reply
    (λ goes. cuts-comes met before after vc reply text invariant printed goes)
    (λ lacks.
    let same : Refused NoMemory ≡ reply = let e = lacks.answer in cc in
    let none = reprinted before.shape.side (cut vc) (length before.loaded) reply (Refused NoMemory) text (sym same) printed in absurd (cc))
    (λ fault is. refused-comes met before after reply fault text invariant is.world (ap id_loaded is.answer)
    (reprinted before.shape.side (cut vc) (length before.loaded) reply (Refused fault) text is.answer printed)) step)
