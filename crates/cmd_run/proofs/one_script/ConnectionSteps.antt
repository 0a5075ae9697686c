-- If the views of two cards are equal, connections are set up with the same answers on both, on whatever lines.
use Rattle.std.proofs.Common.{◌≡◌, ℕ, suc, ◌+◌, ◌^◌, ◌<◌, ◌==◌, Bool, false, if◌then◌else◌, not, List, [], ◌∷◌, ◌++◌, length, Option, Some, None, is_none, is_some, nat_le, nat_lt, option_map, codes, refl, sym, ap, ◌∙◌, subst}
use Rattle.std.specs.List.{filter}
use Rattle.std.proofs.lemmas.Bool.{not-true}
use Rattle.upc_cell.specs.Connection.{is_same_vc}
use Rattle.upc_cell.specs.declared.side.Side.{Side}
use Rattle.upc_cell.specs.declared.vc.Vc.{Vc}
use Rattle.leaky.specs.declared.contract.Contract.{Contract}
use Rattle.card_core.specs.Refusals.{setup_fault}
use Rattle.card_core.specs.Steps.{SetsUp, WorldStep, new_connection}
use Rattle.card_core.specs.World.{Connection, Loading, World, any_below, connection_in, is_open_line, with_connection, without_connection}
use Rattle.card_core.specs.declared.ask.Ask.{Ask}
use Rattle.card_core.specs.declared.fault.DeskFault.{DeskFault}
use Rattle.card_core.specs.declared.fault.DeskFault.TheVariants.{BadContracts, Exhausted, NoLine, NoMemory, NoProgram, Taken}
use Rattle.card_core.specs.declared.reply.Reply.{Reply}
use Rattle.card_core.specs.declared.reply.Reply.TheVariants.{NotSetUp}
use Rattle.card_core.specs.declared.step.Step.TheVariants.{Setup}
use Rattle.text_words.specs.FaultLines.{line}
use Rattle.text_script.specs.ReplyTexts.{connection_name}
use Rattle.text_card.specs.Replies.{reply_text}
use Rattle.cmd_run.specs.RunText.{id_loaded}
use Rattle.text_script.specs.ScriptCommands.{setup}
use Rattle.text_script.specs.declared.script_words.Wanted.{Wanted}
use Rattle.cmd_run.proofs.one_script.Numbers.{number_in}
use Rattle.cmd_run.proofs.one_script.OpenPlaces.{apart-filter, is_taken, open-place, taken-filter}
use Rattle.cmd_run.proofs.one_script.Seen.{Seen, SeenConnection, code_of, found_at, seen, seen_connection, seen_connections, with_at}
use Rattle.cmd_run.proofs.one_script.SeenConnections.{AreSetUpOnce, all-filter, all-found, found-seen, gone-filter, gone-here, gone-seen, line_of, line-freed, once-without, some-seen}
use Rattle.cmd_run.proofs.one_script.SeenPrograms.{code-seen}
use Rattle.cmd_run.proofs.one_script.HoldsAfter.{Comes, HoldsAfter, ConnectionsHold, answered, desk-split, left, refused-comes, reprinted, holds-later, unnamed}

length-connections : (given : List Loading) (connections : List (Vc × Connection)) → length (seen_connections given connections) ≡ length connections
length-connections given [] = refl
length-connections given (here ∷ later) = ap suc (length-connections given later)

-- A line is open exactly if there are fewer connections than lines.
open-lines : (met : ℕ) (world : World) → HoldsAfter met world
    → any_below world.shape.lines (is_open_line world) ≡ nat_lt (length (seen_connections world.loaded world.connections)) world.shape.lines
open-lines met world invariant =
    (open-place line_of world.shape.lines world.connections invariant.connections.apart invariant.connections.below).some
    ∙ ap (λ n. nat_lt n world.shape.lines) (sym (length-connections world.loaded world.connections))

pub is-none_mapped : {X Y : Type 0} (f : X → Y) (found : Option X) → is_none (option_map f found) ≡ is_none found
is-none_mapped f None = refl
is-none_mapped f (Some x) = refl

pub none-seen : (given : List Loading) (connections : List (Vc × Connection)) (vc : Vc)
    → is_none (connection_in connections vc) ≡ is_none (found_at (seen_connections given connections) vc)
none-seen given connections vc =
    sym (ap is_none (found-seen given connections vc) ∙ is-none_mapped (seen_connection given) (connection_in connections vc))

-- A connection that is looked up is in the view.
pub found-there : (given : List Loading) (connections : List (Vc × Connection)) (vc : Vc) (connection : Connection)
    → connection_in connections vc ≡ Some connection → found_at (seen_connections given connections) vc ≡ Some (seen_connection given connection)
found-there given connections vc connection found = found-seen given connections vc ∙ ap (option_map (seen_connection given)) found

-- The invariant holds for the connections without one of them.
pub connections-without : (bound : ℕ) (given : List Loading) (connections : List (Vc × Connection)) (vc : Vc)
    → ConnectionsHold bound given connections → ConnectionsHold bound given (without_connection connections vc)
connections-without bound given connections vc invariant =
    let kept : Vc × Connection → Bool = λ here. not (is_same_vc vc here.0) in
    let less : ConnectionsHold bound given (filter kept connections) = record {
      known = all-filter (λ here. 0 < number_in given here.1.program) kept connections invariant.known;
      once = subst AreSetUpOnce (gone-filter connections vc) (once-without connections vc invariant.once);
      apart = apart-filter line_of kept connections invariant.apart;
      below = all-filter (λ here. line_of here < bound) kept connections invariant.below;
    } in
    subst (λ others. ConnectionsHold bound given others) (sym (gone-filter connections vc)) less

-- It also holds with another in its place, on a free line.
pub connections-with : (bound : ℕ) (given : List Loading) (connections : List (Vc × Connection)) (vc : Vc) (connection : Connection)
    → ConnectionsHold bound given connections → 0 < number_in given connection.program → connection.line < bound
    → is_taken line_of (without_connection connections vc) connection.line ≡ false
    → ConnectionsHold bound given (with_connection connections vc connection)
connections-with bound given connections vc connection invariant known below free =
    let less = connections-without bound given connections vc invariant in
    record { known = (known, less.known); once = (gone-here connections vc, less.once); apart = (free, less.apart); below = (below, less.below) }

-- A connection that replaces another on the same line.
pub connections-changed : (bound : ℕ) (given : List Loading) (connections : List (Vc × Connection)) (vc : Vc) (old new : Connection)
    → ConnectionsHold bound given connections → connection_in connections vc ≡ Some old → new.line ≡ old.line
    → 0 < number_in given new.program → ConnectionsHold bound given (with_connection connections vc new)
connections-changed bound given connections vc old new invariant found same known =
    let below = all-found (λ connection. connection.line < bound) connections vc old invariant.below found in
    let free = line-freed connections vc old invariant.apart found in
    connections-with bound given connections vc new invariant known
    (subst (λ number. number < bound) (sym same) below)
    (subst (λ number. is_taken line_of (without_connection connections vc) number ≡ false) (sym same) free)

-- The view of the connections after one was replaced.
pub with-seen : (given : List Loading) (connections : List (Vc × Connection)) (vc : Vc) (connection : Connection)
    → seen_connections given (with_connection connections vc connection) ≡ with_at (seen_connections given connections) vc (seen_connection given connection)
with-seen given connections vc connection = ap (λ others. (vc, seen_connection given connection) ∷ others) (gone-seen given connections vc)

-- The connections with that one changed, if there is one.
abbrev pub changed_by : Option SeenConnection → List (Vc × SeenConnection) → Vc → (SeenConnection → SeenConnection) → List (Vc × SeenConnection)
changed_by None connections vc change = connections
changed_by (Some connection) connections vc change = with_at connections vc (change connection)

abbrev pub changed_at : Seen → Vc → (SeenConnection → SeenConnection) → Seen
changed_at s vc change = record s { connections = changed_by (found_at s.connections vc) s.connections vc change }

pub changed-seen : (given : List Loading) (connections : List (Vc × Connection)) (vc : Vc) (old new : Connection) (change : SeenConnection → SeenConnection)
    → connection_in connections vc ≡ Some old → seen_connection given new ≡ change (seen_connection given old)
    → seen_connections given (with_connection connections vc new)
    ≡ changed_by (found_at (seen_connections given connections) vc) (seen_connections given connections) vc change
changed-seen given connections vc old new change found same =
    with-seen given connections vc new
    ∙ ap (λ connection. with_at (seen_connections given connections) vc connection) same
    ∙ ap (λ o. changed_by o (seen_connections given connections) vc change) (sym (found-there given connections vc old found))

-- Setup.

abbrev pub seen_setup_fault : Seen → Vc → ℕ → List Contract → Option DeskFault
seen_setup_fault s vc number contracts =
    if is_none (code_of s.live number) then Some NoProgram
    else if is_some (found_at s.connections vc) then Some Taken
    else if length contracts == 0 then Some BadContracts
    else if not (nat_lt (length s.connections) s.shape.lines) then Some NoLine
    else if nat_le (2 ^ 62) s.incarnations then Some Exhausted
    else None

setup_fault-seen : (met : ℕ) (world : World) (ask : Ask) → HoldsAfter met world
    → setup_fault world ask ≡ seen_setup_fault (seen world) ask.vc (number_in world.loaded ask.program) ask.contracts.items
setup_fault-seen met world ask invariant =
    let code = code-seen world.loaded world.live invariant.programs.known ask.program in
    let found = some-seen world.loaded world.connections ask.vc in
    let free = open-lines met world invariant in
    λ i. if is_none (sym code i) then Some NoProgram
    else if found i then Some Taken
    else if length ask.contracts.items == 0 then Some BadContracts
    else if not (free i) then Some NoLine
    else if nat_le (2 ^ 62) world.incarnations then Some Exhausted
    else None

abbrev pub fresh : ℕ → List Contract → SeenConnection
fresh number contracts = record { program = number; contracts = contracts; history = []; returned = 0 }

abbrev pub set_up : Seen → Vc → ℕ → List Contract → Seen
set_up s vc number contracts = record s { connections = with_at s.connections vc (fresh number contracts); incarnations = s.incarnations + 1 }

abbrev pub set_text : Side → Vc → Option (List ℕ)
set_text side vc = Some (line (codes "set " ++ connection_name side vc))

sets_up-comes : (met : ℕ) (before after : World) (ask : Ask) (vc : Vc) (number : ℕ) (wanted : List Wanted) (reply : Reply) (text : List ℕ)
    → HoldsAfter met before → 0 < number_in before.loaded ask.program
    → reply_text before.shape.side (setup vc number wanted) (length before.loaded) reply ≡ Some text → SetsUp before ask reply after
    → Comes met before after reply (set_text before.shape.side vc) text (set_up (seen before) ask.vc (number_in before.loaded ask.program) ask.contracts.items)
sets_up-comes met before after ask vc number wanted reply text invariant known printed goes =
    let new = new_connection ask goes.line (before.incarnations + 1) in
    let connections = with-seen before.loaded before.connections ask.vc new in
    let later = holds-later met before invariant in
    let untaken = not-true (is_taken line_of before.connections goes.line) goes.open_line in
    let free : is_taken line_of (without_connection before.connections ask.vc) goes.line ≡ false =
    subst (λ others. is_taken line_of others goes.line ≡ false) (sym (gone-filter before.connections ask.vc))
    (taken-filter line_of (λ here. not (is_same_vc ask.vc here.0)) before.connections goes.line untaken) in
    record {
      printed = reprinted before.shape.side (setup vc number wanted) (length before.loaded) reply _ text goes.answer printed;
      shown = ap seen goes.world ∙ (λ i. record (seen before) { connections = connections i; incarnations = before.incarnations + 1 });
      holds = subst (λ (world : World). HoldsAfter (met + 1) world) (sym goes.world) (record {
        programs = later.programs;
        connections = connections-with before.shape.lines before.loaded before.connections ask.vc new invariant.connections known goes.within free;
      });
      named = unnamed before after reply (ap (λ (world : World). world.loaded) goes.world) (ap id_loaded goes.answer);
      judged = ap (λ (world : World). world.verdicts) goes.world;
    }

-- A connection is set up.
pub setup-comes : (met : ℕ) (before after : World) (ask : Ask) (vc : Vc) (number : ℕ) (wanted : List Wanted) (reply : Reply) (text : List ℕ)
    → HoldsAfter met before → 0 < number_in before.loaded ask.program
    → reply_text before.shape.side (setup vc number wanted) (length before.loaded) reply ≡ Some text → WorldStep before (Setup ask) reply after
    → Comes met before after reply
    (answered (seen_setup_fault (seen before) ask.vc (number_in before.loaded ask.program) ask.contracts.items) (set_text before.shape.side vc)) text
    (left (seen_setup_fault (seen before) ask.vc (number_in before.loaded ask.program) ask.contracts.items) (seen before)
    (set_up (seen before) ask.vc (number_in before.loaded ask.program) ask.contracts.items))
setup-comes met before after ask vc number wanted reply text invariant known printed step =
    let P : Option DeskFault → Type 0 = λ found.
    Comes met before after reply (answered found (set_text before.shape.side vc)) text
    (left found (seen before) (set_up (seen before) ask.vc (number_in before.loaded ask.program) ask.contracts.items)) in
    subst P (setup_fault-seen met before ask invariant)
    (desk-split P (λ fault. NotSetUp fault ask) (setup_fault before ask) before after (Setup ask) reply
    (λ goes. sets_up-comes met before after ask vc number wanted reply text invariant known printed goes)
    (λ lacks.
    let same : NotSetUp NoMemory ask ≡ reply = let e = lacks.answer in cc in
    let none = reprinted before.shape.side (setup vc number wanted) (length before.loaded) reply (NotSetUp NoMemory ask) text (sym same) printed in absurd (cc))
    (λ fault is. refused-comes met before after reply fault text invariant is.world (ap id_loaded is.answer)
    (reprinted before.shape.side (setup vc number wanted) (length before.loaded) reply (NotSetUp fault ask) text is.answer printed)) step)
