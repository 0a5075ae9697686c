-- A Reload, a Release and a Cut.
use Rattle.std.proofs.Common.{◌≡◌, ◌↔◌, ℕ, cond, Option, Some, None, IsSome, List, length, set, refl, sym, ap, subst, ◌∙◌}
use Rattle.std.specs.Prelude.{slice_get, option_map, is_none, IsErrOf, Result, Ok, Err}
use Rattle.gen_arena.specs.declared.id.Id.{Id}
use Rattle.gen_arena.specs.Slot.{Slot}
use Rattle.gen_arena.specs.Live.{live_value, IsLive}
use Rattle.upc_cell.specs.declared.vc.Vc.{Vc}
use Rattle.bpf_code.specs.declared.instr.Instr.{Instr}
use Rattle.line_record.specs.declared.owner.Owner.{Owner}
use Rattle.line_record.specs.declared.directory.Seating.{Seating}
use Rattle.line_record.specs.Directory.{DirectoryView, seating_at, Sits}
use Rattle.line_record.specs.Line.{LineView}
use Rattle.line_record.specs.Piece.{PieceView}
use Rattle.card_core.specs.declared.fault.DeskFault.{DeskFault}
use Rattle.card_core.specs.declared.fault.DeskFault.TheVariants.{NoProgram, NoConnection, Taken, NoLine, InUse, ProgramsFull, Exhausted, BadContracts, Busy, NoMemory, Stale}
use Rattle.card_core.specs.declared.port.Port.{Port}
use Rattle.card_core.specs.declared.reply.Reply.TheVariants.{Reloaded, Released, Cut as CutOff, Refused}
use Rattle.card_core.specs.declared.step.Step.TheVariants.{Reload, Release, Cut}
use Rattle.card_core.specs.declared.shape.Shape.{Shape}
use Rattle.card_core.specs.World.{World, Connection, code_in, connection_in, with_connection, without_connection}
use Rattle.card_core.specs.Refusals.{reload_fault, missing_fault}
use Rattle.card_core.specs.Steps.{WorldStep}
use Rattle.card_core.specs.Agreement.{CoreView, CoreAgrees, Follows, Serves, LinesAgree, seating_of}
use Rattle.card_core.specs.Sections.{holder, IsUncut}
use Rattle.card_core.specs.inner.Parts.{ChangesLine, ReleasesOrRefuses, CutsOrRefuses, LeavesLine}
use Rattle.card_core.proofs.Follow.{follows, step-refused, step-taken, step-without_memory}
use Rattle.card_core.proofs.LookUps.{mapped, unmapped, same_some}
use Rattle.card_core.proofs.LineLemmas.{Change, set-again, lines-with, lines-without, seatings-with, seatings-kept, seatings-without}
use Rattle.card_core.proofs.DeskLemmas.{piece-is, cut-serves}
use Rattle.card_core.proofs.PortLemmas.{core_of}

module _ (shape : Shape) (store : List (Slot (List Instr))) (directory : DirectoryView) (lines : List LineView) (ports : List Port) where
  abbrev Old : CoreView
  Old = core_of shape store directory lines ports

  -- Without a seating there is no connection.
  missing : (before : World) → CoreAgrees Old before → (vc : Vc) → seating_at directory vc ≡ None → connection_in before.connections vc ≡ None
  missing before agrees vc none =
      unmapped seating_of (connection_in before.connections vc) (sym (agrees.seatings.seatings vc) ∙ none)

  -- With a seating there is a connection.
  seated : (before : World) → CoreAgrees Old before → (vc : Vc) (seating : Seating) → seating_at directory vc ≡ Some seating
      → (connection : Connection) × (connection_in before.connections vc ≡ Some connection) × (seating_of connection ≡ seating)
  seated before agrees vc seating sits =
      let known = mapped seating_of (connection_in before.connections vc) seating (sym (agrees.seatings.seatings vc) ∙ sits) in
      (known.0, known.1, sym known.2)

  missing-is : (before : World) (vc : Vc) (o : Option Connection) → connection_in before.connections vc ≡ o
      → missing_fault before vc ≡ cond (is_none o) (Some NoConnection) None
  missing-is before vc o e = ap (λ (p : Option Connection). cond (is_none p) (Some NoConnection) (let none : Option DeskFault = None in none)) e

  pub release-missing : (vc : Vc) → seating_at directory vc ≡ None → Follows Old (Release vc) (Refused NoConnection) Old
  release-missing vc none = follows Old Old (Release vc) (Refused NoConnection) (λ before sound agrees.
      let fault = missing-is before vc None (missing before agrees vc none) in
      (before, step-refused before (Release vc) (Refused NoConnection) (ap (option_map Refused) fault), agrees))

  pub cut-missing : (vc : Vc) → seating_at directory vc ≡ None → Follows Old (Cut vc) (Refused NoConnection) Old
  cut-missing vc none = follows Old Old (Cut vc) (Refused NoConnection) (λ before sound agrees.
      let fault = missing-is before vc None (missing before agrees vc none) in
      (before, step-refused before (Cut vc) (Refused NoConnection) (ap (option_map Refused) fault), agrees))

  -- The line of a connection serves it.
  line-serves : (before : World) → CoreAgrees Old before → (vc : Vc) (seating : Seating) (connection : Connection) (line : LineView)
      → connection_in before.connections vc ≡ Some connection → seating_of connection ≡ seating → slice_get lines seating.line ≡ Some line
      → Serves line vc connection (before.verdicts connection.line)
  line-serves before agrees vc seating connection line known seatings there =
      let serving = agrees.lines.serving vc connection known in
      let at : slice_get lines seating.line ≡ Some serving.0 =
      subst (λ (s : Seating). slice_get lines s.line ≡ Some serving.0) seatings serving.1 in
      subst (λ (l : LineView). Serves l vc connection (before.verdicts connection.line))
      (same_some serving.0 line (sym at ∙ there)) serving.2

  holds : (before : World) (vc : Vc) (seating : Seating) (connection : Connection) (line : LineView)
      → seating_of connection ≡ seating → Serves line vc connection (before.verdicts connection.line) → line.owner ≡ Some (holder vc seating)
  holds before vc seating connection line seatings serves =
      serves.owner ∙ ap (λ (s : Seating). Some (holder vc s)) seatings

  pub release-goes : (vc : Vc) (seating : Seating) (new : DirectoryView) (result : Result PieceView DeskFault) (after : List LineView)
      → seating_at directory vc ≡ Some seating
      → ChangesLine lines seating.line (ReleasesOrRefuses directory new vc seating result) after
      → (piece : PieceView) → result ≡ Ok piece → Follows Old (Release vc) (Released piece) (core_of shape store new after ports)
  release-goes vc seating new result after sits change piece is = follows Old _ (Release vc) (Released piece) (λ before sound agrees.
      let known = seated before agrees vc seating sits in
      let connection : Connection = known.0 in
      let number = connection.line in
      let on : number ≡ seating.line = ap (λ (s : Seating). s.line) known.2 in
      let line = change.line in
      let next = change.next in
      let there : slice_get lines number ≡ Some line = subst (λ (n : ℕ). slice_get lines n ≡ Some line) (sym on) change.there in
      let serves = line-serves before agrees vc seating connection line known.1 known.2 change.there in
      let counts = agrees.lines.counts number line there in
      let did : LeavesLine directory new vc piece line next =
      subst (λ (r : Result PieceView DeskFault). ReleasesOrRefuses directory new vc seating r line next) is change.did in
      let changed : Change before.shape lines before.connections before.verdicts agrees.lines number line next before.verdicts = record {
        there = there;
        journal = ap (λ (l : LineView). l.journal) did.freed;
        counts = ap (λ (l : LineView). l.state.counts) did.freed ∙ counts;
        others = λ other apart. refl;
      } in
      let lines_after = lines-without before.shape lines before.connections before.verdicts agrees.lines number line next before.verdicts changed
      vc (ap (λ (l : LineView). l.owner) did.freed)
      (λ other another apart found same. apart (sound.connections.lines_apart other vc another connection found known.1 same))
      (λ old found. ap (λ (c : Connection). c.line) (same_some old connection (sym found ∙ known.1))) in
      let fault = missing-is before vc (Some connection) known.1 in
      let world : World = record before { connections = without_connection before.connections vc } in
      let lines_new : LinesAgree before.shape after (without_connection before.connections vc) before.verdicts =
      subst (λ (list : List LineView). LinesAgree before.shape list (without_connection before.connections vc) before.verdicts)
      (sym (change.after ∙ ap (λ (n : ℕ). set lines n next) (sym on))) lines_after in (
        world,
        step-taken before world (Release vc) (Released piece) (ap (option_map Refused) fault) (record {
          connection = connection;
          found = known.1;
          piece = piece;
          last = piece-is before vc connection line piece serves counts did.journal;
          answer = refl;
          world = refl;
        }),
        record {
          shape = agrees.shape;
          store = agrees.store;
          seatings = seatings-without before.shape directory before.connections before.incarnations agrees.seatings vc new did.gone did.used;
          lines = lines_new;
          ports = agrees.ports;
        },
      ))

  -- In a core the line is always the one of the directory.
  pub release-never : (vc : Vc) (seating : Seating) (new : DirectoryView) (result : Result PieceView DeskFault) (after : List LineView)
      → seating_at directory vc ≡ Some seating
      → ChangesLine lines seating.line (ReleasesOrRefuses directory new vc seating result) after
      → (fault : DeskFault) → result ≡ Err fault → Follows Old (Release vc) (Refused fault) (core_of shape store new after ports)
  release-never vc seating new result after sits change fault is = follows Old _ (Release vc) (Refused fault) (λ before sound agrees.
      let known = seated before agrees vc seating sits in
      let serves = line-serves before agrees vc seating known.0 change.line known.1 known.2 change.there in
      let did = subst (λ (r : Result PieceView DeskFault). ReleasesOrRefuses directory new vc seating r change.line change.next) is change.did in
      absurd (did.1 (holds before vc seating known.0 change.line known.2 serves)))

  pub cut-goes : (vc : Vc) (seating : Seating) (result : Result PieceView DeskFault) (after : List LineView)
      → seating_at directory vc ≡ Some seating → ChangesLine lines seating.line (CutsOrRefuses vc seating result) after
      → (piece : PieceView) → result ≡ Ok piece → Follows Old (Cut vc) (CutOff piece) (core_of shape store directory after ports)
  cut-goes vc seating result after sits change piece is = follows Old _ (Cut vc) (CutOff piece) (λ before sound agrees.
      let known = seated before agrees vc seating sits in
      let connection : Connection = known.0 in
      let number = connection.line in
      let on : number ≡ seating.line = ap (λ (s : Seating). s.line) known.2 in
      let line = change.line in
      let next = change.next in
      let there : slice_get lines number ≡ Some line = subst (λ (n : ℕ). slice_get lines n ≡ Some line) (sym on) change.there in
      let serves = line-serves before agrees vc seating connection line known.1 known.2 change.there in
      let counts = agrees.lines.counts number line there in
      let did = subst (λ (r : Result PieceView DeskFault). CutsOrRefuses vc seating r line next) is change.did in
      let changed : Change before.shape lines before.connections before.verdicts agrees.lines number line next before.verdicts = record {
        there = there;
        journal = ap (λ (l : LineView). l.journal) did.1;
        counts = ap (λ (l : LineView). l.state.counts) did.1 ∙ counts;
        others = λ other apart. refl;
      } in
      let later : Connection = record connection { returned = length connection.history } in
      let served : Serves next vc later (before.verdicts number) =
      subst (λ (l : LineView). Serves l vc later (before.verdicts number)) (sym did.1)
      (cut-serves vc connection line (before.verdicts number) serves counts) in
      let lines_after = lines-with before.shape lines before.connections before.verdicts agrees.lines number line next before.verdicts changed
      vc later refl served
      (λ other another apart found same. apart (sound.connections.lines_apart other vc another connection found known.1 same))
      (λ old found. ap (λ (c : Connection). c.line) (same_some old connection (sym found ∙ known.1))) in
      let fault = missing-is before vc (Some connection) known.1 in
      let world : World = record before { connections = with_connection before.connections vc later } in
      let lines_new : LinesAgree before.shape after (with_connection before.connections vc later) before.verdicts =
      subst (λ (list : List LineView). LinesAgree before.shape list (with_connection before.connections vc later) before.verdicts)
      (sym (change.after ∙ ap (λ (n : ℕ). set lines n next) (sym on))) lines_after in (
        world,
        step-taken before world (Cut vc) (CutOff piece) (ap (option_map Refused) fault) (record {
          connection = connection;
          found = known.1;
          piece = piece;
          next = piece-is before vc connection line piece serves counts did.0;
          answer = refl;
          world = refl;
        }),
        record {
          shape = agrees.shape;
          store = agrees.store;
          seatings = seatings-kept before.shape directory before.connections before.incarnations agrees.seatings vc later
              (agrees.seatings.seatings vc ∙ ap (option_map seating_of) known.1);
          lines = lines_new;
          ports = agrees.ports;
        },
      ))

  -- A cut on its own line fails only if an allocation fails.
  only-memory : (line : LineView) (owner : Owner) (fault : DeskFault) → line.owner ≡ Some owner → IsUncut line owner fault → fault ≡ NoMemory
  only-memory line owner NoProgram own why = absurd why
  only-memory line owner NoConnection own why = absurd why
  only-memory line owner Taken own why = absurd why
  only-memory line owner NoLine own why = absurd why
  only-memory line owner InUse own why = absurd why
  only-memory line owner ProgramsFull own why = absurd why
  only-memory line owner Exhausted own why = absurd why
  only-memory line owner BadContracts own why = absurd why
  only-memory line owner Busy own why = absurd why
  only-memory line owner NoMemory own why = refl
  only-memory line owner Stale own why = absurd (why own)

  pub cut-refused : (vc : Vc) (seating : Seating) (result : Result PieceView DeskFault) (after : List LineView)
      → seating_at directory vc ≡ Some seating → ChangesLine lines seating.line (CutsOrRefuses vc seating result) after
      → (fault : DeskFault) → result ≡ Err fault → Follows Old (Cut vc) (Refused fault) (core_of shape store directory after ports)
  cut-refused vc seating result after sits change fault is = follows Old _ (Cut vc) (Refused fault) (λ before sound agrees.
      let known = seated before agrees vc seating sits in
      let serves = line-serves before agrees vc seating known.0 change.line known.1 known.2 change.there in
      let did = subst (λ (r : Result PieceView DeskFault). CutsOrRefuses vc seating r change.line change.next) is change.did in
      let memory : fault ≡ NoMemory =
      only-memory change.line (holder vc seating) fault (holds before vc seating known.0 change.line known.2 serves) did.0 in
      let free = missing-is before vc (Some known.0) known.1 in
      let same : after ≡ lines =
      change.after ∙ ap (set lines seating.line) did.1 ∙ set-again lines seating.line change.line change.there in (
        before,
        subst (λ (f : DeskFault). WorldStep before (Cut vc) (Refused f) before) (sym memory)
            (step-without_memory before (Cut vc) (Refused NoMemory) (ap (option_map Refused) free) refl),
        subst (λ (list : List LineView). CoreAgrees (core_of shape store directory list ports) before) (sym same) agrees,
      ))

  -- The reason why a Reload is refused.
  reload-is : (before : World) (vc : Vc) (program : Id) (code : Option (List Instr)) (now : Option Connection)
      → code_in before.live program ≡ code → connection_in before.connections vc ≡ now
      → reload_fault before vc program ≡ cond (is_none code) (Some NoProgram) (cond (is_none now) (Some NoConnection) None)
  reload-is before vc program code now codes known =
      ap (λ (p : Option (List Instr)). cond (is_none p) (Some NoProgram) (cond (is_none (connection_in before.connections vc)) (Some NoConnection) None)) codes
      ∙ ap (λ (p : Option Connection). cond (is_none code) (Some NoProgram) (cond (is_none p) (Some NoConnection) (let none : Option DeskFault = None in none))) known

  pub reload-goes : (vc : Vc) (program : Id) (new : DirectoryView) (seating : Seating) (gone : Id) → seating_at directory vc ≡ Some seating
      → IsLive store program → gone ≡ seating.program → Sits directory vc (Some (record seating { program = program })) new → new.used ≡ directory.used
      → Follows Old (Reload vc program) (Reloaded gone) (core_of shape store new lines ports)
  reload-goes vc program new seating gone sits live was moved used = follows Old _ (Reload vc program) (Reloaded gone) (λ before sound agrees.
      let known = seated before agrees vc seating sits in
      let connection : Connection = known.0 in
      let later : Connection = record connection { program = program } in
      let number = connection.line in
      let serving = agrees.lines.serving vc connection known.1 in
      let line = serving.0 in
      let changed : Change before.shape lines before.connections before.verdicts agrees.lines number line line before.verdicts = record {
        there = serving.1;
        journal = refl;
        counts = agrees.lines.counts number line serving.1;
        others = λ other apart. refl;
      } in
      let served : Serves line vc later (before.verdicts number) = record {
        owner = serving.2.owner;
        contracts = serving.2.contracts;
        entries = serving.2.entries;
        start = serving.2.start;
        state = serving.2.state;
        together = serving.2.together;
      } in
      let lines_after = lines-with before.shape lines before.connections before.verdicts agrees.lines number line line before.verdicts changed
      vc later refl served
      (λ other another apart found same. apart (sound.connections.lines_apart other vc another connection found known.1 same))
      (λ old found. ap (λ (c : Connection). c.line) (same_some old connection (sym found ∙ known.1))) in
      let there = some_code (code_in before.live program) (subst (λ (o : Option (List Instr)). IsSome o) (agrees.store.values program) live) in
      let free = reload-is before vc program (Some there.0) (Some connection) there.1 known.1 in
      let world : World = record before { connections = with_connection before.connections vc later } in
      let seatings : Some (record seating { program = program }) ≡ Some (seating_of later) =
      ap (λ (s : Seating). Some (record s { program = program })) (sym known.2) in (
        world,
        step-taken before world (Reload vc program) (Reloaded gone) (ap (option_map Refused) free) (record {
          connection = connection;
          found = known.1;
          answer = ap Reloaded (was ∙ ap (λ (s : Seating). s.program) (sym known.2));
          world = refl;
        }),
        record {
          shape = agrees.shape;
          store = agrees.store;
          seatings = seatings-with before.shape directory before.connections before.incarnations agrees.seatings vc later new before.incarnations
              (subst (λ (s : Option Seating). Sits directory vc s new) seatings moved) (used ∙ agrees.seatings.used_up);
          lines = subst (λ (list : List LineView). LinesAgree before.shape list (with_connection before.connections vc later) before.verdicts)
              (set-again lines number line serving.1) lines_after;
          ports = agrees.ports;
        },
      ))
    where
      some_code : (o : Option (List Instr)) → IsSome o → (code : List Instr) × (o ≡ Some code)
      some_code None has = absurd (cc)
      some_code (Some code) has = (code, refl)

  pub reload-refused : (vc : Vc) (program : Id) (fault : DeskFault)
      → (IsErrOf {T = Id} (Err fault) NoProgram ↔ (live_value store program ≡ None))
      → (IsErrOf {T = Id} (Err fault) NoConnection ↔ (IsLive store program × (seating_at directory vc ≡ None)))
      → ((IsLive store program × IsSome (seating_at directory vc)) → ⊥)
      → Follows Old (Reload vc program) (Refused fault) Old
  reload-refused vc program fault gone away none = follows Old Old (Reload vc program) (Refused fault) (λ before sound agrees.
      let Why : Type 0 = reload_fault before vc program ≡ Some fault in
      let choice : (code : Option (List Instr)) → code_in before.live program ≡ code
      → (now : Option Connection) → connection_in before.connections vc ≡ now → Why = elim [
        | None ↦ λ codes now known.
            let dead : live_value store program ≡ None = agrees.store.values program ∙ codes in
            let is : Err fault ≡ Err NoProgram = gone.1 dead in
            let same : fault ≡ NoProgram = cc in
            reload-is before vc program None now codes known ∙ ap Some (sym same)
        | Some code ↦ λ codes. elim [
          | None ↦ λ known.
              let live : IsLive store program = subst (λ (o : Option (List Instr)). IsSome o) (sym (agrees.store.values program ∙ codes)) refl in
              let missed : seating_at directory vc ≡ None = agrees.seatings.seatings vc ∙ ap (option_map seating_of) known in
              let is : Err fault ≡ Err NoConnection = away.1 (live, missed) in
              let same : fault ≡ NoConnection = cc in
              reload-is before vc program (Some code) None codes known ∙ ap Some (sym same)
          | Some connection ↦ λ known.
              let live : IsLive store program = subst (λ (o : Option (List Instr)). IsSome o) (sym (agrees.store.values program ∙ codes)) refl in
              let there : seating_at directory vc ≡ Some (seating_of connection) = agrees.seatings.seatings vc ∙ ap (option_map seating_of) known in
              absurd (none (live, subst (λ (o : Option Seating). IsSome o) (sym there) refl))
        ]
      ] in
      let why : Why = choice (code_in before.live program) refl (connection_in before.connections vc) refl in
      (before, step-refused before (Reload vc program) (Refused fault) (ap (option_map Refused) why), agrees))
