-- The core after a refusal, for each step.
use Rattle.std.proofs.Common.{◌≡◌, ℕ, Option, Some, None, List, length-set, refl, sym, ap, subst, ◌∙◌, inl}
use Rattle.std.specs.Prelude.{slice_get, slice_set, MatchOption, Result, Err}
use Rattle.upc_cell.specs.declared.vc.Vc.{Vc}
use Rattle.bpf_code.specs.declared.instr.Instr.{Instr}
use Rattle.gen_arena.specs.Slot.{Slot}
use Rattle.line_record.specs.declared.directory.Seating.{Seating}
use Rattle.line_record.specs.declared.owner.Owner.{Owner}
use Rattle.line_record.specs.Directory.{DirectoryView}
use Rattle.line_record.specs.Line.{LineView}
use Rattle.line_record.specs.Piece.{PieceView}
use Rattle.card_core.specs.declared.ask.Ask.{Ask}
use Rattle.card_core.specs.declared.shape.Shape.{Shape}
use Rattle.card_core.specs.declared.port.Port.{Port}
use Rattle.card_core.specs.declared.port.Port.TheVariants.{Outside}
use Rattle.card_core.specs.World.{PortState}
use Rattle.card_core.specs.inner.Ports.{states_of}
use Rattle.card_core.proofs.PortLemmas.{core_of, moved}
use Rattle.card_core.specs.declared.answer.Answer.{Answer}
use Rattle.card_core.specs.declared.answer.Answer.TheVariants.{Judged, NoConnection, Released, Stale as StaleAnswer, MomentBack, MomentTooLate, JournalFull, NoMemory as NoMemoryAnswer}
use Rattle.card_core.specs.declared.fault.DeskFault.{DeskFault}
use Rattle.card_core.specs.declared.fault.DeskFault.TheVariants.{NoProgram, NoConnection as NoConnectionFault, Taken, NoLine, InUse, ProgramsFull, Exhausted, BadContracts, Busy, NoMemory, Stale}
use Rattle.card_core.specs.declared.port.Found.{Found}
use Rattle.card_core.specs.Agreement.{CoreView}
use Rattle.card_core.specs.Kept.{with_outside, KeepsButRoom, AnswerKeeps, SetupKeeps}
use Rattle.card_core.specs.Sections.{judging_refusal, JudgesAt, IsUnready, MayBecomeReady}
use Rattle.card_core.specs.inner.Parts.{ChangesLine, JudgesOrRefuses, SetsUpOrRefuses, ReleasesOrRefuses, CutsOrRefuses}
use Rattle.gen_arena.proofs.Public.{slice_get-set_other}
use Rattle.card_core.proofs.LineLemmas.{set-again, get-set_same}
use Rattle.card_core.proofs.LookUps.{same_some}

-- After an answer to a cell that isn't judged, only the port changed.
pub answer-keeps : (answer : Answer) (port : ℕ) (old new : CoreView) → new ≡ with_outside old port → AnswerKeeps answer port old new
answer-keeps (Judged line number moment value program verdict cell) port old new same = tt
answer-keeps NoConnection port old new same = same
answer-keeps Released port old new same = same
answer-keeps StaleAnswer port old new same = same
answer-keeps (MomentBack last) port old new same = same
answer-keeps MomentTooLate port old new same = same
answer-keeps JournalFull port old new same = same
answer-keeps NoMemoryAnswer port old new same = same

-- If the line that is passed is unchanged, so are the lines.
pub again : (lines : List LineView) (number : ℕ) (line next : LineView) → slice_get lines number ≡ Some line → next ≡ line
    → slice_set lines number next ≡ lines
again lines number line next there same =
    ap (slice_set lines number) same ∙ set-again lines number line there

-- A picked cell is judged, or its line is unchanged.
judge-keeps_by : (refusal : Option Answer) (line next : LineView) (found : Found) (answer : Answer) (port : ℕ) (old new : CoreView)
    → MatchOption refusal (JudgesAt line found.seating found.named found.moment answer next) (λ refused. (answer ≡ refused) × (next ≡ line))
    → (next ≡ line → new ≡ with_outside old port) → AnswerKeeps answer port old new
judge-keeps_by None line next found answer port old new judges same =
    subst (λ (a : Answer). AnswerKeeps a port old new) (sym judges.answered) tt
judge-keeps_by (Some refused) line next found answer port old new did same =
    answer-keeps answer port old new (same did.1)

pub judge-keeps : (lines after : List LineView) (found : Found) (answer : Answer) (port : ℕ) (old new : CoreView)
    → ChangesLine lines found.seating.line (JudgesOrRefuses found answer) after
    → (after ≡ lines → new ≡ with_outside old port) → AnswerKeeps answer port old new
judge-keeps lines after found answer port old new change same =
    judge-keeps_by (judging_refusal change.line found.vc found.seating found.moment) change.line change.next found answer port old new change.did
    (λ next. same (change.after ∙ again lines found.seating.line change.line change.next change.there next))

-- A refused setup may leave the core unchanged.
pub setup-same : (fault : DeskFault) (old new : CoreView) → new ≡ old → SetupKeeps fault old new
setup-same NoProgram old new same = same
setup-same NoConnectionFault old new same = same
setup-same Taken old new same = same
setup-same NoLine old new same = same
setup-same InUse old new same = same
setup-same ProgramsFull old new same = same
setup-same Exhausted old new same = same
setup-same BadContracts old new same = same
setup-same Busy old new same = same
setup-same Stale old new same = same
setup-same NoMemory old new same =
    subst (λ (core : CoreView). KeepsButRoom old core) (sym same) (record {
      rest = refl;
      sized = refl;
      number = 0;
      others = λ other apart. refl;
      room = λ line next there now. inl (same_some next line (sym now ∙ there));
    })

-- One line may have become ready.
pub room-alone : (old new : CoreView) (number : ℕ) (line next : LineView)
    → slice_get old.lines number ≡ Some line → MayBecomeReady line next → new ≡ record old { lines = slice_set old.lines number next }
    → KeepsButRoom old new
room-alone old new number line next there ready same =
    subst (λ (core : CoreView). KeepsButRoom old core) (sym same) (record {
      rest = refl;
      sized = length-set old.lines number next;
      number = number;
      others = λ other apart. slice_get-set_other old.lines number other next apart;
      room = λ before after was now.
          let is_line : line ≡ before = same_some line before (sym there ∙ was) in
          let is_next : next ≡ after = same_some next after (sym (get-set_same old.lines number next line there) ∙ now) in
          subst (λ (l : LineView). MayBecomeReady l after) is_line (subst (MayBecomeReady line) is_next ready);
    })

-- A setup that is refused on the line that is passed.
pub setup-keeps : (fault : DeskFault) (old new : CoreView) (number : ℕ) (line next : LineView)
    → slice_get old.lines number ≡ Some line → IsUnready line fault → (fault ≡ Stale → next ≡ line) → MayBecomeReady line next
    → new ≡ record old { lines = slice_set old.lines number next } → SetupKeeps fault old new
setup-keeps NoMemory old new number line next there why stale ready same = room-alone old new number line next there ready same
setup-keeps Stale old new number line next there why stale ready same =
    same ∙ ap (λ (lines : List LineView). record old { lines = lines }) (again old.lines number line next there (stale refl))
setup-keeps NoProgram old new number line next there why stale ready same = absurd why
setup-keeps NoConnectionFault old new number line next there why stale ready same = absurd why
setup-keeps Taken old new number line next there why stale ready same = absurd why
setup-keeps NoLine old new number line next there why stale ready same = absurd why
setup-keeps InUse old new number line next there why stale ready same = absurd why
setup-keeps ProgramsFull old new number line next there why stale ready same = absurd why
setup-keeps Exhausted old new number line next there why stale ready same = absurd why
setup-keeps BadContracts old new number line next there why stale ready same = absurd why
setup-keeps Busy old new number line next there why stale ready same = absurd why

-- For cores with these parts.
module _ (shape : Shape) (store : List (Slot (List Instr))) (directory : DirectoryView) (lines : List LineView) (ports : List Port) where
  abbrev Old : CoreView
  Old = core_of shape store directory lines ports

  -- One port has no cell now.
  pub left-outside : (after : List LineView) (moved_ports : List Port) (port : ℕ) → after ≡ lines → moved_ports ≡ slice_set ports port Outside
      → core_of shape store directory after moved_ports ≡ with_outside Old port
  left-outside after moved_ports port same e =
      ap (λ (list : List LineView). core_of shape store directory list moved_ports) same
      ∙ ap (λ (states : List PortState). record Old { ports = states }) (ap states_of e ∙ moved ports (states_of ports) port Outside refl)

  -- The line that is passed is unchanged, and so is the directory.
  lines-again : (new : DirectoryView) (number : ℕ) (line next : LineView) (after : List LineView) → new ≡ directory
      → slice_get lines number ≡ Some line → next ≡ line → after ≡ slice_set lines number next
      → core_of shape store new after ports ≡ Old
  lines-again new number line next after same there kept is =
      ap (λ (d : DirectoryView). core_of shape store d after ports) same
      ∙ ap (λ (list : List LineView). core_of shape store directory list ports) (is ∙ again lines number line next there kept)

  pub setup_line-keeps : (ask returned : Ask) (number : ℕ) (new : DirectoryView) (result : Result Owner (DeskFault × Ask)) (after : List LineView) (fault : DeskFault)
      → ChangesLine lines number (SetsUpOrRefuses directory new number ask result) after → result ≡ Err (fault, returned)
      → SetupKeeps fault Old (core_of shape store new after ports)
  setup_line-keeps ask returned number new result after fault change is =
      let did = subst (λ (r : Result Owner (DeskFault × Ask)). SetsUpOrRefuses directory new number ask r change.line change.next) is change.did in
      setup-keeps fault Old (core_of shape store new after ports) number change.line change.next change.there did.0 did.3 did.4
      (ap (λ (d : DirectoryView). core_of shape store d after ports) did.2
      ∙ ap (λ (list : List LineView). core_of shape store directory list ports) change.after)

  pub release_line-keeps : (vc : Vc) (seating : Seating) (new : DirectoryView) (result : Result PieceView DeskFault) (after : List LineView) (fault : DeskFault)
      → ChangesLine lines seating.line (ReleasesOrRefuses directory new vc seating result) after → result ≡ Err fault
      → core_of shape store new after ports ≡ Old
  release_line-keeps vc seating new result after fault change is =
      let did = subst (λ (r : Result PieceView DeskFault). ReleasesOrRefuses directory new vc seating r change.line change.next) is change.did in
      lines-again new seating.line change.line change.next after did.2 change.there did.3 change.after

  pub cut_line-keeps : (vc : Vc) (seating : Seating) (result : Result PieceView DeskFault) (after : List LineView) (fault : DeskFault)
      → ChangesLine lines seating.line (CutsOrRefuses vc seating result) after → result ≡ Err fault
      → core_of shape store directory after ports ≡ Old
  cut_line-keeps vc seating result after fault change is =
      let did = subst (λ (r : Result PieceView DeskFault). CutsOrRefuses vc seating r change.line change.next) is change.did in
      lines-again directory seating.line change.line change.next after refl change.there did.1 change.after
