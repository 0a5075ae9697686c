-- The space that a step reserves on lines.
use Rattle.std.proofs.Common.{◌≡◌, ℕ, true, false, Option, Some, None, List, Result, Ok, Err, refl, sym, ap, ◌∙◌}
use Rattle.std.specs.Prelude.{slice_get, slice_set, MatchOption}
use Rattle.line_record.specs.declared.directory.Seating.{Seating}
use Rattle.line_record.specs.declared.owner.Owner.{Owner}
use Rattle.line_record.specs.Directory.{DirectoryView}
use Rattle.line_record.specs.Line.{LineView}
use Rattle.line_record.specs.Piece.{PieceView}
use Rattle.upc_cell.specs.declared.vc.Vc.{Vc}
use Rattle.card_core.specs.declared.answer.Answer.{Answer}
use Rattle.card_core.specs.declared.ask.Ask.{Ask}
use Rattle.card_core.specs.declared.fault.DeskFault.{DeskFault}
use Rattle.card_core.specs.declared.fault.DeskFault.TheVariants.{NoProgram, NoConnection, Taken, NoLine, InUse, ProgramsFull, Exhausted, BadContracts, Busy, NoMemory, Stale}
use Rattle.card_core.specs.declared.port.Found.{Found}
use Rattle.card_core.specs.declared.reply.Reply.{Reply}
use Rattle.card_core.specs.declared.reply.Reply.TheVariants.{NotNow, Entered, Picked, Answered, Loaded, NotLoaded, Retired, SetUp, NotSetUp, Reloaded, Released, Cut as CutOff, Refused}
use Rattle.card_core.specs.Agreement.{CoreView}
use Rattle.card_core.specs.Kept.{ReservesNothing, SetupReserves, StepReserves}
use Rattle.card_core.specs.Sections.{judging_refusal, JudgesAt, IsUnready}
use Rattle.card_core.specs.inner.Parts.{ChangesLine, JudgesOrRefuses, SetsUpOrRefuses, ReleasesOrRefuses, CutsOrRefuses}
use Rattle.gen_arena.proofs.Public.{slice_get-set_other}
use Rattle.card_core.proofs.LineLemmas.{get-set_same}
use Rattle.card_core.proofs.LookUps.{same_some}

-- No line changed.
pub lines-kept : (old new : CoreView) → new.lines ≡ old.lines → ReservesNothing old new
lines-kept old new same = record {
  number = 0;
  others = λ other apart. ap (λ (lines : List LineView). slice_get lines other) same;
  ready = λ line next was now is.
      let is_line : next ≡ line = same_some next line (sym now ∙ ap (λ (lines : List LineView). slice_get lines 0) same ∙ was) in
      sym (ap (λ (l : LineView). l.ready) is_line) ∙ is;
}

-- One line changed, and it isn't ready unless it was.
pub line-changed : (old new : CoreView) (number : ℕ) (line next : LineView) → slice_get old.lines number ≡ Some line
    → new.lines ≡ slice_set old.lines number next → (next.ready ≡ true → line.ready ≡ true) → ReservesNothing old new
line-changed old new number line next there after ready = record {
  number = number;
  others = λ other apart. ap (λ (lines : List LineView). slice_get lines other) after ∙ slice_get-set_other old.lines number other next apart;
  ready = λ before now was is set.
      let is_line : line ≡ before = same_some line before (sym there ∙ was) in
      let is_next : next ≡ now =
      same_some next now (sym (get-set_same old.lines number next line there)
      ∙ ap (λ (lines : List LineView). slice_get lines number) (sym after) ∙ is) in
      sym (ap (λ (l : LineView). l.ready) is_line) ∙ ready (ap (λ (l : LineView). l.ready) is_next ∙ set);
}

-- A setup, and a step, that reserves nothing.
pub setup-reserves : (fault : DeskFault) (old new : CoreView) → ReservesNothing old new → SetupReserves fault old new
setup-reserves NoProgram old new none = none
setup-reserves NoConnection old new none = none
setup-reserves Taken old new none = none
setup-reserves NoLine old new none = none
setup-reserves InUse old new none = none
setup-reserves ProgramsFull old new none = none
setup-reserves Exhausted old new none = none
setup-reserves BadContracts old new none = none
setup-reserves Busy old new none = none
setup-reserves NoMemory old new none = tt
setup-reserves Stale old new none = none

pub step-reserves : (reply : Reply) (old new : CoreView) → ReservesNothing old new → StepReserves reply old new
step-reserves NotNow old new none = none
step-reserves Entered old new none = none
step-reserves Picked old new none = none
step-reserves (Answered answer) old new none = none
step-reserves (Loaded id) old new none = none
step-reserves (NotLoaded fault program) old new none = none
step-reserves (Retired program) old new none = none
step-reserves (SetUp owner) old new none = none
step-reserves (NotSetUp fault ask) old new none = setup-reserves fault old new none
step-reserves (Reloaded id) old new none = none
step-reserves (Released piece) old new none = none
step-reserves (CutOff piece) old new none = none
step-reserves (Refused fault) old new none = none

-- A step that keeps the lines.
pub keeping-reserves : (reply : Reply) (old new : CoreView) → new.lines ≡ old.lines → StepReserves reply old new
keeping-reserves reply old new same = step-reserves reply old new (lines-kept old new same)

-- A picked cell is judged, or its line is unchanged.
judge-ready_by : (refusal : Option Answer) (line next : LineView) (found : Found) (answer : Answer)
    → MatchOption refusal (JudgesAt line found.seating found.named found.moment answer next) (λ refused. (answer ≡ refused) × (next ≡ line))
    → next.ready ≡ true → line.ready ≡ true
judge-ready_by None line next found answer judges is = sym (ap (λ (l : LineView). l.ready) judges.gains.after) ∙ is
judge-ready_by (Some refused) line next found answer did is = sym (ap (λ (l : LineView). l.ready) did.1) ∙ is

pub judge-ready : (line next : LineView) (found : Found) (answer : Answer) → JudgesOrRefuses found answer line next → next.ready ≡ true → line.ready ≡ true
judge-ready line next found answer did is = judge-ready_by (judging_refusal line found.vc found.seating found.moment) line next found answer did is

pub judge-reserves : (old new : CoreView) (found : Found) (answer : Answer)
    → ChangesLine old.lines found.seating.line (JudgesOrRefuses found answer) new.lines → ReservesNothing old new
judge-reserves old new found answer change =
    line-changed old new found.seating.line change.line change.next change.there change.after
    (judge-ready_by (judging_refusal change.line found.vc found.seating found.moment) change.line change.next found answer change.did)

-- The line that is set up isn't ready; it has its space now.
pub setup_line-reserves : (old new : CoreView) (directory after : DirectoryView) (number : ℕ) (ask : Ask) (owner : Owner)
    → ChangesLine old.lines number (SetsUpOrRefuses directory after number ask (Ok owner)) new.lines → ReservesNothing old new
setup_line-reserves old new directory after number ask owner change =
    line-changed old new number change.line change.next change.there change.after
    (λ is. let no : true ≡ false = sym is ∙ change.did.opened.ready in absurd (cc))

setup-refused_by : (fault : DeskFault) (old new : CoreView) (number : ℕ) (line next : LineView) → slice_get old.lines number ≡ Some line
    → IsUnready line fault → (fault ≡ Stale → next ≡ line) → new.lines ≡ slice_set old.lines number next → SetupReserves fault old new
setup-refused_by NoMemory old new number line next there why stale after = tt
setup-refused_by Stale old new number line next there why stale after =
    line-changed old new number line next there after (λ is. sym (ap (λ (l : LineView). l.ready) (stale refl)) ∙ is)
setup-refused_by NoProgram old new number line next there why stale after = absurd why
setup-refused_by NoConnection old new number line next there why stale after = absurd why
setup-refused_by Taken old new number line next there why stale after = absurd why
setup-refused_by NoLine old new number line next there why stale after = absurd why
setup-refused_by InUse old new number line next there why stale after = absurd why
setup-refused_by ProgramsFull old new number line next there why stale after = absurd why
setup-refused_by Exhausted old new number line next there why stale after = absurd why
setup-refused_by BadContracts old new number line next there why stale after = absurd why
setup-refused_by Busy old new number line next there why stale after = absurd why

pub setup_refused-reserves : (old new : CoreView) (directory after : DirectoryView) (number : ℕ) (ask returned : Ask) (fault : DeskFault)
    → ChangesLine old.lines number (SetsUpOrRefuses directory after number ask (Err (fault, returned))) new.lines → SetupReserves fault old new
setup_refused-reserves old new directory after number ask returned fault change =
    setup-refused_by fault old new number change.line change.next change.there change.did.0 change.did.3 change.after

-- The line that is released isn't ready.
release-ready_by : (result : Result PieceView DeskFault) (old new : DirectoryView) (vc : Vc) (seating : Seating) (line next : LineView)
    → ReleasesOrRefuses old new vc seating result line next → next.ready ≡ true → line.ready ≡ true
release-ready_by (Ok piece) old new vc seating line next did is =
    let no : true ≡ false = sym is ∙ ap (λ (l : LineView). l.ready) did.freed in absurd (cc)
release-ready_by (Err fault) old new vc seating line next did is = sym (ap (λ (l : LineView). l.ready) did.3) ∙ is

pub release_line-reserves : (old new : CoreView) (directory after : DirectoryView) (vc : Vc) (seating : Seating) (result : Result PieceView DeskFault)
    → ChangesLine old.lines seating.line (ReleasesOrRefuses directory after vc seating result) new.lines → ReservesNothing old new
release_line-reserves old new directory after vc seating result change =
    line-changed old new seating.line change.line change.next change.there change.after
    (release-ready_by result directory after vc seating change.line change.next change.did)

-- The line that is cut is as ready as before.
cut-ready_by : (result : Result PieceView DeskFault) (vc : Vc) (seating : Seating) (line next : LineView)
    → CutsOrRefuses vc seating result line next → next.ready ≡ true → line.ready ≡ true
cut-ready_by (Ok piece) vc seating line next did is = sym (ap (λ (l : LineView). l.ready) did.1) ∙ is
cut-ready_by (Err fault) vc seating line next did is = sym (ap (λ (l : LineView). l.ready) did.1) ∙ is

pub cut_line-reserves : (old new : CoreView) (vc : Vc) (seating : Seating) (result : Result PieceView DeskFault)
    → ChangesLine old.lines seating.line (CutsOrRefuses vc seating result) new.lines → ReservesNothing old new
cut_line-reserves old new vc seating result change =
    line-changed old new seating.line change.line change.next change.there change.after
    (cut-ready_by result vc seating change.line change.next change.did)
