-- Records that are read ahead: each frame keeps what the reading so far has.
use Rattle.std.proofs.Common.{◌≡◌, ◌⊎◌, inl, inr, ◌+◌, ◌^◌, ◌<◌, ◌≤◌, ℕ, List, [], ◌∷◌, ◌++◌, length, take, drop, Option, Some, None, Ok, Err, refl, ap, sym, ◌∙◌, subst, arith, append_assoc, append-nil}
use Rattle.std.proofs.lemmas.List.{drop-drop, length-append, length-drop, take-append-drop}
use Rattle.captures.specs.Frames.{first_frame}
use Rattle.captures.specs.Reading.{ComesNext, TakesFrame}
use Rattle.captures.specs.declared.clock.Clock.{Clock}
use Rattle.captures.specs.declared.fault.Fault.{Fault}
use Rattle.captures.specs.declared.format.Format.{Format}
use Rattle.captures.specs.declared.link.Link.{Link}
use Rattle.captures.specs.declared.reader.Next.TheVariants.{Broken as BrokenNext, Unfinished}
use Rattle.captures.specs.declared.reader.SkippedBlock.{SkippedBlock}
use Rattle.captures.specs.declared.reader.Reader.{Reader}
use Rattle.captures.specs.declared.reader.Record.{Record}
use Rattle.captures_text.specs.CellFilter.{CellsEnd, Closes, Crosses, FilterState, HasCells, filter_block, filter_record, filter_state}
use Rattle.captures_text.specs.declared.captured_cell.CapturedCell.{CapturedCell}
use Rattle.captures_text.specs.declared.filter.CellFilter.{CellFilter}
use Rattle.captures_text.specs.declared.filter.Filtered.TheVariants.{Counts, Skipped, SecondLink}
use Rattle.captures_text.specs.declared.reading_ahead.StopReason.{StopReason}
use Rattle.captures_text.specs.declared.reading_ahead.StopReason.TheVariants as stop
use Rattle.captures_text.specs.declared.reading_ahead.ReadingAhead.{ReadingAhead}
use Rattle.captures_text.specs.declared.filter.LinkClock.{LinkClock}
use Rattle.captures_text.specs.declared.reading_ahead.Farther.{Farther}
use Rattle.captures_text.specs.inner.Ahead.{ComesAfter, HasCellsFrom, ReadsCells, ReadsSoFar, ReadsUsual, reading_at, reading_farther}
use Rattle.captures_text.specs.inner.LinkClocks.{CountsAt, IsLinkClock, with_clock}
use Rattle.captures_text.proofs.CellsOfOctets.{broken_cells, skipped_cells, some_cells, taken_cells}

-- From where a reading is, octets have some cells.
pub some_from : (reading : ReadingAhead) (octets : List ℕ) → (cells : List CapturedCell) × (end : CellsEnd) × HasCellsFrom reading octets cells end
some_from reading octets = some_cells (filter_state reading.filter) reading.reader.format reading.reader.count reading.reader.at octets

-- So does whatever comes after what was read.
pub some_after : (after : ReadingAhead) (how : StopReason) (more : List ℕ) → (later : List CapturedCell) × (end : CellsEnd) × ComesAfter after how more later end
some_after after stop.NeedsOctets more = some_from after (after.window ++ more)
some_after after stop.Enough more = some_from after (after.window ++ more)
some_after after (stop.SecondLink one other) more = ([], Crosses one other, (refl, refl))
some_after after (stop.Broken fault) more = ([], Closes after.filter.summary (Some fault), (refl, refl))

-- The state of the reading after a frame.
abbrev after_frame : ReadingAhead → Reader → CellFilter → ℕ → ReadingAhead
after_frame reading reader filter own = record { window = drop own reading.window; reader = reader; filter = filter }

-- Nothing was read.
pub reads_nothing : (reading : ReadingAhead) (old : List CapturedCell) → ReadsSoFar reading reading old old
reads_nothing reading old = record {
  went = record { own = []; cut = refl; place = refl; near = λ near. near };
  moved = inl refl;
  fresh = [];
  grew = sym (append-nil old);
  leads = λ more later end has. has;
}

-- One frame more, with these cells.
reads_more : (before between : ReadingAhead) (reader : Reader) (filter : CellFilter) (own : ℕ) (last old new newer : List CapturedCell)
    → ReadsSoFar before between old new → newer ≡ new ++ last
    → 0 < own → own ≤ length between.window → reader.at ≡ between.reader.at + own → between.reader.at + own < 2 ^ 64
    → ((more : List ℕ) (later : List CapturedCell) (end : CellsEnd) → HasCellsFrom (after_frame between reader filter own) (drop own between.window ++ more) later end
    → HasCellsFrom between (between.window ++ more) (last ++ later) end)
    → ReadsSoFar before (after_frame between reader filter own) old newer
reads_more before between reader filter own last old new newer reads grew some within at near on =
    let came = ap (λ (xs : List ℕ). length xs) reads.went.cut in
    let later = drop own between.window in
    record {
      went = record {
        own = reads.went.own ++ take own between.window;
        cut = reads.went.cut ∙ ap (λ xs. reads.went.own ++ xs) (sym (take-append-drop own between.window))
            ∙ sym (append_assoc reads.went.own (take own between.window) later);
        place = omega (arith, reads.went.place, at, within, length-drop own between.window);
        near = λ before. omega (arith, at, near);
      };
      moved = inr (omega (arith, reads.went.place, some, at, came, length-append reads.went.own between.window));
      fresh = reads.fresh ++ last;
      grew = grew ∙ ap (λ (cells : List CapturedCell). cells ++ last) reads.grew ∙ append_assoc old reads.fresh last;
      leads = λ more later end has.
          subst (λ (cells : List CapturedCell). HasCellsFrom before (before.window ++ more) cells end) (sym (append_assoc reads.fresh last later))
          (reads.leads more (last ++ later) end (on more later end has));
    }

-- A frame without a record.
pub reads_skipped : (before between after : ReadingAhead) (block : SkippedBlock) (own : ℕ) (old new : List CapturedCell)
    → ReadsSoFar before between old new → TakesFrame between.reader between.window (Err block) own after.reader
    → filter_state after.filter ≡ filter_block (filter_state between.filter) block
    → after ≡ after_frame between after.reader after.filter own → ReadsSoFar before after old new
reads_skipped before between after block own old new reads takes passes is =
    subst (λ (reading : ReadingAhead). ReadsSoFar before reading old new) (sym is)
    (reads_more before between after.reader after.filter own [] old new new reads (sym (append-nil new)) takes.some takes.within takes.at takes.near
    (λ more later end has. skipped_cells (filter_state between.filter) between.reader after.reader block between.window more own later end takes
    (subst (λ (state : FilterState). HasCells state after.reader.format after.reader.count after.reader.at (drop own between.window ++ more) later end) passes has)))

-- A record that is passed over.
pub reads_uncounted : (before between after : ReadingAhead) (record_read : Record) (own : ℕ) (old new : List CapturedCell)
    → ReadsSoFar before between old new → TakesFrame between.reader between.window (Ok record_read) own after.reader
    → filter_record (filter_state between.filter) record_read ≡ (Skipped, filter_state after.filter)
    → after ≡ after_frame between after.reader after.filter own → ReadsSoFar before after old new
reads_uncounted before between after record_read own old new reads takes read is =
    subst (λ (reading : ReadingAhead). ReadsSoFar before reading old new) (sym is)
    (reads_more before between after.reader after.filter own [] old new new reads (sym (append-nil new)) takes.some takes.within takes.at takes.near
    (λ more later end has.
    taken_cells (filter_state between.filter) (filter_state after.filter) between.reader after.reader record_read Skipped between.window more own later end takes read has))

-- A record with a cell that counts.
pub reads_captured : (before between after : ReadingAhead) (record_read : Record) (moment : ℕ) (cell : List ℕ) (own : ℕ)
    (old new newer : List CapturedCell) (captured : CapturedCell)
    → ReadsSoFar before between old new → TakesFrame between.reader between.window (Ok record_read) own after.reader
    → filter_record (filter_state between.filter) record_read ≡ (Counts moment cell, filter_state after.filter)
    → captured ≡ record { number = record_read.number; moment = moment; cell = cell } → newer ≡ new ++ captured ∷ []
    → after ≡ after_frame between after.reader after.filter own → ReadsSoFar before after old newer
reads_captured before between after record_read moment cell own old new newer captured reads takes read made grew is =
    let one : CapturedCell = record { number = record_read.number; moment = moment; cell = cell } in
    subst (λ (reading : ReadingAhead). ReadsSoFar before reading old newer) (sym is)
    (reads_more before between after.reader after.filter own (one ∷ []) old new newer reads
    (grew ∙ ap (λ (c : CapturedCell). new ++ c ∷ []) made) takes.some takes.within takes.at takes.near
    (λ more later end has.
    taken_cells (filter_state between.filter) (filter_state after.filter) between.reader after.reader record_read (Counts moment cell) between.window more own later end
    takes read has))

-- No usual record.
pub reads_no_usual : (link_clock : LinkClock) (reader : Reader) (octets : List ℕ) (cells : List CapturedCell)
    → ReadsUsual link_clock reader octets cells (record { reader = reader; clock = link_clock.clock; place = 0 }) cells
reads_no_usual link_clock reader octets cells first filter old follows reads =
    subst (λ (clock : Option Clock). ReadsSoFar first (reading_at (record filter { clock = clock }) reader octets) old cells) follows.clock_is reads

-- One usual record more.
pub reads_usual : (link_clock : LinkClock) (reader next : Reader) (octets : List ℕ) (cells new newer : List CapturedCell) (so_far : Farther)
    (record_read : Record) (moment : ℕ) (cell : List ℕ) (own : ℕ) (clock : Clock) (captured : CapturedCell)
    → ReadsUsual link_clock reader octets cells so_far new
    → TakesFrame so_far.reader (drop so_far.place octets) (Ok record_read) own next
    → ((filter : CellFilter) → IsLinkClock filter link_clock so_far.clock → CountsAt filter record_read moment cell clock)
    → captured ≡ record { number = record_read.number; moment = moment; cell = cell } → newer ≡ new ++ captured ∷ []
    → ReadsUsual link_clock reader octets cells (record { reader = next; clock = clock; place = so_far.place + own }) newer
reads_usual link_clock reader next octets cells new newer so_far record_read moment cell own clock captured usual takes counts made grew first filter old follows reads =
    let between = reading_farther filter octets so_far in
    let after = reading_farther filter octets (record { reader = next; clock = clock; place = so_far.place + own }) in
    let in_time = with_clock filter so_far.clock in
    reads_captured first between after record_read moment cell own old new newer captured
    (usual first filter old follows reads) takes
    (counts in_time (record { ticks = follows.ticks; link = follows.link; clock_is = refl })) made grew
    (ap (λ (window : List ℕ). record after { window = window }) (sym (drop-drop own so_far.place octets)))

-- After a record the reading is farther than at first.
pub reads_moved : (before between : ReadingAhead) (reader : Reader) (record_read : Record) (own : ℕ) (old new : List CapturedCell)
    → ReadsSoFar before between old new → TakesFrame between.reader between.window (Ok record_read) own reader → before.reader.at < reader.at
reads_moved before between reader record_read own old new reads takes =
    let cut = ap (λ (xs : List ℕ). length xs) reads.went.cut in
    omega (arith, reads.went.place, takes.some, takes.at, cut, length-append reads.went.own between.window)

-- More octets are wanted, and the reader stays where it is.
pub reads_unfinished : (before between : ReadingAhead) (reader : Reader) (old new : List CapturedCell)
    → ReadsSoFar before between old new → ComesNext between.reader between.window Unfinished reader
    → ReadsCells before stop.NeedsOctets (record between { reader = reader }) old new
reads_unfinished before between reader old new reads next =
    let at = next.2.at in
    record {
      came = (
        record {
          own = reads.went.own;
          cut = reads.went.cut;
          place = ap (λ n. n + length between.window) at ∙ reads.went.place;
          near = λ near. subst (λ n. n < 2 ^ 64) (sym at) (reads.went.near near);
        },
        subst (λ n. first_frame reader.format n between.window ≡ None) (sym at)
            (subst (λ (f : Format). first_frame f between.reader.at between.window ≡ None) (sym next.2.format) next.0),
        next.1,
        subst (λ n. (new ≡ old) ⊎ (before.reader.at < n)) (sym at) reads.moved,
      );
      fresh = reads.fresh;
      grew = reads.grew;
      leads = λ more later end has. reads.leads more later end
          (subst (λ n. HasCells (filter_state between.filter) between.reader.format between.reader.count n (between.window ++ more) later end) at
          (subst (λ n. HasCells (filter_state between.filter) between.reader.format n reader.at (between.window ++ more) later end) next.2.count
          (subst (λ (f : Format). HasCells (filter_state between.filter) f reader.count reader.at (between.window ++ more) later end) next.2.format has)));
    }

-- Enough cells were read.
pub reads_enough : (before after : ReadingAhead) (old new : List CapturedCell) → ReadsSoFar before after old new → before.reader.at < after.reader.at
    → ReadsCells before stop.Enough after old new
reads_enough before after old new reads moved = record { came = (reads.went, moved); fresh = reads.fresh; grew = reads.grew; leads = reads.leads }

-- The cells end here.
ends_here : (before between : ReadingAhead) (old new : List CapturedCell) (end0 : CellsEnd) (more : List ℕ) (later : List CapturedCell) (end : CellsEnd)
    → (reads : ReadsSoFar before between old new) → HasCellsFrom between (between.window ++ more) [] end0 → (later ≡ []) × (end ≡ end0)
    → HasCellsFrom before (before.window ++ more) (reads.fresh ++ later) end
ends_here before between old new end0 more later end reads has none =
    subst (λ (e : CellsEnd). HasCellsFrom before (before.window ++ more) (reads.fresh ++ later) e) (sym none.1)
    (subst (λ (cells : List CapturedCell). HasCellsFrom before (before.window ++ more) (reads.fresh ++ cells) end0) (sym none.0) (reads.leads more [] end0 has))

-- At a cell of a second link.
pub reads_several : (before between after : ReadingAhead) (record_read : Record) (one other : Link) (own : ℕ) (old new : List CapturedCell)
    → ReadsSoFar before between old new → TakesFrame between.reader between.window (Ok record_read) own after.reader
    → filter_record (filter_state between.filter) record_read ≡ (SecondLink one other, filter_state after.filter)
    → ReadsCells before (stop.SecondLink one other) after old new
reads_several before between after record_read one other own old new reads takes read = record {
  came = tt;
  fresh = reads.fresh;
  grew = reads.grew;
  leads = λ more later end none.
      let some = some_from after (drop own between.window ++ more) in
      ends_here before between old new (Crosses one other) more later end reads
      (taken_cells (filter_state between.filter) (filter_state after.filter) between.reader after.reader record_read (SecondLink one other) between.window more own
      some.0 some.1 takes read some.2) none;
}

-- At a fault.
pub reads_broken : (before between after : ReadingAhead) (fault : Fault) (old new : List CapturedCell)
    → ReadsSoFar before between old new → ComesNext between.reader between.window (BrokenNext fault) after.reader
    → filter_state after.filter ≡ filter_state between.filter → ReadsCells before (stop.Broken fault) after old new
reads_broken before between after fault old new reads next same = record {
  came = tt;
  fresh = reads.fresh;
  grew = reads.grew;
  leads = λ more later end none.
      ends_here before between old new (Closes after.filter.summary (Some fault)) more later end reads
      (subst (λ (state : FilterState). HasCellsFrom between (between.window ++ more) [] (Closes state.summary (Some fault))) (sym same)
      (broken_cells (filter_state between.filter) between.reader after.reader fault between.window more next)) none;
}
