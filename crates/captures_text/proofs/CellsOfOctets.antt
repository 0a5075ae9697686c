-- The cells that count among octets: each frame leads from those of what follows to those of the whole.
use Rattle.std.proofs.Common.{◌≡◌, ℕ, List, [], ◌∷◌, ◌++◌, drop, Option, Some, Result, Ok, Err, refl, ap, sym, ◌∙◌, subst}
use Rattle.captures.proofs.Public.{faults_end, frames_in_order, one_reading, some_reading}
use Rattle.captures.specs.Reading.{ComesNext, EndsReading, TakesFrame}
use Rattle.captures.specs.declared.fault.Fault.{Fault}
use Rattle.captures.specs.declared.format.Format.{Format}
use Rattle.captures.specs.declared.reader.Next.TheVariants.{Broken}
use Rattle.captures.specs.declared.reader.SkippedBlock.{SkippedBlock}
use Rattle.captures.specs.declared.reader.Reader.{Reader}
use Rattle.captures.specs.declared.reader.Record.{Record}
use Rattle.captures_text.specs.CellFilter.{CellsEnd, Closes, FilterState, HasCells, cells_end, captured_cells, captured_then, ends_then, filter_block, filter_record}
use Rattle.captures_text.specs.declared.captured_cell.CapturedCell.{CapturedCell}
use Rattle.captures_text.specs.declared.filter.Filtered.{Filtered}

-- Any octets have some.
pub some_cells : (state : FilterState) (format : Format) (count at : ℕ) (octets : List ℕ)
    → (cells : List CapturedCell) × (end : CellsEnd) × HasCells state format count at octets cells end
some_cells state format count at octets =
    let read = some_reading format count at octets in (
      captured_cells state read.0,
      cells_end state read.0 read.1,
      record { frames = read.0; ending = read.1; reading = read.2; captured = refl; ended = refl },
    )

-- They have no others.
pub one_cells : (state : FilterState) (format : Format) (count at : ℕ) (octets : List ℕ) (cells others : List CapturedCell) (end other : CellsEnd)
    → HasCells state format count at octets cells end → HasCells state format count at octets others other → (cells ≡ others) × (end ≡ other)
one_cells state format count at octets cells others end other first second =
    let same = one_reading format count at octets first.frames second.frames first.ending second.ending first.reading second.reading in (
      first.captured ∙ ap (captured_cells state) same.0 ∙ sym second.captured,
      first.ended ∙ ap (λ (frames : List (Result Record SkippedBlock)). cells_end state frames first.ending) same.0
          ∙ ap (cells_end state second.frames) same.1 ∙ sym second.ended,
    )

-- A frame without a record.
pub skipped_cells : (state : FilterState) (before after : Reader) (block : SkippedBlock) (octets more : List ℕ) (own : ℕ) (cells : List CapturedCell) (end : CellsEnd)
    → TakesFrame before octets (Err block) own after → HasCells (filter_block state block) after.format after.count after.at (drop own octets ++ more) cells end
    → HasCells state before.format before.count before.at (octets ++ more) cells end
skipped_cells state before after block octets more own cells end takes has = record {
  frames = Err block ∷ has.frames;
  ending = has.ending;
  reading = frames_in_order before after octets more (Err block) own has.frames has.ending takes has.reading;
  captured = has.captured;
  ended = has.ended;
}

-- A record, which is this.
pub taken_cells : (state state' : FilterState) (before after : Reader) (record_read : Record) (found : Filtered) (octets more : List ℕ) (own : ℕ)
    (cells : List CapturedCell) (end : CellsEnd)
    → TakesFrame before octets (Ok record_read) own after → filter_record state record_read ≡ (found, state')
    → HasCells state' after.format after.count after.at (drop own octets ++ more) cells end
    → HasCells state before.format before.count before.at (octets ++ more) (captured_then found record_read.number cells) (ends_then found end)
taken_cells state state' before after record_read found octets more own cells end takes read has = record {
  frames = Ok record_read ∷ has.frames;
  ending = has.ending;
  reading = frames_in_order before after octets more (Ok record_read) own has.frames has.ending takes has.reading;
  captured = subst (λ (p : Filtered × FilterState). captured_then found record_read.number cells ≡ captured_then p.0 record_read.number (captured_cells p.1 has.frames))
      (sym read) (ap (captured_then found record_read.number) has.captured);
  ended = subst (λ (p : Filtered × FilterState). ends_then found end ≡ ends_then p.0 (cells_end p.1 has.frames has.ending)) (sym read) (ap (ends_then found) has.ended);
}

-- A fault.
pub broken_cells : (state : FilterState) (before after : Reader) (fault : Fault) (octets more : List ℕ) → ComesNext before octets (Broken fault) after
    → HasCells state before.format before.count before.at (octets ++ more) [] (Closes state.summary (Some fault))
broken_cells state before after fault octets more next =
    record { frames = []; ending = Some fault; reading = faults_end before after octets more fault next; captured = refl; ended = refl }

-- The end of the octets.
pub last_cells : (state : FilterState) (format : Format) (count at : ℕ) (octets : List ℕ) (ending : Option Fault) → EndsReading format at octets ending
    → HasCells state format count at octets [] (Closes state.summary ending)
last_cells state format count at octets ending ends =
    record { frames = []; ending = ending; reading = ends; captured = refl; ended = refl }
