-- A step of a run that reads ahead.
use Rattle.std.proofs.Common.{◌≡◌, ◌≢◌, ℕ, List, [], ◌++◌, refl, ap, sym, ◌∙◌, subst, append_assoc}
use Rattle.captures_text.specs.CaptureText.{IsTextOfCells, end_done, text_at_end}
use Rattle.captures_text.specs.CellFilter.{CellsEnd}
use Rattle.captures_text.specs.CellFollowing.{OfEachWorld}
use Rattle.captures_text.specs.CellRules.{CellRules}
use Rattle.captures_text.specs.declared.answering.StepOutcome.{StepOutcome}
use Rattle.captures_text.specs.declared.answering.StepOutcome.TheVariants as outcome
use Rattle.captures_text.specs.declared.captured_cell.CapturedCell.{CapturedCell}
use Rattle.captures_text.specs.declared.reading_ahead.StopReason.{StopReason}
use Rattle.captures_text.specs.declared.reading_ahead.ReadingAhead.{ReadingAhead}
use Rattle.captures_text.specs.inner.Answered.{AnswersCells}
use Rattle.captures_text.specs.inner.Ahead.{Advances, AdvancesToEnd, ComesAfter, EndsAfter, GoesBy, HasCellsFrom, IsQueuedText, ReadsCells}
use Rattle.captures_text.proofs.ReadingLemmas.{some_after, some_from}
use Rattle.text_io.specs.declared.ending.Done.TheVariants.{Ended}
use Rattle.text_io.specs.declared.machine.Turn.TheVariants.{GoesOn, Ends}

-- Cells that were read may end the run.
pub ends_at_cell : {World : Type 0} (rules : CellRules World) (shown shown' : World → Type 0) (after : ReadingAhead) (how : StopReason) (cells : List CapturedCell)
    (old new : List ℕ) → AnswersCells rules shown cells Ends shown' old new
    → OfEachWorld rules shown (λ world. EndsAfter rules after how cells world old new)
ends_at_cell rules shown shown' after how cells old new answers = λ world sound is_shown.
    record { here = answers.0; grew = answers.1; ends = λ more later end comes. answers.2 world sound is_shown later end }

-- Or what comes after them does.
pub ends_after : {World : Type 0} (rules : CellRules World) (shown shown' : World → Type 0) (after : ReadingAhead) (how : StopReason) (cells : List CapturedCell)
    (end0 : CellsEnd) (old between new : List ℕ)
    → AnswersCells rules shown cells GoesOn shown' old between
    → ((more : List ℕ) (later : List CapturedCell) (end : CellsEnd) → ComesAfter after how more later end → (later ≡ []) × (end ≡ end0))
    → end_done end0 ≡ Ended → OfEachWorld rules shown' (λ world. new ≡ between ++ text_at_end rules world end0)
    → OfEachWorld rules shown (λ world. EndsAfter rules after how cells world old new)
ends_after rules shown shown' after how cells end0 old between new answers only done closes = λ world sound is_shown.
    let on = answers.2 world sound is_shown in
    let last = text_at_end rules on.0 end0 in
    record {
      here = answers.0 ++ last;
      grew = closes on.0 on.2 on.1 ∙ ap (λ xs. xs ++ last) answers.1 ∙ append_assoc old answers.0 last;
      ends = λ more later end comes.
          let none = only more later end comes in
          subst (λ (cs : List CapturedCell). IsTextOfCells rules world (cells ++ cs) end (answers.0 ++ last) Ended) (sym none.0)
          (subst (λ (e : CellsEnd). IsTextOfCells rules world (cells ++ []) e (answers.0 ++ last) Ended) (sym none.1)
          (on.3 [] end0 last Ended (refl, sym done)));
    }

-- The cells that waited may end the run.
pub ends_before : {World : Type 0} (rules : CellRules World) (shown shown' : World → Type 0) (before : ReadingAhead) (cells : List CapturedCell) (old new : List ℕ)
    → AnswersCells rules shown cells Ends shown' old new → OfEachWorld rules shown (λ world. AdvancesToEnd rules before cells world old new)
ends_before rules shown shown' before cells old new answers = λ world sound is_shown.
    record {
      here = answers.0;
      grew = answers.1;
      ends = λ more.
          let some = some_from before (before.window ++ more) in
          (some.0, some.1, some.2, answers.2 world sound is_shown some.0 some.1);
    }

-- What comes after what was read, if the run goes on.
comes_on : (how : StepOutcome) (comes : StopReason) (after : ReadingAhead) (more : List ℕ) (later : List CapturedCell) (end : CellsEnd)
    → how ≢ outcome.Ended → GoesBy how comes → HasCellsFrom after (after.window ++ more) later end → ComesAfter after comes more later end
comes_on outcome.GoesOn comes after more later end on by has = subst (λ (c : StopReason). ComesAfter after c more later end) (sym by) has
comes_on outcome.NeedsOctets comes after more later end on by has = subst (λ (c : StopReason). ComesAfter after c more later end) (sym by) has
comes_on outcome.Ended comes after more later end on by has = absurd (on refl)

-- After cells are answered, and records are read.
pub advances_read : {World : Type 0} (rules : CellRules World) (shown shown' : World → Type 0) (before after : ReadingAhead) (how : StepOutcome) (comes : StopReason)
    (cells spare fresh : List CapturedCell) (old new : List ℕ)
    → AnswersCells rules shown cells GoesOn shown' old new → ReadsCells before comes after spare fresh → spare ≡ [] → how ≢ outcome.Ended → GoesBy how comes
    → OfEachWorld rules shown (λ world. Advances rules before cells world after fresh shown' old new)
advances_read rules shown shown' before after how comes cells spare fresh old new answers reads none on by = λ world sound is_shown.
    let one = answers.2 world sound is_shown in
    let all : fresh ≡ reads.fresh = reads.grew ∙ ap (λ (cs : List CapturedCell). cs ++ reads.fresh) none in
    record {
      here = answers.0;
      grew = answers.1;
      next = one.0;
      sound = one.2;
      is_shown = one.1;
      completes = λ more text done queued.
          let read = reads.leads more queued.0 queued.1 (comes_on how comes after more queued.0 queued.1 on by queued.2) in (
            fresh ++ queued.0,
            queued.1,
            subst (λ (cs : List CapturedCell). HasCellsFrom before (before.window ++ more) (cs ++ queued.0) queued.1) (sym all) read,
            one.3 (fresh ++ queued.0) queued.1 text done queued.3,
          );
    }

-- After the cells that were read are answered too.
pub advances_answered : {World : Type 0} (rules : CellRules World) (shown shown' shown'' : World → Type 0) (before after : ReadingAhead)
    (cells fresh none : List CapturedCell) (old between new : List ℕ)
    → OfEachWorld rules shown (λ world. Advances rules before cells world after fresh shown' old between)
    → AnswersCells rules shown' fresh GoesOn shown'' between new → none ≡ []
    → OfEachWorld rules shown (λ world. Advances rules before cells world after none shown'' old new)
advances_answered rules shown shown' shown'' before after cells fresh none old between new advances answers empty = λ world sound is_shown.
    let first = advances world sound is_shown in
    let on = answers.2 first.next first.sound first.is_shown in
    record {
      here = first.here ++ answers.0;
      grew = answers.1 ∙ ap (λ xs. xs ++ answers.0) first.grew ∙ append_assoc old first.here answers.0;
      next = on.0;
      sound = on.2;
      is_shown = on.1;
      completes = λ more text done queued.
          let later : IsTextOfCells rules on.0 queued.0 queued.1 text done =
          subst (λ (cs : List CapturedCell). IsTextOfCells rules on.0 (cs ++ queued.0) queued.1 text done) empty queued.3 in
          subst (λ (xs : List ℕ). IsQueuedText rules before cells world (before.window ++ more) xs done) (sym (append_assoc first.here answers.0 text))
          (first.completes more (answers.0 ++ text) done (queued.0, queued.1, queued.2, on.3 queued.0 queued.1 text done later));
    }

-- At the end of the run.
pub advances_to_end : {World : Type 0} (rules : CellRules World) (shown shown' : World → Type 0) (before after : ReadingAhead) (comes : StopReason)
    (cells spare fresh : List CapturedCell) (old between new : List ℕ)
    → AnswersCells rules shown cells GoesOn shown' old between → ReadsCells before comes after spare fresh → spare ≡ []
    → OfEachWorld rules shown' (λ world. EndsAfter rules after comes fresh world between new)
    → OfEachWorld rules shown (λ world. AdvancesToEnd rules before cells world old new)
advances_to_end rules shown shown' before after comes cells spare fresh old between new answers reads none ends = λ world sound is_shown.
    let on = answers.2 world sound is_shown in
    let last = ends on.0 on.2 on.1 in
    let all : fresh ≡ reads.fresh = reads.grew ∙ ap (λ (cs : List CapturedCell). cs ++ reads.fresh) none in
    record {
      here = answers.0 ++ last.here;
      grew = last.grew ∙ ap (λ xs. xs ++ last.here) answers.1 ∙ append_assoc old answers.0 last.here;
      ends = λ more.
          let some = some_after after comes more in (
            fresh ++ some.0,
            some.1,
            subst (λ (cs : List CapturedCell). HasCellsFrom before (before.window ++ more) (cs ++ some.0) some.1) (sym all) (reads.leads more some.0 some.1 some.2),
            on.3 (fresh ++ some.0) some.1 last.here Ended (last.ends more some.0 some.1 some.2),
          );
    }
