-- A step of a run on two threads.
use Rattle.std.proofs.Common.{◌≡◌, ◌⊎◌, inl, inr, ◌≤◌, ℕ, List, [], ◌++◌, Option, None, Some, take, refl, sym, ◌∙◌, subst, length, arith}
use Rattle.std.proofs.lemmas.List.{take_all}
use Rattle.captures.specs.declared.link.Link.{Link}
use Rattle.captures.specs.declared.fault.Fault.{Fault}
use Rattle.captures_text.specs.CellFollowing.{OfEachWorld}
use Rattle.captures_text.specs.CellRules.{CellRules}
use Rattle.captures_text.specs.declared.answering.StepOutcome.{StepOutcome}
use Rattle.captures_text.specs.declared.answering.StepOutcome.TheVariants as outcome
use Rattle.captures_text.specs.declared.captured_cell.CapturedCell.{CapturedCell}
use Rattle.captures_text.specs.declared.reading_ahead.StopReason.{StopReason}
use Rattle.captures_text.specs.declared.reading_ahead.StopReason.TheVariants as stop
use Rattle.captures_text.specs.declared.reading_ahead.ReadingAhead.{ReadingAhead}
use Rattle.captures_text.specs.inner.Ahead.{AdvancesToEnd, EndsAfter, FillsAhead, FillsAndReads, FillsFirst, GoesBy, IsQueuedText, ReadsCells, WentOn, with_window}
use Rattle.captures_text.specs.inner.Answered.{AnswersCells}
use Rattle.captures_text.proofs.AdvanceLemmas.{advances_read, advances_to_end, ends_before}
use Rattle.text_io.specs.declared.machine.Turn.TheVariants.{GoesOn, Ends}

-- At the end of the input.
pub ahead_ended : {World : Type 0} (rules : CellRules World) (shown shown' : World → Type 0) (Known : Type 0) (rest rest' : List ℕ)
    (before after : ReadingAhead) (cells spare fresh : List CapturedCell) (old new : List ℕ)
    → AnswersCells rules shown cells GoesOn shown' old new → FillsAndReads Known rest rest' before None after spare fresh → spare ≡ []
    → FillsAhead rules shown shown' Known rest rest' before cells outcome.NeedsOctets after fresh old new
ahead_ended rules shown shown' Known rest rest' before after cells spare fresh old new answers filled none = record {
  near = before.window;
  front = take_all (length before.window) before.window (omega arith);
  same = filled.2;
  bounded = λ b. b;
  goes_on = λ on world sound is_shown.
      let one = answers.2 world sound is_shown in
      record {
        here = answers.0;
        grew = answers.1;
        next = one.0;
        sound = one.2;
        is_shown = one.1;
        completes = λ more text done queued.
            let same = subst (λ (reading : ReadingAhead). IsQueuedText rules reading fresh one.0 (reading.window ++ more) text done) filled.0 queued in
            let is = subst (λ (cs : List CapturedCell). IsQueuedText rules before cs one.0 (before.window ++ more) text done) (filled.1 ∙ none) same in
            (is.0, is.1, is.2, one.3 is.0 is.1 text done is.3);
      };
  ends = λ end. cc;
  came = (refl, filled.0, filled.1 ∙ none);
}

-- After more octets.
pub ahead_on : {World : Type 0} (rules : CellRules World) (shown shown' : World → Type 0) (Known : Type 0) (rest rest' near : List ℕ)
    (before after : ReadingAhead) (comes : StopReason) (cells spare fresh : List CapturedCell) (old new : List ℕ)
    → AnswersCells rules shown cells GoesOn shown' old new → FillsFirst Known rest rest' before near
    → ReadsCells (with_window before near) comes after spare fresh → spare ≡ [] → (comes ≡ stop.NeedsOctets) ⊎ (comes ≡ stop.Enough)
    → FillsAhead rules shown shown' Known rest rest' before cells outcome.GoesOn after fresh old new
ahead_on rules shown shown' Known rest rest' near before after comes cells spare fresh old new answers filled reads none is = record {
  near = near;
  front = filled.front;
  same = filled.same;
  bounded = λ b. filled.bounded;
  goes_on = λ on. elim is [
    | inl wants ↦ advances_read rules shown shown' (with_window before near) after outcome.NeedsOctets comes cells spare fresh old new answers reads none (λ e. cc) wants
    | inr enough ↦ advances_read rules shown shown' (with_window before near) after outcome.GoesOn comes cells spare fresh old new answers reads none (λ e. cc) enough
  ];
  ends = λ end. cc;
  came = (went is, filled.longer);
}
  where
    went : (comes ≡ stop.NeedsOctets) ⊎ (comes ≡ stop.Enough) → WentOn (with_window before near) after
    went (inl wants) =
        let at = subst (λ (c : StopReason). ReadsCells (with_window before near) c after spare fresh) wants reads in at.came.0
    went (inr enough) =
        let at = subst (λ (c : StopReason). ReadsCells (with_window before near) c after spare fresh) enough reads in at.came.0

-- What was read, and how the run goes on, where a cell that waited ended it or what came after the cells that were read.
ahead_end : {World : Type 0} (rules : CellRules World) (shown shown' : World → Type 0) (Known : Type 0) (rest rest' near : List ℕ)
    (before after : ReadingAhead) (cells cells' : List CapturedCell) (old new : List ℕ) → take (length before.window) near ≡ before.window
    → (Known → before.window ++ rest ≡ near ++ rest') → (length before.window ≤ 524288 → length near ≤ 524288)
    → OfEachWorld rules shown (λ world. AdvancesToEnd rules (with_window before near) cells world old new)
    → FillsAhead rules shown shown' Known rest rest' before cells outcome.Ended after cells' old new
ahead_end rules shown shown' Known rest rest' near before after cells cells' old new front same bounded ends =
    record { near = near; front = front; same = same; bounded = bounded; goes_on = λ on. absurd (on refl); ends = λ end. ends; came = tt }

-- At a cell that waited.
pub ahead_at_cell : {World : Type 0} (rules : CellRules World) (shown shown' shown'' : World → Type 0) (Known : Type 0) (rest rest' : List ℕ)
    (before after : ReadingAhead) (found : Option StopReason) (cells spare fresh cells' : List CapturedCell) (old new : List ℕ)
    → AnswersCells rules shown cells Ends shown' old new → FillsAndReads Known rest rest' before found after spare fresh
    → FillsAhead rules shown shown'' Known rest rest' before cells outcome.Ended after cells' old new
ahead_at_cell rules shown shown' shown'' Known rest rest' before after None cells spare fresh cells' old new answers filled =
    ahead_end rules shown shown'' Known rest rest' before.window before after cells cells' old new
    (take_all (length before.window) before.window (omega arith)) filled.2 (λ b. b) (ends_before rules shown shown' before cells old new answers)
ahead_at_cell rules shown shown' shown'' Known rest rest' before after (Some comes) cells spare fresh cells' old new answers filled =
    ahead_end rules shown shown'' Known rest rest' filled.0 before after cells cells' old new filled.1.front filled.1.same (λ b. filled.1.bounded)
    (ends_before rules shown shown' (with_window before filled.0) cells old new answers)

-- At what came after the cells that were read.
pub ahead_to_end : {World : Type 0} (rules : CellRules World) (shown shown' shown'' : World → Type 0) (Known : Type 0) (rest rest' : List ℕ)
    (before after : ReadingAhead) (comes : StopReason) (cells spare fresh cells' : List CapturedCell) (old between new : List ℕ)
    → AnswersCells rules shown cells GoesOn shown' old between → FillsAndReads Known rest rest' before (Some comes) after spare fresh → spare ≡ []
    → OfEachWorld rules shown' (λ world. EndsAfter rules after comes fresh world between new)
    → FillsAhead rules shown shown'' Known rest rest' before cells outcome.Ended after cells' old new
ahead_to_end rules shown shown' shown'' Known rest rest' before after comes cells spare fresh cells' old between new answers filled none ends =
    ahead_end rules shown shown'' Known rest rest' filled.0 before after cells cells' old new filled.1.front filled.1.same (λ b. filled.1.bounded)
    (advances_to_end rules shown shown' (with_window before filled.0) after comes cells spare fresh old between new answers filled.2 none ends)

-- What isn't the end of the octets that wait, nor enough cells, ends a run.
pub ends_by : (how : StepOutcome) (comes : StopReason) → ((first : Link) × (other : Link) × (comes ≡ stop.SecondLink first other)) ⊎ ((fault : Fault) × (comes ≡ stop.Broken fault))
    → GoesBy how comes → how ≡ outcome.Ended
ends_by outcome.GoesOn comes (inl several) by = let no : stop.SecondLink several.0 several.1 ≡ stop.Enough = sym several.2 ∙ by in cc
ends_by outcome.GoesOn comes (inr broken) by = let no : stop.Broken broken.0 ≡ stop.Enough = sym broken.1 ∙ by in cc
ends_by outcome.NeedsOctets comes (inl several) by = let no : stop.SecondLink several.0 several.1 ≡ stop.NeedsOctets = sym several.2 ∙ by in cc
ends_by outcome.NeedsOctets comes (inr broken) by = let no : stop.Broken broken.0 ≡ stop.NeedsOctets = sym broken.1 ∙ by in cc
ends_by outcome.Ended comes is by = refl
