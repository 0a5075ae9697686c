-- The text of the reading of a script.
use Rattle.std.proofs.Common.{◌≡◌, ℕ, ◌+◌, Bool, true, false, List, [], ◌∷◌, ◌++◌, Option, Some, None, refl, ap, sym, subst, ◌∙◌}
use Rattle.std.specs.Prelude.{MatchOption, MatchBool}
use Rattle.text_io.specs.Answering.{EndsBy}
use Rattle.text_io.specs.Lines.{Line, line_content, lines_of}
use Rattle.text_io.specs.Limits.{is_over}
use Rattle.text_io.specs.Printing.{Prints}
use Rattle.text_io.specs.Words.{words_of, is_silent}
use Rattle.text_io.specs.declared.ending.Done.TheVariants.{Whole, Ended}
use Rattle.card_core.specs.Shapes.{shape_fault}
use Rattle.card_core.specs.declared.fault.CardFault.{CardFault}
use Rattle.card_core.specs.declared.shape.Shape.{Shape}
use Rattle.text_card.specs.CardLine.{card_line_shape}
use Rattle.text_card.specs.CardFaults.{no_card, shape_fault_line}
use Rattle.cmd_ports.specs.PortsText.{ScriptReading, unread, OpensOrEnds, ReadsWords, ReadSteps, ReadCloses, reading_rules, IsReadingText}
use Rattle.cmd_ports.specs.inner.Reading.{IsStoredReading}
use Rattle.cmd_ports.proofs.ReadLines.{text-more}

-- A line that doesn't end the reading prints nothing.
shaped-silent : (reading : ScriptReading) (shape : Shape) (fault : Option CardFault) (text : List ℕ) (next : Option ScriptReading) (world : ScriptReading) → next ≡ Some world
    → MatchOption fault ((text ≡ []) × (next ≡ Some (record reading { opened = true; shape = shape }))) (λ f. EndsBy (shape_fault_line f) text next)
    → text ≡ []
shaped-silent reading shape None text next world on printed = printed.0
shaped-silent reading shape (Some fault) text next world on printed = let ends : next ≡ None = printed.1 in cc

opened-silent : (reading : ScriptReading) (shape : Option Shape) (text : List ℕ) (next : Option ScriptReading) (world : ScriptReading) → next ≡ Some world
    → MatchOption shape (EndsBy no_card text next) (λ s. OpensOrEnds reading s text next) → text ≡ []
opened-silent reading None text next world on printed = let ends : next ≡ None = printed.1 in cc
opened-silent reading (Some shape) text next world on printed = shaped-silent reading shape (shape_fault shape) text next world on printed

words-silent : (opened : Bool) (reading : ScriptReading) (line : List ℕ) (text : List ℕ) (next : Option ScriptReading) (world : ScriptReading) → next ≡ Some world
    → ReadsWords opened reading line text next → text ≡ []
words-silent false reading line text next world on printed = opened-silent reading (card_line_shape (words_of line)) text next world on printed
words-silent true reading line text next world on printed = printed.0

steps-silent_by : (silent : Bool) (reading : ScriptReading) (line : List ℕ) (text : List ℕ) (next : Option ScriptReading) (world : ScriptReading) → next ≡ Some world
    → MatchBool silent ((text ≡ []) × (next ≡ Some reading)) (ReadsWords reading.opened reading line text next) → text ≡ []
steps-silent_by true reading line text next world on printed = printed.0
steps-silent_by false reading line text next world on printed = words-silent reading.opened reading line text next world on printed

closes-silent : (opened : Bool) (text : List ℕ) → ReadCloses opened text Whole → text ≡ []
closes-silent false text printed = let ends : Whole ≡ Ended = printed.1 in cc
closes-silent true text printed = printed.0

-- A line of a script that is read as a whole prints nothing, if the rest prints nothing.
goes-silent : (next : Option ScriptReading) (lines : List Line) (line : Line) (met : ℕ) (opened : ScriptReading) (text here more : List ℕ)
    → ((world : ScriptReading) (left : List ℕ) → Prints reading_rules (met + 1) world lines left Whole → left ≡ [])
    → text ≡ here ++ more → ReadSteps opened (line_content line) here next
    → MatchOption next ((more ≡ []) × (Whole ≡ Ended)) (λ world. Prints reading_rules (met + 1) world lines more Whole)
    → text ≡ []
goes-silent None lines line met opened text here more later cut step rest = let ends : Whole ≡ Ended = rest.1 in cc
goes-silent (Some world) lines line met opened text here more later cut step rest =
    let first : here ≡ [] = steps-silent_by (is_silent (words_of (line_content line))) opened (line_content line) here (Some world) world refl step in
    cut ∙ ap (λ (t : List ℕ). t ++ more) first ∙ later world more rest

line-silent : (over : Bool) (lines : List Line) (line : Line) (met : ℕ) (opened : ScriptReading) (text : List ℕ)
    → ((world : ScriptReading) (left : List ℕ) → Prints reading_rules (met + 1) world lines left Whole → left ≡ [])
    → MatchBool over ((text ≡ reading_rules.too_long) × (Whole ≡ Ended))
    ((here : List ℕ) × (more : List ℕ) × (next : Option ScriptReading) × (text ≡ here ++ more) × ReadSteps opened (line_content line) here next
    × MatchOption next ((more ≡ []) × (Whole ≡ Ended)) (λ world. Prints reading_rules (met + 1) world lines more Whole))
    → text ≡ []
line-silent true lines line met opened text later printed = let ends : Whole ≡ Ended = printed.1 in cc
line-silent false lines line met opened text later (here, more, next, cut, step, rest) =
    goes-silent next lines line met opened text here more later cut step rest

-- The reading of a whole script prints nothing.
whole-silent : (lines : List Line) (met : ℕ) (opened : ScriptReading) (text : List ℕ)
    → Prints reading_rules met opened lines text Whole → text ≡ []
whole-silent [] met opened text printed = closes-silent opened.opened text printed
whole-silent (line ∷ lines) met opened text printed =
    line-silent (is_over met line) lines line met opened text (λ world left. whole-silent lines (met + 1) world left) printed

pub reading-silent : (octets text : List ℕ) → IsReadingText octets text Whole → text ≡ []
reading-silent octets text printed = whole-silent (lines_of octets) 0 unread text printed

-- The line that opens a card leads to a reading with its shape and the same lines.
opens-words : (reading next : ScriptReading) (line text : List ℕ) (shape : Shape) → text ≡ [] → next ≡ record reading { opened = true; shape = shape }
    → card_line_shape (words_of line) ≡ Some shape → shape_fault shape ≡ None → ReadsWords false reading line text (Some next)
opens-words reading next line text shape silent goes card fits =
    let P : Option CardFault → Type 0 = λ fault. MatchOption fault
    ((text ≡ []) × (Some next ≡ Some (record reading { opened = true; shape = shape }))) (λ f. EndsBy (shape_fault_line f) text (Some next)) in
    let here : OpensOrEnds reading shape text (Some next) = subst P (sym fits) (silent, ap (λ (w : ScriptReading). Some w) goes) in
    let Q : Option Shape → Type 0 = λ found. MatchOption found (EndsBy no_card text (Some next)) (λ s. OpensOrEnds reading s text (Some next)) in
    subst Q (sym card) here

-- A line with words, in a reading of this kind.
speaks-step : (reading : ScriptReading) (opened : Bool) (line text : List ℕ) (next : Option ScriptReading) → is_silent (words_of line) ≡ false
    → reading.opened ≡ opened → ReadsWords opened reading line text next → ReadSteps reading line text next
speaks-step reading opened line text next speaks is reads =
    let P : Bool → Type 0 = λ o. ReadsWords o reading line text next in
    let Q : Bool → Type 0 = λ silent. MatchBool silent ((text ≡ []) × (next ≡ Some reading)) (ReadsWords reading.opened reading line text next) in
    subst Q (sym speaks) (subst P (sym is) reads)

pub opens : (opened : Bool) (was shape : Shape) (stored line : List ℕ) → is_silent (words_of line) ≡ false → opened ≡ false
    → card_line_shape (words_of line) ≡ Some shape → shape_fault shape ≡ None → (reading : ScriptReading) → IsStoredReading opened was stored reading
    → (next : ScriptReading) × IsStoredReading true shape stored next × ReadSteps reading line [] (Some next)
opens opened was shape stored line speaks closed card fits reading is =
    let next : ScriptReading = record reading { opened = true; shape = shape } in (
      next,
      (refl, is.1),
      speaks-step reading false line [] (Some next) speaks (ap (λ (r : ScriptReading). r.opened) is.0 ∙ closed) (opens-words reading next line [] shape refl refl card fits),
    )

-- A later line with words is stored with a line feed.
pub stores : (opened : Bool) (shape : Shape) (stored stored' line : List ℕ) → is_silent (words_of line) ≡ false → opened ≡ true
    → stored' ≡ (stored ++ line) ++ 10 ∷ [] → (reading : ScriptReading) → IsStoredReading opened shape stored reading
    → (next : ScriptReading) × IsStoredReading opened shape stored' next × ReadSteps reading line [] (Some next)
stores opened shape stored stored' line speaks is_open grown reading is =
    let next : ScriptReading = record reading { lines = reading.lines ++ line ∷ [] } in (
      next,
      (
        ap (λ (r : ScriptReading). record r { lines = reading.lines ++ line ∷ [] }) is.0,
        grown ∙ ap (λ (xs : List ℕ). (xs ++ line) ++ 10 ∷ []) is.1 ∙ sym (text-more reading.lines line),
      ),
      speaks-step reading true line [] (Some next) speaks (ap (λ (r : ScriptReading). r.opened) is.0 ∙ is_open) (refl, refl),
    )

-- A line without words changes nothing.
pub skips : (opened : Bool) (shape : Shape) (stored line : List ℕ) → is_silent (words_of line) ≡ true → (reading : ScriptReading) → IsStoredReading opened shape stored reading
    → (next : ScriptReading) × IsStoredReading opened shape stored next × ReadSteps reading line [] (Some next)
skips opened shape stored line silent reading is =
    let Q : Bool → Type 0 = λ s. MatchBool s (◌≡◌ {A = List ℕ} [] [] × (Some reading ≡ Some reading)) (ReadsWords reading.opened reading line [] (Some reading)) in
    (reading, is, subst Q (sym silent) (refl, refl))
