-- A script is read in at most one way.
use Rattle.std.proofs.Common.{◌≡◌, ℕ, ◌+◌, Bool, true, false, List, [], ◌∷◌, ◌++◌, Option, Some, None, sym, subst, ◌∙◌}
use Rattle.std.specs.Option.{MatchOption}
use Rattle.std.specs.Prelude.{MatchBool}
use Rattle.text_io.specs.Answering.{EndsBy}
use Rattle.text_io.specs.Lines.{Line, line_content}
use Rattle.text_io.specs.Printing.{EndsAt}
use Rattle.text_io.specs.Words.{words_of, is_silent}
use Rattle.card_core.specs.Shapes.{shape_fault}
use Rattle.card_core.specs.declared.fault.CardFault.{CardFault}
use Rattle.card_core.specs.declared.shape.Shape.{Shape}
use Rattle.text_card.specs.CardFaults.{no_card, shape_fault_line}
use Rattle.text_card.specs.CardLine.{card_line_shape}
use Rattle.cmd_ports.specs.PortsText.{ScriptReading, OpensOrEnds, ReadsWords, reading_rules}

agree : (one other there : ScriptReading) → Some one ≡ Some there → Some other ≡ Some there → one ≡ other
agree one other there is also = let same : Some one ≡ Some other = is ∙ sym also in cc

shaped-once : (reading one other : ScriptReading) (shape : Shape) (fault : Option CardFault) (text text' : List ℕ)
    → MatchOption fault ((text ≡ []) × (Some one ≡ Some (record reading { opened = true; shape = shape }))) (λ f. EndsBy (shape_fault_line f) text (Some one))
    → MatchOption fault ((text' ≡ []) × (Some other ≡ Some (record reading { opened = true; shape = shape }))) (λ f. EndsBy (shape_fault_line f) text' (Some other))
    → one ≡ other
shaped-once reading one other shape None text text' printed printed' = agree one other (record reading { opened = true; shape = shape }) printed.1 printed'.1
shaped-once reading one other shape (Some fault) text text' printed printed' = let ends : Some one ≡ None = printed.1 in cc

opened-once : (reading one other : ScriptReading) (shape : Option Shape) (text text' : List ℕ)
    → MatchOption shape (EndsBy no_card text (Some one)) (λ s. OpensOrEnds reading s text (Some one))
    → MatchOption shape (EndsBy no_card text' (Some other)) (λ s. OpensOrEnds reading s text' (Some other)) → one ≡ other
opened-once reading one other None text text' printed printed' = let ends : Some one ≡ None = printed.1 in cc
opened-once reading one other (Some shape) text text' printed printed' = shaped-once reading one other shape (shape_fault shape) text text' printed printed'

words-once : (opened : Bool) (reading one other : ScriptReading) (line text text' : List ℕ)
    → ReadsWords opened reading line text (Some one) → ReadsWords opened reading line text' (Some other) → one ≡ other
words-once false reading one other line text text' printed printed' = opened-once reading one other (card_line_shape (words_of line)) text text' printed printed'
words-once true reading one other line text text' printed printed' = agree one other (record reading { lines = reading.lines ++ line ∷ [] }) printed.1 printed'.1

step-once : (silent : Bool) (reading one other : ScriptReading) (line text text' : List ℕ)
    → MatchBool silent ((text ≡ []) × (Some one ≡ Some reading)) (ReadsWords reading.opened reading line text (Some one))
    → MatchBool silent ((text' ≡ []) × (Some other ≡ Some reading)) (ReadsWords reading.opened reading line text' (Some other)) → one ≡ other
step-once true reading one other line text text' printed printed' = agree one other reading printed.1 printed'.1
step-once false reading one other line text text' printed printed' = words-once reading.opened reading one other line text text' printed printed'

pub read-once : (lines : List Line) (met : ℕ) (reading one other : ScriptReading) (text text' : List ℕ)
    → EndsAt reading_rules met reading lines text one → EndsAt reading_rules met reading lines text' other → one ≡ other
read-once [] met reading one other text text' ends ends' = ends.0 ∙ sym ends'.0
read-once (line ∷ lines) met reading one other text text' (over, (here, more, next, cut, step, later)) (over', (here', more', next', cut', step', later')) =
    let same : next ≡ next' = step-once (is_silent (words_of (line_content line))) reading next next' (line_content line) here here' step step' in
    let both = subst (λ (r : ScriptReading). EndsAt reading_rules (met + 1) r lines more one) same later in
    read-once lines (met + 1) next' one other more more' both later'
