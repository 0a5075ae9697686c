-- Laws of the reading of `ports`: every line and the end of the input have an answer in every state. They are next to
-- the definitions because the machine cites them.
use Rattle.std.proofs.Common.{◌≡◌, ℕ, Bool, true, false, List, [], ◌∷◌, ◌++◌, Option, Some, None, refl}
use Rattle.std.specs.Option.{MatchOption}
use Rattle.card_core.specs.Shapes.{shape_fault}
use Rattle.card_core.specs.declared.fault.CardFault.{CardFault}
use Rattle.card_core.specs.declared.shape.Shape.{Shape}
use Rattle.text_io.proofs.Public.{silent-or}
use Rattle.text_io.specs.Answering.{EndsBy}
use Rattle.text_io.specs.Printing.{IsTotal}
use Rattle.text_io.specs.Words.{words_of, is_silent}
use Rattle.text_io.specs.declared.ending.Done.{Done}
use Rattle.text_io.specs.declared.ending.Done.TheVariants.{Whole, Ended}
use Rattle.text_card.specs.CardLine.{card_line_shape}
use Rattle.text_card.specs.CardFaults.{no_card, shape_fault_line}
use Rattle.cmd_ports.specs.PortsText.{ScriptReading, OpensOrEnds, ReadsWords, ReadCloses, reading_rules}

shaped : (reading : ScriptReading) (shape : Shape) (fault : Option CardFault) → (text : List ℕ) × (next : Option ScriptReading)
    × MatchOption fault ((text ≡ []) × (next ≡ Some (record reading { opened = true; shape = shape }))) (λ f. EndsBy (shape_fault_line f) text next)
shaped reading shape None = ([], Some (record reading { opened = true; shape = shape }), (refl, refl))
shaped reading shape (Some fault) = (shape_fault_line fault, None, (refl, refl))

opened_by : (reading : ScriptReading) (shape : Option Shape) → (text : List ℕ) × (next : Option ScriptReading)
    × MatchOption shape (EndsBy no_card text next) (λ s. OpensOrEnds reading s text next)
opened_by reading None = (no_card, None, (refl, refl))
opened_by reading (Some shape) = shaped reading shape (shape_fault shape)

reads-words : (opened : Bool) (reading : ScriptReading) (content : List ℕ) → (text : List ℕ) × (next : Option ScriptReading) × ReadsWords opened reading content text next
reads-words false reading content = opened_by reading (card_line_shape (words_of content))
reads-words true reading content = ([], Some (record reading { lines = reading.lines ++ content ∷ [] }), (refl, refl))

closes : (opened : Bool) → (text : List ℕ) × (done : Done) × ReadCloses opened text done
closes false = (no_card, Ended, (refl, refl))
closes true = ([], Whole, (refl, refl))

pub reading-total : IsTotal reading_rules
reading-total = record {
  keeps = λ before line here after sound step. tt;
  step = λ before line sound.
      silent-or (ReadsWords before.opened before line) before (is_silent (words_of line)) (reads-words before.opened before line);
  close = λ before sound. closes before.opened;
}
