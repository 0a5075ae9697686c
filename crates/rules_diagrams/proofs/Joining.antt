-- Choices are made of the choices at their parts.
use Rattle.std.proofs.Common.{◌≡◌, ℕ, min, Bool, true, false, if◌then◌else◌, List, refl, sym, ap, ◌∙◌, arith}
use Rattle.rules_diagrams.specs.inner.CellBits.{is_set}
use Rattle.rules_diagrams.specs.inner.Values.{diagram_value, top_of, IsWithin, Keeps}
use Rattle.rules_diagrams.specs.inner.Choices.{chosen, IsChoice}
use Rattle.rules_diagrams.specs.inner.Asking.{asked_top, chosen_value, AreWithin, IsAnswer}
use Rattle.rules_diagrams.specs.inner.Store.{DecidesByBit}
use Rattle.rules_diagrams.specs.inner.Steps.{AreSides, AreChoiceParts}
use Rattle.rules_diagrams.specs.declared.diagram.Diagram.{Diagram}
use Rattle.rules_diagrams.specs.declared.diagram.Node.{Node}
use Rattle.rules_diagrams.specs.declared.step.Asked.{Asked}
use Rattle.rules_diagrams.proofs.Nodes.{keeps_both, answer_kept}

-- The value of a diagram at a side, at a cell whose bit is known.
side_value : (nodes new : List Node) (diagram : Diagram) (bit : ℕ) (low high : Diagram) (cell : ℕ) (b : Bool) → is_set cell bit ≡ b → Keeps nodes new → IsWithin nodes diagram
    → AreSides nodes diagram bit low high → diagram_value new (if b then high else low) cell ≡ diagram_value new diagram cell
side_value nodes new diagram bit low high cell b e keeps within sides =
    let side_in : (c : Bool) → IsWithin nodes (if c then high else low) = elim [ true ↦ sides.high_within | false ↦ sides.low_within ] in
    (keeps.same (if b then high else low) (side_in b)).value cell
    ∙ (ap (λ (c : Bool). diagram_value nodes (if c then high else low) cell) (sym e)
    ∙ (sym (sides.value cell) ∙ sym ((keeps.same diagram within).value cell)))

same_choice : (a b c x y z : ℕ) → a ≡ x → b ≡ y → c ≡ z → chosen a b c ≡ chosen x y z
same_choice a b c x y z p q r = ap (λ n. chosen n b c) p ∙ (ap (λ n. chosen x n c) q ∙ ap (λ n. chosen x y n) r)

module _ (first after low_done high_done : List Node) (asked low high : Asked) (bit : ℕ) (low_answer high_answer answer : Diagram) where
  pub joined : AreWithin first asked → bit ≡ asked_top first asked → AreChoiceParts first asked bit low high
      → Keeps first low_done → IsAnswer low_done low low_answer → Keeps low_done high_done → IsAnswer high_done high high_answer
      → Keeps high_done after → DecidesByBit after bit low_answer high_answer answer → IsAnswer after asked answer
  joined within is_bit parts to_low low_is to_high high_is to_end made =
      let to_after = keeps_both low_done high_done after to_high to_end in
      let whole = keeps_both first low_done after to_low to_after in
      let low_after = answer_kept low_done after low low_answer to_after low_is in
      let high_after = answer_kept high_done after high high_answer to_end high_is in
      let test = whole.same asked.test within.test in
      let one = whole.same asked.one within.one in
      let other = whole.same asked.other within.other in
      let tops : asked_top after asked ≡ asked_top first asked = ap (λ n. min n (min (top_of after asked.one) (top_of after asked.other))) test.top
      ∙ (ap (λ n. min (top_of first asked.test) (min n (top_of after asked.other))) one.top ∙ ap (λ n. min (top_of first asked.test) (min (top_of first asked.one) n)) other.top) in
      let at : (cell : ℕ) (b : Bool) → is_set cell bit ≡ b → diagram_value after (if b then high_answer else low_answer) cell ≡ chosen_value after asked cell = λ cell. elim [
        | true ↦ λ e. high_after.value cell
            ∙ same_choice (diagram_value after high.test cell) (diagram_value after high.one cell) (diagram_value after high.other cell) (diagram_value after asked.test cell) (diagram_value after asked.one cell) (diagram_value after asked.other cell)
            (side_value first after asked.test bit low.test high.test cell true e whole within.test parts.test)
            (side_value first after asked.one bit low.one high.one cell true e whole within.one parts.one)
            (side_value first after asked.other bit low.other high.other cell true e whole within.other parts.other)
        | false ↦ λ e. low_after.value cell
            ∙ same_choice (diagram_value after low.test cell) (diagram_value after low.one cell) (diagram_value after low.other cell) (diagram_value after asked.test cell) (diagram_value after asked.one cell) (diagram_value after asked.other cell)
            (side_value first after asked.test bit low.test high.test cell false e whole within.test parts.test)
            (side_value first after asked.one bit low.one high.one cell false e whole within.one parts.one)
            (side_value first after asked.other bit low.other high.other cell false e whole within.other parts.other)
      ] in
      record {
        parts = record { test = test.within; one = one.within; other = other.within };
        within = made.within;
        top = omega (arith, made.top, is_bit, tops);
        value = λ cell. made.value cell ∙ at cell (is_set cell bit) refl;
      }

pub chosen_is : (nodes : List Node) (test one other answer : Diagram) → IsAnswer nodes (record { test = test; one = one; other = other }) answer → IsChoice nodes test one other answer
chosen_is nodes test one other answer is = record { within = is.within; value = is.value }
