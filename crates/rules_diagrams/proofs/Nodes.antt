-- Nodes keep the meaning of diagrams.
use Rattle.std.proofs.Common.{◌≡◌, ℕ, suc, ◌-◌, ◌<◌, ◌==◌, min, Bool, true, false, if◌then◌else◌, List, [], ◌∷◌, ◌++◌, reverse, length, get_or, slice_set, refl, sym, ap, subst, ◌∙◌, arith}
use Rattle.std.proofs.lemmas.Bool.{eqb-true}
use Rattle.std.proofs.lemmas.Bool.Decides.{nat_tests}
use Rattle.std.proofs.lemmas.List.{reverse-append, length-reverse, get_or-reverse, length-set}
use Rattle.std.proofs.lemmas.List.Elements.{All-weaker, All-set}
use Rattle.rules_diagrams.specs.inner.CellBits.{is_set}
use Rattle.rules_diagrams.specs.inner.Values.{diagram_value, value_by, node_value, node_top, top_of, taken_side, IsWithin, IsSame, Keeps}
use Rattle.rules_diagrams.specs.inner.Choices.{chosen}
use Rattle.rules_diagrams.specs.inner.Asking.{asked_top, chosen_value, IsAnswer}
use Rattle.rules_diagrams.specs.inner.Store.{AreNodes, IsNode, HasNode, DecidesByBit, IsStore}
use Rattle.rules_diagrams.specs.declared.diagram.Diagram.{Diagram}
use Rattle.rules_diagrams.specs.declared.diagram.Diagram.TheVariants.{Leaf, Inner}
use Rattle.rules_diagrams.specs.declared.diagram.Node.{Node}
use Rattle.rules_diagrams.specs.declared.step.Asked.{Asked}
use Rattle.rules_diagrams.specs.declared.step.Step.{Step}

pub keeps_itself : (nodes : List Node) → Keeps nodes nodes
keeps_itself nodes = record { same = λ diagram within. record { within = within; top = refl; value = λ cell. refl } }

pub keeps_both : (old middle new : List Node) → Keeps old middle → Keeps middle new → Keeps old new
keeps_both old middle new p q = record {
  same = λ diagram within.
      let first = p.same diagram within in
      let second = q.same diagram first.within in
      record { within = second.within; top = second.top ∙ first.top; value = λ cell. second.value cell ∙ first.value cell };
}

-- A choice by a test whose outcome is known.
by_false : {A : Type 0} (b : Bool) (x y : A) → b ≡ false → (if b then x else y) ≡ y
by_false b x y e = rw e refl

by_true : {A : Type 0} (b : Bool) (x y : A) → b ≡ true → (if b then x else y) ≡ x
by_true b x y e = rw e refl

not_last : (number count : ℕ) → number < count → (number == count) ≡ false
not_last number count lt = grind (arith, nat_tests)

is_last : (number count : ℕ) → number ≡ count → (number == count) ≡ true
is_last number count e = grind (arith, nat_tests)

same_after : (node : Node) (older : List Node) (diagram : Diagram) → IsWithin older diagram → IsSame older (node ∷ older) diagram
same_after node older (Leaf value) within = record { within = tt; top = refl; value = λ cell. refl }
same_after node older (Inner number) within =
    let e = not_last number (length older) within in
    record {
      within = omega arith;
      top = by_false (number == length older) node.bit (node_top older number) e;
      value = λ cell. by_false (number == length older) (value_by (node_value older cell) (taken_side node cell)) (node_value older cell number) e;
    }

pub keeps_push : (node : Node) (older : List Node) → Keeps older (node ∷ older)
keeps_push node older = record { same = same_after node older }

-- What is kept of a node.
is_node_kept : (old new : List Node) (node : Node) → Keeps old new → IsNode old node → IsNode new node
is_node_kept old new node keeps is =
    let low = keeps.same node.low is.low in
    let high = keeps.same node.high is.high in
    record {
      bit = is.bit;
      low = low.within;
      high = high.within;
      low_later = subst (λ n. node.bit < n) (sym low.top) is.low_later;
      high_later = subst (λ n. node.bit < n) (sym high.top) is.high_later;
    }

side_within : (nodes : List Node) (node : Node) (cell : ℕ) → IsNode nodes node → IsWithin nodes (taken_side node cell)
side_within nodes node cell is =
    elim (is_set cell node.bit) as (λ b. IsWithin nodes (if b then node.high else node.low)) [ true ↦ is.high | false ↦ is.low ]

-- The newest node.
pub has_newest : (node : Node) (older : List Node) (number : ℕ) → IsNode older node → number ≡ length older → HasNode (node ∷ older) number node
has_newest node older number is e =
    let last = is_last number (length older) e in
    let keeps = keeps_push node older in
    record {
      is = is_node_kept older (node ∷ older) node keeps is;
      top = by_true (number == length older) node.bit (node_top older number) last;
      value = λ cell.
          by_true (number == length older) (value_by (node_value older cell) (taken_side node cell)) (node_value older cell number) last
          ∙ sym ((keeps.same (taken_side node cell) (side_within older node cell is)).value cell);
    }

has_older : (newest : Node) (older : List Node) (number : ℕ) (node : Node) → number < length older → HasNode older number node → HasNode (newest ∷ older) number node
has_older newest older number node lt has =
    let keeps = keeps_push newest older in
    let same = keeps.same (Inner number) lt in
    record {
      is = is_node_kept older (newest ∷ older) node keeps has.is;
      top = same.top ∙ has.top;
      value = λ cell.
          same.value cell
          ∙ (has.value cell ∙ sym ((keeps.same (taken_side node cell) (side_within older node cell has.is)).value cell));
    }

-- The node of a number, by its place among the nodes.
pub has_node : (nodes : List Node) (number : ℕ) (node : Node) → AreNodes nodes → number < length nodes → node ≡ get_or nodes (length nodes - 1 - number) node → HasNode nodes number node
has_node [] number node are lt e = absurd (omega arith)
has_node (newest ∷ older) number node are lt e =
    let cases : (b : Bool) → (number == length older) ≡ b → HasNode (newest ∷ older) number node = elim [
      | true ↦ λ last.
          let is : number ≡ length older = eqb-true number (length older) last in
          let at : suc (length older) - 1 - number ≡ 0 = omega arith in
          let found : node ≡ newest = e ∙ ap (λ n. get_or (newest ∷ older) n node) at in
          subst (λ (n : Node). HasNode (newest ∷ older) number n) (sym found) (has_newest newest older number are.0 is)
      | false ↦ λ last.
          let before : number < length older = grind (arith, nat_tests) in
          let at : suc (length older) - 1 - number ≡ suc (length older - 1 - number) = omega arith in
          let found : node ≡ get_or older (length older - 1 - number) node = e ∙ ap (λ n. get_or (newest ∷ older) n node) at in
          has_older newest older number node before (has_node older number node are.1 before found)
    ] in
    cases (number == length older) refl

-- A node that is there decides between its sides.
pub made_by : (nodes : List Node) (number : ℕ) (node : Node) → number < length nodes → HasNode nodes number node → DecidesByBit nodes node.bit node.low node.high (Inner number)
made_by nodes number node lt has = record { within = lt; top = omega (arith, has.top); value = has.value }

-- What is kept of a choice.
pub answer_kept : (old new : List Node) (asked : Asked) (answer : Diagram) → Keeps old new → IsAnswer old asked answer → IsAnswer new asked answer
answer_kept old new asked answer keeps is =
    let test = keeps.same asked.test is.parts.test in
    let one = keeps.same asked.one is.parts.one in
    let other = keeps.same asked.other is.parts.other in
    let same = keeps.same answer is.within in
    let tops : asked_top new asked ≡ asked_top old asked = ap (λ n. min n (min (top_of new asked.one) (top_of new asked.other))) test.top
    ∙ (ap (λ n. min (top_of old asked.test) (min n (top_of new asked.other))) one.top ∙ ap (λ n. min (top_of old asked.test) (min (top_of old asked.one) n)) other.top) in
    let values : (cell : ℕ) → chosen_value new asked cell ≡ chosen_value old asked cell = λ cell.
    ap (λ n. chosen n (diagram_value new asked.one cell) (diagram_value new asked.other cell)) (test.value cell)
    ∙ (ap (λ n. chosen (diagram_value old asked.test cell) n (diagram_value new asked.other cell)) (one.value cell)
    ∙ ap (λ n. chosen (diagram_value old asked.test cell) (diagram_value old asked.one cell) n) (other.value cell)) in
    record {
      parts = record { test = test.within; one = one.within; other = other.within };
      within = same.within;
      top = omega (arith, is.top, tops, same.top);
      value = λ cell. same.value cell ∙ (is.value cell ∙ sym (values cell));
    }

-- ---- the store

-- The oldest node of a list that is read from its end, and the nodes after one is added.
reversed_push : (items new : List Node) (node : Node) → new ≡ items ++ node ∷ [] → reverse new ≡ node ∷ reverse items
reversed_push items new node e = ap (λ (ns : List Node). reverse ns) e ∙ reverse-append items (node ∷ [])

pub node_read : (nodes items : List Node) (number : ℕ) (node : Node) → reverse items ≡ nodes → AreNodes (reverse items) → number < length nodes → node ≡ get_or items number node
    → HasNode nodes number node
node_read nodes items number node view are lt e =
    let count : length (reverse items) ≡ length items = length-reverse items in
    let within : number < length (reverse items) = subst (λ (ns : List Node). number < length ns) (sym view) lt in
    let place : length items - 1 - (length (reverse items) - 1 - number) ≡ number = omega (arith, count) in
    let below : length (reverse items) - 1 - number < length items = omega (arith, count) in
    let read : node ≡ get_or (reverse items) (length (reverse items) - 1 - number) node =
    e ∙ (ap (λ n. get_or items n node) (sym place) ∙ sym (get_or-reverse items (length (reverse items) - 1 - number) node below)) in
    subst (λ (ns : List Node). HasNode ns number node) view (has_node (reverse items) number node are within read)

pub store_kept : (old new : List Node) (places other : List ℕ) (steps : List Step) → Keeps old new → AreNodes new → length other ≡ length places → IsStore old places steps
    → IsStore new other steps
store_kept old new places other steps keeps are e store = record {
  nodes_are = are;
  places_are = e ∙ store.places_are;
  steps_are = store.steps_are;
  answers = All-weaker (λ (step : Step). IsAnswer old step.asked step.answer) (λ (step : Step). IsAnswer new step.asked step.answer)
      (λ step is. answer_kept old new step.asked step.answer keeps is) steps store.answers;
}

pub push_store : (items new : List Node) (places : List ℕ) (steps : List Step) (node : Node) (place number : ℕ) → new ≡ items ++ node ∷ [] → IsNode (reverse items) node
    → IsStore (reverse items) places steps → IsStore (reverse new) (slice_set places place number) steps
push_store items new places steps node place number e is store =
    let at = reversed_push items new node e in
    subst (λ (ns : List Node). IsStore ns (slice_set places place number) steps) (sym at)
    (store_kept (reverse items) (node ∷ reverse items) places (slice_set places place number) steps (keeps_push node (reverse items)) (is, store.nodes_are)
    (length-set places place number) store)

pub push_keeps : (items new : List Node) (node : Node) → new ≡ items ++ node ∷ [] → Keeps (reverse items) (reverse new)
push_keeps items new node e =
    subst (λ (ns : List Node). Keeps (reverse items) ns) (sym (reversed_push items new node e)) (keeps_push node (reverse items))

pub push_made : (items new : List Node) (node : Node) (number : ℕ) → new ≡ items ++ node ∷ [] → IsNode (reverse items) node → number ≡ length items
    → DecidesByBit (reverse new) node.bit node.low node.high (Inner number)
push_made items new node number e is count =
    let last : number ≡ length (reverse items) = count ∙ sym (length-reverse items) in
    let lt : number < suc (length (reverse items)) = omega (arith, last) in
    subst (λ (ns : List Node). DecidesByBit ns node.bit node.low node.high (Inner number)) (sym (reversed_push items new node e))
    (made_by (node ∷ reverse items) number node lt (has_newest node (reverse items) number is last))

pub remember_store : (nodes : List Node) (places : List ℕ) (steps : List Step) (asked : Asked) (answer : Diagram) (place : ℕ) → IsAnswer nodes asked answer → IsStore nodes places steps
    → IsStore nodes places (slice_set steps place (record { asked = asked; answer = answer }))
remember_store nodes places steps asked answer place is store = record {
  nodes_are = store.nodes_are;
  places_are = store.places_are;
  steps_are = length-set steps place (record { asked = asked; answer = answer }) ∙ store.steps_are;
  answers = All-set (λ (step : Step). IsAnswer nodes step.asked step.answer) steps place (record { asked = asked; answer = answer }) is store.answers;
}
