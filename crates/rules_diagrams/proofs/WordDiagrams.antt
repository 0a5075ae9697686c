-- Diagrams of tests, bit by bit.
use Rattle.std.proofs.Common.{◌≡◌, ℕ, ◌/◌, ◌%◌, ◌-◌, ◌<◌, ◌==◌, length, get_or, drop, take, Bool, true, false, List, [], ◌∷◌, sym, ap, subst, ◌∙◌, arith}
use Rattle.bpf_code.specs.declared.instr.Test.{Test}
use Rattle.bpf_interp.specs.Tests.{test_of}
use Rattle.rules_diagrams.specs.inner.Choices.{chosen, IsChoice}
use Rattle.rules_diagrams.specs.inner.Spans.{truth}
use Rattle.rules_diagrams.specs.inner.Values.{diagram_value, Keeps}
use Rattle.rules_diagrams.specs.inner.Words.{bit_in, word_number, test_bits}
use Rattle.rules_diagrams.specs.inner.WordTests.{IsStepped, IsTestedAfter, GivesTruth, test_of_none}
use Rattle.rules_diagrams.specs.declared.diagram.Diagram.{Diagram}
use Rattle.rules_diagrams.specs.declared.diagram.Node.{Node}
use Rattle.rules_diagrams.specs.declared.word.Bit.{Bit}
use Rattle.rules_diagrams.proofs.WordSteps.{slice_parts, test_more, test_whole}

-- What is shown is shown by the nodes that are kept.
pub shown_kept : (old new : List Node) (test : ℕ → Bool) (diagram : Diagram) → Keeps old new → GivesTruth old test diagram → GivesTruth new test diagram
shown_kept old new test diagram keeps is =
    let same = keeps.same diagram is.within in
    record { within = same.within; value = λ cell. same.value cell ∙ is.value cell }

picked : (test : Test) (other lower : Bool) (b : Bool) (one none : ℕ) → one ≡ truth (test_bits test true other lower) → none ≡ truth (test_bits test false other lower)
    → chosen (truth b) one none ≡ truth (test_bits test b other lower)
picked test other lower true one none p q = p
picked test other lower false one none p q = q

abbrev GivesBits : Test → Bool → Bool → Diagram → Diagram → Type 0
GivesBits test first other lower made = (nodes : List Node) (cell : ℕ) (before : Bool) → diagram_value nodes lower cell ≡ truth before → diagram_value nodes made cell ≡ truth (test_bits test first other before)

pub stepped_shows : (old middle new : List Node) (test : Test) (bit : Bit) (other : Bool) (lower first one none made : Diagram) → Keeps old middle → Keeps middle new
    → GivesTruth middle (bit_in bit) first → GivesBits test true other lower one → GivesBits test false other lower none → IsChoice new first one none made
    → IsStepped old new test bit other lower made
stepped_shows old middle new test bit other lower first one none made kept also shows set clear choice = λ before shown.
    let below = shown_kept middle new before lower also (shown_kept old middle before lower kept shown) in
    let above = shown_kept middle new (bit_in bit) first also shows in
    record {
      within = choice.within;
      value = λ cell.
          choice.value cell
          ∙ (ap (λ n. chosen n (diagram_value new one cell) (diagram_value new none cell)) (above.value cell)
          ∙ picked test other (before cell) (bit_in bit cell) (diagram_value new one cell) (diagram_value new none cell) (set new cell (before cell) (below.value cell)) (clear new cell (before cell) (below.value cell)));
    }

pub tested_more : (old middle new : List Node) (test : Test) (bit : Bit) (more : List Bit) (k : ℕ) (lower one made : Diagram)
    → IsStepped old middle test bit (k % 2 == 1) lower one → IsTestedAfter middle new test more (k / 2) one made → IsTestedAfter old new test (bit ∷ more) k lower made
tested_more old middle new test bit more k lower one made stepped after = λ before shown.
    let above = after (λ cell. test_bits test (bit_in bit cell) (k % 2 == 1) (before cell)) (stepped before shown) in
    record { within = above.within; value = λ cell. above.value cell ∙ ap truth (sym (test_more test (bit_in bit cell) (before cell) (word_number more cell) k)) }

pub tested_whole : (old new : List Node) (test : Test) (bits : List Bit) (k : ℕ) (lower made : Diagram)
    → GivesTruth old (λ _. test_of_none test) lower → IsTestedAfter old new test bits k lower made → GivesTruth new (λ cell. test_of test (word_number bits cell) k) made
tested_whole old new test bits k lower made first after =
    let above = after (λ _. test_of_none test) first in
    record { within = above.within; value = λ cell. above.value cell ∙ ap truth (test_whole test (word_number bits cell) k) }

-- The test of bits of which there is a first.
pub tested_slice : (old new : List Node) (test : Test) (bits : List Bit) (first : Bit) (k : ℕ) (lower made : Diagram) → 0 < length bits
    → IsTestedAfter old new test (get_or bits 0 first ∷ take (length bits - 1) (drop 1 bits)) k lower made → IsTestedAfter old new test bits k lower made
tested_slice old new test bits first k lower made some is =
    subst (λ (all : List Bit). IsTestedAfter old new test all k lower made) (sym (slice_parts bits first some)) is

pub tested_none : (old new : List Node) (test : Test) (bits : List Bit) (k : ℕ) (lower made : Diagram) → length bits < 1
    → IsTestedAfter old new test [] k lower made → IsTestedAfter old new test bits k lower made
tested_none old new test [] k lower made none is = is
tested_none old new test (bit ∷ more) k lower made none is = absurd (omega (arith, none))
