-- The diagrams of the places of a program.
use Rattle.std.proofs.Common.{◌≡◌, ℕ, zero, suc, ◌<◌, Bool, true, false, if◌then◌else◌, List, [], ◌∷◌, length, slice_index_or, refl, sym, ap, subst, ◌∙◌, arith}
use Rattle.std.proofs.lemmas.List.Elements.{All-weaker, All-contains}
use Rattle.std.specs.List.{All, Contains}
use Rattle.bpf_code.specs.Flow.{IsInstrAt}
use Rattle.bpf_code.specs.declared.instr.Instr.{Instr}
use Rattle.bpf_code.specs.declared.instr.Test.{Test}
use Rattle.bpf_interp.specs.State.{At, Ended}
use Rattle.bpf_interp.specs.Step.{Does}
use Rattle.bpf_interp.specs.Tests.{test_of}
use Rattle.bpf_interp.specs.Value.{EndsIn}
use Rattle.rules_diagrams.specs.CellNumbers.{octets_number}
use Rattle.rules_diagrams.specs.inner.Choices.{chosen, IsChoice}
use Rattle.rules_diagrams.specs.inner.Following.{IsFollowed, IsTold}
use Rattle.rules_diagrams.specs.inner.Programs.{IsBranch}
use Rattle.rules_diagrams.specs.inner.Spans.{truth}
use Rattle.rules_diagrams.specs.inner.Values.{diagram_value, IsWithin, Keeps}
use Rattle.rules_diagrams.specs.inner.Words.{word_number}
use Rattle.rules_diagrams.specs.inner.WordTests.{GivesTruth}
use Rattle.rules_diagrams.specs.declared.contents.Contents.{Contents}
use Rattle.rules_diagrams.specs.declared.contents.Followed.{Followed}
use Rattle.rules_diagrams.specs.declared.contents.Followed.TheVariants.{Ends, Continues, Branches}
use Rattle.rules_diagrams.specs.declared.contents.DiagramAt.{DiagramAt}
use Rattle.rules_diagrams.specs.declared.diagram.Diagram.{Diagram}
use Rattle.rules_diagrams.specs.declared.diagram.Diagram.TheVariants.{Leaf}
use Rattle.rules_diagrams.specs.declared.diagram.Node.{Node}
use Rattle.rules_diagrams.specs.declared.word.Bit.{Bit}
use Rattle.rules_diagrams.proofs.WordDiagrams.{shown_kept}

-- What is told of a place, with these contents.
abbrev pub telling : ℕ → Contents → Diagram → DiagramAt
telling place contents diagram = record { place = place; contents = contents; diagram = diagram }

is_told_kept : (old new : List Node) (code : List Instr) → Keeps old new → (told : DiagramAt) → IsTold old code told → IsTold new code told
is_told_kept old new code keeps told is =
    let same = keeps.same told.diagram is.within in
    record {
      within = same.within;
      ends = λ cell there a x m are.
          let run = is.ends cell there a x m are in
          (run.0, subst (λ value. EndsIn code cell (At told.place a x m) value run.0) (sym (same.value (octets_number cell))) run.1);
    }

-- All that is told is told by the nodes that are kept.
pub told_kept : (old new : List Node) (code : List Instr) (told : List DiagramAt) → Keeps old new → All (IsTold old code) told → All (IsTold new code) told
told_kept old new code told keeps all = All-weaker (IsTold old code) (IsTold new code) (is_told_kept old new code keeps) told all

pub told_of : (nodes : List Node) (code : List Instr) (told : List DiagramAt) (place : ℕ) (contents : Contents) (diagram : Diagram) → All (IsTold nodes code) told
    → Contains told (telling place contents diagram) → IsTold nodes code (telling place contents diagram)
told_of nodes code told place contents diagram all there = All-contains (IsTold nodes code) told (telling place contents diagram) all there

pub ends_told : (nodes : List Node) (code : List Instr) (i : Instr) (place value : ℕ) (contents : Contents) → IsInstrAt code place i → IsFollowed i place contents (Ends value)
    → IsTold nodes code (telling place contents (Leaf value))
ends_told nodes code i place value contents at follows = record {
  within = tt;
  ends = λ cell there a x m are. (1, (Ended value, (i, at, follows cell there a x m are), refl));
}

pub continues_told : (nodes : List Node) (code : List Instr) (i : Instr) (place next : ℕ) (contents after : Contents) (diagram : Diagram) → IsInstrAt code place i
    → IsFollowed i place contents (Continues next after) → IsTold nodes code (telling next after diagram) → IsTold nodes code (telling place contents diagram)
continues_told nodes code i place next contents after diagram at follows told = record {
  within = told.within;
  ends = λ cell there a x m are.
      let leads = follows cell there a x m are in
      let run = told.ends cell there leads.new_a leads.new_x leads.new_m leads.contents in
      (suc run.0, (At next leads.new_a leads.new_x leads.new_m, (i, at, leads.does), run.1));
}

pub branches_told : (old new : List Node) (code : List Instr) (i : Instr) (place : ℕ) (test : Test) (k one other : ℕ) (contents : Contents) (first second made : Diagram) → IsInstrAt code place i
    → IsFollowed i place contents (Branches test k one other) → IsTold old code (telling one contents first) → IsTold old code (telling other contents second)
    → IsBranch old new test contents.a k first second made → IsTold new code (telling place contents made)
branches_told old new code i place test k one other contents first second made at follows told also branch = record {
  within = branch.within;
  ends = λ cell there a x m are.
      let number = octets_number cell in
      let chosen_by : diagram_value new made number ≡ (if test_of test a k then diagram_value old first number else diagram_value old second number) =
      branch.value number ∙ ap (λ n. if test_of test n k then diagram_value old first number else diagram_value old second number) are.a_is in
      let does = follows cell there a x m are in
      let cases : (b : Bool) → test_of test a k ≡ b → (steps : ℕ) × EndsIn code cell (At place a x m) (diagram_value new made number) steps = elim [
        | true ↦ λ e.
            let run = told.ends cell there a x m are in
            let value : diagram_value new made number ≡ diagram_value old first number =
            chosen_by ∙ ap (λ b. if b then diagram_value old first number else diagram_value old second number) e in
            let step : Does cell i place a x m (At one a x m) = subst (λ b. Does cell i place a x m (At (if b then one else other) a x m)) e does in
            (suc run.0, (At one a x m, (i, at, step), subst (λ v. EndsIn code cell (At one a x m) v run.0) (sym value) run.1))
        | false ↦ λ e.
            let run = also.ends cell there a x m are in
            let value : diagram_value new made number ≡ diagram_value old second number =
            chosen_by ∙ ap (λ b. if b then diagram_value old first number else diagram_value old second number) e in
            let step : Does cell i place a x m (At other a x m) = subst (λ b. Does cell i place a x m (At (if b then one else other) a x m)) e does in
            (suc run.0, (At other a x m, (i, at, step), subst (λ v. EndsIn code cell (At other a x m) v run.0) (sym value) run.1))
      ] in
      cases (test_of test a k) refl;
}

picked_by : (b : Bool) (one other : ℕ) → chosen (truth b) one other ≡ (if b then one else other)
picked_by true one other = refl
picked_by false one other = refl

pub branch_chosen : (old middle new : List Node) (test : Test) (bits : List Bit) (k : ℕ) (met one other made : Diagram) → Keeps old middle → Keeps middle new → IsWithin old one → IsWithin old other
    → GivesTruth middle (λ cell. test_of test (word_number bits cell) k) met → IsChoice new met one other made → IsBranch old new test bits k one other made
branch_chosen old middle new test bits k met one other made kept also within_one within_other shows choice =
    let shown = shown_kept middle new (λ cell. test_of test (word_number bits cell) k) met also shows in
    let first = kept.same one within_one in
    let second = kept.same other within_other in
    let first_also = also.same one first.within in
    let second_also = also.same other second.within in
    record {
      within = choice.within;
      value = λ cell.
          choice.value cell
          ∙ (ap (λ n. chosen n (diagram_value new one cell) (diagram_value new other cell)) (shown.value cell)
          ∙ (ap (λ n. chosen (truth (test_of test (word_number bits cell) k)) n (diagram_value new other cell)) (first_also.value cell ∙ first.value cell)
          ∙ (ap (λ n. chosen (truth (test_of test (word_number bits cell) k)) (diagram_value old one cell) n) (second_also.value cell ∙ second.value cell)
          ∙ picked_by (test_of test (word_number bits cell) k) (diagram_value old one cell) (diagram_value old other cell))));
    }

-- ---- instructions of a code

instr_here : (code : List Instr) (place : ℕ) (first : Instr) → place < length code → IsInstrAt code place (slice_index_or code place first)
instr_here [] place first lt = absurd (omega (arith, lt))
instr_here (i ∷ more) zero first lt = refl
instr_here (i ∷ more) (suc place) first lt = instr_here more place first (omega (arith, lt))

pub ends_at : (nodes : List Node) (code : List Instr) (first : Instr) (place value : ℕ) (contents : Contents) (followed : Followed) → place < length code → followed ≡ Ends value
    → IsFollowed (slice_index_or code place first) place contents followed → IsTold nodes code (telling place contents (Leaf value))
ends_at nodes code first place value contents followed lt e follows =
    let i = slice_index_or code place first in
    ends_told nodes code i place value contents (instr_here code place first lt) (subst (λ (f : Followed). IsFollowed i place contents f) e follows)

pub continues_at : (nodes : List Node) (code : List Instr) (first : Instr) (told : List DiagramAt) (place next : ℕ) (contents after : Contents) (diagram : Diagram) (followed : Followed) → place < length code
    → followed ≡ Continues next after → IsFollowed (slice_index_or code place first) place contents followed → All (IsTold nodes code) told → Contains told (telling next after diagram)
    → IsTold nodes code (telling place contents diagram)
continues_at nodes code first told place next contents after diagram followed lt e follows all there =
    let i = slice_index_or code place first in
    continues_told nodes code i place next contents after diagram (instr_here code place first lt) (subst (λ (f : Followed). IsFollowed i place contents f) e follows)
    (told_of nodes code told next after diagram all there)

pub branches_at : (old new : List Node) (code : List Instr) (begin : Instr) (told : List DiagramAt) (place : ℕ) (test : Test) (k one other : ℕ) (contents : Contents) (first second made : Diagram) (followed : Followed)
    → place < length code → followed ≡ Branches test k one other → IsFollowed (slice_index_or code place begin) place contents followed → All (IsTold old code) told
    → Contains told (telling one contents first) → Contains told (telling other contents second) → IsBranch old new test contents.a k first second made → IsTold new code (telling place contents made)
branches_at old new code begin told place test k one other contents first second made followed lt e follows all there also branch =
    let i = slice_index_or code place begin in
    branches_told old new code i place test k one other contents first second made (instr_here code place begin lt) (subst (λ (f : Followed). IsFollowed i place contents f) e follows)
    (told_of old code told one contents first all there) (told_of old code told other contents second all also) branch
