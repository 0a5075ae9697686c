-- The contents when a program begins.
use Rattle.std.proofs.Common.{◌≡◌, ℕ, zero, suc, ◌+◌, ◌*◌, List, [], replicate, slice_get, Option, Some, None, refl, ap}
use Rattle.bpf_code.specs.declared.instr.Instr.{Instr}
use Rattle.rules_diagrams.specs.CellNumbers.{octets_number}
use Rattle.rules_diagrams.specs.inner.Following.{AreContents, IsTold}
use Rattle.rules_diagrams.specs.inner.Programs.{GivesValue}
use Rattle.rules_diagrams.specs.inner.Words.{word_number}
use Rattle.rules_diagrams.specs.declared.contents.Contents.{Contents}
use Rattle.rules_diagrams.specs.declared.diagram.Diagram.{Diagram}
use Rattle.rules_diagrams.specs.declared.diagram.Node.{Node}
use Rattle.rules_diagrams.specs.declared.word.Bit.{Bit}
use Rattle.rules_diagrams.specs.declared.word.Bit.TheVariants.{Zero}
use Rattle.rules_diagrams.proofs.ProgramSteps.{telling}

abbrev pub first_contents : Contents
first_contents = record { a = replicate 32 Zero; x = replicate 32 Zero; scratch = replicate 16 None }

abbrev none_word : Option (List Bit)
none_word = None

no_bits : (n cell : ℕ) → word_number (replicate n Zero) cell ≡ 0
no_bits zero cell = refl
no_bits (suc n) cell = ap (λ v. 0 + 2 * v) (no_bits n cell)

none_known : (n index : ℕ) (word : List Bit) → slice_get (replicate n (none_word)) index ≡ Some (Some word) → ⊥
none_known zero index word e = absurd (cc)
none_known (suc n) zero word e = absurd (cc)
none_known (suc n) (suc index) word e = none_known n index word e

first_are : (cell : ℕ) → AreContents first_contents cell 0 0 []
first_are cell = record { a_is = no_bits 32 cell; x_is = no_bits 32 cell; scratch = λ index word e. absurd (none_known 16 index word e) }

pub value_given : (nodes : List Node) (code : List Instr) (diagram : Diagram) → IsTold nodes code (telling 0 first_contents diagram) → GivesValue nodes code diagram
value_given nodes code diagram told = record { within = told.within; value = λ cell there. told.ends cell there 0 0 [] (first_are (octets_number cell)) }
