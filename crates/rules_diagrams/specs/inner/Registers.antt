-- The registers.
use Rattle.std.specs.Prelude.{ℕ, List}
use Rattle.bpf_interp.specs.State.{State, At}
use Rattle.rules_diagrams.specs.declared.contents.Contents.{Contents}
use Rattle.rules_diagrams.specs.declared.contents.Register.{Register}
use Rattle.rules_diagrams.specs.declared.contents.Register.TheVariants.{A, X}
use Rattle.rules_diagrams.specs.declared.word.Bit.{Bit}

-- The contents with these bits in the register.
abbrev pub contents_with : Register → Contents → List Bit → Contents
contents_with A contents bits = record contents { a = bits }
contents_with X contents bits = record contents { x = bits }

-- The state at a place where the register has this number, and all else is as it was.
abbrev pub at_with : Register → ℕ → ℕ → ℕ → ℕ → List (ℕ × ℕ) → State
at_with A place number a x m = At place number x m
at_with X place number a x m = At place a number m
