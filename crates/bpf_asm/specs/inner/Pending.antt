-- A label that no instruction follows yet.
use Rattle.std.specs.Prelude.{ℕ, ◌<◌, List, Option, MatchOption, length}
use Rattle.bpf_asm.specs.Grammar.{SourceLine}
use Rattle.bpf_asm.specs.Labels.{IsDangling}

-- The first of these lines with such a label, or None if there is none.
abbrev pub IsPending : List SourceLine → Option ℕ → Type 0
IsPending lines pending =
    MatchOption pending ((at : ℕ) → ¬ IsDangling lines at)
    (λ at. (at < length lines) × IsDangling lines at × ((earlier : ℕ) → earlier < at → ¬ IsDangling lines earlier))
