-- Comment lines of a source of assembly.
use Rattle.std.specs.Prelude.{◌≡◌, ◌⊎◌, ℕ, ◌==◌, Bool, true, false, List, [], ◌∷◌}
use Rattle.bpf_asm.specs.Meaning.{IsMeaning}
use Rattle.bpf_asm.specs.SourceLines.{source_lines}
use Rattle.bpf_code.specs.declared.instr.Instr.{Instr}

-- The line is a comment and nothing more: its first octet is `;` (59).
abbrev pub is_comment : List ℕ → Bool
is_comment [] = false
is_comment (octet ∷ rest) = octet == 59

-- The second lines are the first, with comment lines before, between and after them.
abbrev pub AddsComments : List (List ℕ) → List (List ℕ) → Type 0
AddsComments lines [] = lines ≡ []
AddsComments lines (line ∷ more) =
    ((is_comment line ≡ true) × AddsComments lines more)
    ⊎ ((rest : List (List ℕ)) × (lines ≡ line ∷ rest) × AddsComments rest more)

-- A source means the same code with comment lines added.
abbrev pub CommentLinesMeanNothing : Type 0
CommentLinesMeanNothing =
    (source other : List ℕ) (code : List Instr) → AddsComments (source_lines source) (source_lines other) → IsMeaning source code → IsMeaning other code
