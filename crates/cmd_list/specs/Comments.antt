-- Lines of a listing with comments.
use Rattle.std.specs.Prelude.{ℕ, List, ◌++◌, codes}
use Rattle.bpf_asm.specs.Listing.{listing_of}
use Rattle.bpf_asm.specs.SourceLines.{source_lines}
use Rattle.bpf_code.specs.declared.instr.Instr.{Instr}
use Rattle.text_words.specs.FaultLines.{line}

-- The lines of the listing of a code. The line of each instruction is at its place, from 0.
abbrev pub listed_lines : List Instr → List (List ℕ)
listed_lines code = source_lines (listing_of code)

-- The line of a listing, a comment and a line feed.
abbrev pub commented : List ℕ → List ℕ → List ℕ
commented listed comment = line (listed ++ codes " ; " ++ comment)
