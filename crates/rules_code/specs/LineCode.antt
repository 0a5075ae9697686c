-- The code of lines.
use Rattle.std.specs.Prelude.{ℕ, suc, ◌-◌, ◌==◌, if◌then◌else◌, List, [], ◌∷◌, length, Option, None}
use Rattle.bpf_code.specs.declared.instr.Instr.{Instr}
use Rattle.bpf_code.specs.declared.instr.Instr.TheVariants.{Jump, RetK}
use Rattle.rules_code.specs.Labels.{Tested}
use Rattle.rules_code.specs.TestCode.{known_after, test_code}
use Rattle.rules_code.specs.declared.lines.Line.{Line}
use Rattle.rules_code.specs.declared.lines.Line.TheVariants.{Rule, Block, End}
use Rattle.rules_code.specs.declared.packet_part.Part.{Part}

-- What is known of A at the line after this one, if it is reached from this one.
abbrev pub known_after_line : Line → Option Part → Option Part
known_after_line (Rule test value) held = (known_after test held).unmet
known_after_line (Block test) held = (known_after test held).met
known_after_line End held = None

-- A code, the label where lines begin in it, and the labels after the ends of blocks whose heads aren't among those lines. The label after
-- the first end is first.
pub record Coded : Type 0 where
  pub code : List Instr
  pub entry : ℕ
  pub after : List ℕ

-- The label after the first end. The last return has the label 1: it follows where no end does.
abbrev pub first_after : List ℕ → ℕ
first_after [] = 1
first_after (label ∷ more) = label

-- The labels after the other ends.
abbrev pub later_after : List ℕ → List ℕ
later_after [] = []
later_after (label ∷ more) = more

-- A line's test in front of the code of the lines after it.
abbrev pub with_test : Tested → List ℕ → Coded
with_test t after = record { code = t.code; entry = t.ways.entry; after = after }

-- The code of a line in front of that of the lines after it.
unfoldable pub line_code : Line → Option Part → Coded → Coded
line_code (Rule test value) held rest =
    with_test (test_code test held (RetK value ∷ rest.code) (suc (length rest.code)) rest.entry) rest.after
line_code (Block test) held rest =
    with_test (test_code test held rest.code rest.entry (first_after rest.after)) (later_after rest.after)
line_code End held rest = record { code = rest.code; entry = rest.entry; after = rest.entry ∷ rest.after }

-- The code of lines, where A holds this at the first if anything is known of it.
unfoldable pub lines_coded : List Line → Option Part → ℕ → Coded
lines_coded [] held otherwise = record { code = RetK otherwise ∷ []; entry = 1; after = [] }
lines_coded (line ∷ lines) held otherwise = line_code line held (lines_coded lines (known_after_line line held) otherwise)

-- The code from its first instruction on: a jump to the place where it begins is put in front, if that isn't its front.
abbrev pub with_entry_jump : Coded → List Instr
with_entry_jump coded = if coded.entry == length coded.code then coded.code else Jump (length coded.code - coded.entry) ∷ coded.code

-- The code of lines.
unfoldable pub lines_code : List Line → ℕ → List Instr
lines_code lines otherwise = with_entry_jump (lines_coded lines None otherwise)
