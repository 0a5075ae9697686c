-- The value of lines on a packet.
use Rattle.std.specs.Prelude.{ℕ, zero, suc, if◌then◌else◌, List, [], ◌∷◌}
use Rattle.rules_code.specs.PlainTests.{holds}
use Rattle.rules_code.specs.declared.lines.Line.{Line}
use Rattle.rules_code.specs.declared.lines.Line.TheVariants.{Rule, Block, End}

-- The value of lines on a packet, after this many blocks whose test doesn't hold were entered and not yet left. A rule whose test holds
-- gives its value. Where the test of a block doesn't hold, its lines up to its end are passed over. If no rule gives a value, it is
-- `otherwise`.
abbrev pub value_from : List Line → ℕ → ℕ → List ℕ → ℕ
value_from [] skipped otherwise packet = otherwise
value_from (Rule test value ∷ rest) zero otherwise packet =
    if holds test packet then value else value_from rest zero otherwise packet
value_from (Block test ∷ rest) zero otherwise packet =
    if holds test packet then value_from rest zero otherwise packet else value_from rest 1 otherwise packet
value_from (End ∷ rest) zero otherwise packet = value_from rest zero otherwise packet
value_from (Rule test value ∷ rest) (suc skipped) otherwise packet = value_from rest (suc skipped) otherwise packet
value_from (Block test ∷ rest) (suc skipped) otherwise packet = value_from rest (suc (suc skipped)) otherwise packet
value_from (End ∷ rest) (suc skipped) otherwise packet = value_from rest skipped otherwise packet

-- The value of lines on a packet.
abbrev pub value_of_lines : List Line → ℕ → List ℕ → ℕ
value_of_lines lines otherwise packet = value_from lines 0 otherwise packet
