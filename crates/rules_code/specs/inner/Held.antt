-- What is known of A at each line.
use Rattle.std.specs.Prelude.{ℕ, zero, suc, List, [], ◌∷◌, Option}
use Rattle.rules_code.specs.LineCode.{known_after_line}
use Rattle.rules_code.specs.declared.lines.Line.{Line}
use Rattle.rules_code.specs.declared.packet_part.Part.{Part}

-- What is known of A at the line of this number, counted from 0.
unfoldable pub held_at : List Line → Option Part → ℕ → Option Part
held_at lines held zero = held
held_at [] held (suc at) = held
held_at (line ∷ lines) held (suc at) = held_at lines (known_after_line line held) at
