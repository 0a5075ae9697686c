-- The number that some bits of a cell are.
use Rattle.std.specs.Prelude.{◌≡◌, ◌≤◌, ℕ, ◌+◌, ◌-◌, ◌/◌, ◌%◌, ◌^◌, ◌&&◌, nat_le, nat_lt, bit_and, Bool, if◌then◌else◌, List}
use Rattle.rules_diagrams.specs.inner.Values.{diagram_value, top_of, IsWithin}
use Rattle.rules_diagrams.specs.declared.diagram.Diagram.{Diagram}
use Rattle.rules_diagrams.specs.declared.diagram.Node.{Node}
use Rattle.rules_diagrams.specs.declared.span.Bits.{Bits}
use Rattle.rules_diagrams.specs.declared.span.Interval.{Interval}

-- The number that `width` bits of a cell are, from the bit `bit` on, the first highest.
unfoldable pub bits_number : ℕ → ℕ → ℕ → ℕ
bits_number cell bit width = cell / 2 ^ (416 - (bit + width)) % 2 ^ width

-- Whether a number is at least the first and less than the second.
abbrev pub is_between : ℕ → ℕ → ℕ → Bool
is_between low end number = nat_le low number && nat_lt number end

-- 1 for true, and 0 for false.
abbrev pub truth : Bool → ℕ
truth b = if b then 1 else 0

-- The diagram gives 1 to the cells in which the bits that the mask keeps are a number in the reach, 0 to all others.
pub record IsSpan (nodes : List Node) (bits : Bits) (mask : ℕ) (reach : Interval) (diagram : Diagram) : Type 0 where
  pub within : IsWithin nodes diagram
  pub top : bits.bit ≤ top_of nodes diagram
  pub value : (cell : ℕ) → diagram_value nodes diagram cell ≡ truth (is_between reach.low reach.end (bit_and (bits_number cell bits.bit bits.width) mask))
