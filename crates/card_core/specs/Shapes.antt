-- The shapes that a card may have.
use Rattle.std.specs.Prelude.{ℕ, ◌==◌, ◌≤◌, nat_lt, Bool, ◌||◌, if◌then◌else◌, Option, Some, None}
use Rattle.card_core.specs.declared.fault.CardFault.{CardFault}
use Rattle.card_core.specs.declared.fault.CardFault.TheVariants.{Programs, Lines, Ports, Journal}
use Rattle.card_core.specs.declared.shape.Shape.{Shape}

-- Whether the number is 0 or above this one.
abbrev pub is_beyond : ℕ → ℕ → Bool
is_beyond number most = (number == 0) || nat_lt most number

-- The first number of a shape that is out of its limits: 1 to 1024 programs, 1 to 4096 lines, 1 to 16 ports, journals
-- of 1 to 65536 entries.
abbrev pub shape_fault : Shape → Option CardFault
shape_fault shape =
    if is_beyond shape.programs 1024 then Some Programs
    else if is_beyond shape.lines 4096 then Some Lines
    else if is_beyond shape.ports 16 then Some Ports
    else if is_beyond shape.journal 65536 then Some Journal
    else None

-- Each number is within its limits.
pub record IsShape (shape : Shape) : Type 0 where
  pub some_programs : 1 ≤ shape.programs
  pub programs : shape.programs ≤ 1024
  pub some_lines : 1 ≤ shape.lines
  pub lines : shape.lines ≤ 4096
  pub some_ports : 1 ≤ shape.ports
  pub ports : shape.ports ≤ 16
  pub some_journal : 1 ≤ shape.journal
  pub journal : shape.journal ≤ 65536
