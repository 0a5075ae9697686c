-- The ledgers that count the cells of a card.
use Rattle.std.specs.Prelude.{◌≡◌, ℕ}
use Rattle.card_core.specs.declared.shape.Shape.{Shape}

-- Each verdict has two ledgers. One is divided among the lines: the share behind a line's lock has the amount that
-- the line counted. The other is divided among the seats in the same way. The record has the number of lines, the
-- number of seats, and the names of the eight ledgers.
pub record Names : Type 0 where
  pub lines : ℕ
  pub ports : ℕ
  pub passed_on_lines : ℕ
  pub passed_at_seats : ℕ
  pub tagged_on_lines : ℕ
  pub tagged_at_seats : ℕ
  pub discarded_on_lines : ℕ
  pub discarded_at_seats : ℕ
  pub refused_on_lines : ℕ
  pub refused_at_seats : ℕ

-- Default names, for a type that has no others.
abbrev pub no_names : Names
no_names = record {
  lines = 0;
  ports = 0;
  passed_on_lines = 0;
  passed_at_seats = 0;
  tagged_on_lines = 0;
  tagged_at_seats = 0;
  discarded_on_lines = 0;
  discarded_at_seats = 0;
  refused_on_lines = 0;
  refused_at_seats = 0;
}

-- The ledgers fit a card of this shape: one has a share for each line, the other a share for each port.
pub record AreFor (shape : Shape) (names : Names) : Type 0 where
  pub lines : names.lines ≡ shape.lines
  pub ports : names.ports ≡ shape.ports
