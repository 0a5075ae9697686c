-- The first line of a text, as the code cuts it off.
use Rattle.std.specs.Prelude.{◌≡◌, ℕ, List, ◌∷◌, length}
use Rattle.text_io.specs.Lines.{Line, line_content, line_with_feed, lines_of}

-- The text begins with a line that has this content, this number of octets and, with its line feed, these octets. The rest follows.
pub record BeginsWithLine (text content : List ℕ) (size : ℕ) (whole rest : List ℕ) : Type 0 where
  pub line : Line
  pub lines : lines_of text ≡ line ∷ lines_of rest
  pub says : content ≡ line_content line
  pub counted : size ≡ length line.octets
  pub octets : whole ≡ line_with_feed line
