-- The line that opens a card: its size, the side of its cells, and what its connections are.
use Rattle.std.specs.Prelude.{ℕ, if◌then◌else◌, List, [], ◌∷◌, codes, Option, Some, None, option_map}
use Rattle.std.specs.Option.{option_and_then}
use Rattle.std.specs.Str.{bytes_eq}
use Rattle.upc_cell.specs.declared.side.Side.{Side}
use Rattle.upc_cell.specs.declared.side.Side.TheVariants.{Uni, Nni, UniPaths, NniPaths}
use Rattle.card_core.specs.declared.shape.Shape.{Shape}
use Rattle.text_script.specs.ScriptWords.{with_both, number_of_digits}

-- The interface that a word names.
abbrev pub side_of : List ℕ → Option Side
side_of word =
    if bytes_eq word (codes "uni") then Some Uni
    else if bytes_eq word (codes "nni") then Some Nni
    else None

-- This side where connections are virtual paths.
abbrev pub with_paths : Side → Side
with_paths Uni = UniPaths
with_paths Nni = NniPaths
with_paths UniPaths = UniPaths
with_paths NniPaths = NniPaths

-- The side of the words after the numbers of a card: an interface, or the user network interface if there is none. With
-- `paths` after it connections are virtual paths, and otherwise virtual channels.
abbrev pub side_of_words : List (List ℕ) → Option Side
side_of_words [] = Some Uni
side_of_words (side ∷ []) = side_of side
side_of_words (side ∷ paths ∷ []) = if bytes_eq paths (codes "paths") then option_map with_paths (side_of side) else None
side_of_words _ = None

-- Two numbers, from one word each.
abbrev pub two_numbers : List ℕ → List ℕ → Option (ℕ × ℕ)
two_numbers word other = with_both (λ one another. (one, another)) (number_of_digits word) (number_of_digits other)

-- The shape with these numbers and this side.
abbrev pub shape_with : Side → ℕ × ℕ → ℕ × ℕ → Shape
shape_with side sizes ports = record {
  programs = sizes.0;
  lines = sizes.1;
  ports = ports.0;
  journal = ports.1;
  side = side;
}

-- The shape of four words and a side.
abbrev pub sized_shape : List ℕ → List ℕ → List ℕ → List ℕ → Side → Option Shape
sized_shape programs lines ports journal side =
    with_both (shape_with side) (two_numbers programs lines) (two_numbers ports journal)

-- The shape of the words after `card`: four numbers, and those of the side.
abbrev pub shape_of : List (List ℕ) → Option Shape
shape_of (programs ∷ lines ∷ ports ∷ journal ∷ words) =
    option_and_then (sized_shape programs lines ports journal) (side_of_words words)
shape_of _ = None

-- `card PROGRAMS LINES PORTS JOURNAL`, perhaps followed by a side, and that perhaps by `paths`.
abbrev pub card_line_shape : List (List ℕ) → Option Shape
card_line_shape [] = None
card_line_shape (name ∷ words) = if bytes_eq name (codes "card") then shape_of words else None
