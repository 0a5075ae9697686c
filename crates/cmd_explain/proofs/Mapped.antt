-- The value for a word in a table whose values are made of those of another.
use Rattle.std.proofs.Common.{◌≡◌, ◌∙◌, ap, refl, ℕ, Bool, true, false, List, [], ◌∷◌, map, option_map, Option, Some, if◌then◌else◌}
use Rattle.std.specs.Str.{bytes_eq}
use Rattle.cmd_explain_script.specs.Tables.{value_among}

module _ {R A B : Type 0} (word_of : R → List ℕ) (value_of : R → A) (made : A → B) where
  map_chosen : (b : Bool) (value : A) (other : Option A) → option_map made (if b then Some value else other) ≡ (if b then Some (made value) else option_map made other)
  map_chosen true value other = refl
  map_chosen false value other = refl

  pub value_mapped : (word : List ℕ) (rows : List R) → option_map made (value_among word (map (λ row. (word_of row, value_of row)) rows))
      ≡ value_among word (map (λ row. (word_of row, made (value_of row))) rows)
  value_mapped word [] = refl
  value_mapped word (row ∷ rows) =
      map_chosen (bytes_eq word (word_of row)) (value_of row) (value_among word (map (λ row. (word_of row, value_of row)) rows))
      ∙ ap (λ (other : Option B). if bytes_eq word (word_of row) then Some (made (value_of row)) else other) (value_mapped word rows)
