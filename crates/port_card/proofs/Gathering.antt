-- Sums of lists that grow at their end.
use Rattle.std.proofs.Common.{◌≡◌, ℕ, ◌+◌, ◌<◌, Option, Some, None, List, [], ◌∷◌, ◌++◌, length, take, drop, map, get_or, refl, sym, ap, subst, ◌∙◌, arith}
use Rattle.std.specs.Prelude.{slice_get}
use Rattle.std.proofs.lemmas.List.{map-append, take_more, take-append-drop}
use Rattle.line_record.specs.declared.tally.Tally.{Tally}
use Rattle.line_record.specs.Tally.{nothing, plus, total, FitsWords, IsPartTally}
use Rattle.line_record.proofs.Public.{totals_join, parts_are_within}
use Rattle.port_card.specs.Seats.{tally_or_nothing}
use Rattle.port_card.specs.inner.Columns.{column_on, columns_on, columns_total}

add_nothing : (n : ℕ) → n + 0 ≡ n
add_nothing n = omega arith

plus-nothing : (tally : Tally) → plus tally nothing ≡ tally
plus-nothing tally = λ i. record {
  passed = add_nothing tally.passed i;
  tagged = add_nothing tally.tagged i;
  discarded = add_nothing tally.discarded i;
  refused = add_nothing tally.refused i;
}

-- The sum of a list with one more element.
module _ {X : Type 0} where
  pub total-push : (f : X → Tally) (xs : List X) (x : X) → total (map f (xs ++ x ∷ [])) ≡ plus (total (map f xs)) (f x)
  total-push f xs x = ap total (map-append f xs (x ∷ [])) ∙ totals_join (map f xs) (f x ∷ [])
      ∙ ap (plus (total (map f xs))) (plus-nothing (f x))

  -- One more element of a prefix.
  pub total-more : (f : X → Tally) (xs : List X) (k : ℕ) (d : X) → k < length xs
      → total (map f (take (k + 1) xs)) ≡ plus (total (map f (take k xs))) (f (get_or xs k d))
  total-more f xs k d within = ap (λ (ys : List X). total (map f ys)) (take_more xs k d within) ∙ total-push f (take k xs) (get_or xs k d)

  -- The sum of a prefix is part of the whole.
  pub IsPart-take : (f : X → Tally) (xs : List X) (k : ℕ) → IsPartTally (total (map f (take k xs))) (total (map f xs))
  IsPart-take f xs k =
      let front = map f (take k xs) in
      let back = map f (drop k xs) in
      let whole : total (map f xs) ≡ plus (total front) (total back) =
      ap (λ (ys : List X). total (map f ys)) (sym (take-append-drop k xs)) ∙ ap total (map-append f (take k xs) (drop k xs))
      ∙ totals_join front back in
      subst (λ (t : Tally). IsPartTally (total front) t) (sym whole) (parts_are_within.plus (total front) (total back)).0

pub FitsWords-part : (part whole : Tally) → IsPartTally part whole → FitsWords whole → FitsWords part
FitsWords-part part whole within fits = record {
  passed = omega (arith, within.passed, fits.passed);
  tagged = omega (arith, within.tagged, fits.tagged);
  discarded = omega (arith, within.discarded, fits.discarded);
  refused = omega (arith, within.refused, fits.refused);
}

IsPart-plus : (one other more another : Tally) → IsPartTally one more → IsPartTally other another → IsPartTally (plus one other) (plus more another)
IsPart-plus one other more another first second = record {
  passed = omega (arith, first.passed, second.passed);
  tagged = omega (arith, first.tagged, second.tagged);
  discarded = omega (arith, first.discarded, second.discarded);
  refused = omega (arith, first.refused, second.refused);
}

-- One line of a seat is part of all its lines, also over several seats.
IsPart-nothing : (tally : Tally) → IsPartTally nothing tally
IsPart-nothing tally = record {
  passed = omega arith;
  tagged = omega arith;
  discarded = omega arith;
  refused = omega arith;
}

IsPart-on_by : (found : Option Tally) (column : List Tally) (line : ℕ) → slice_get column line ≡ found
    → IsPartTally (tally_or_nothing found) (total column)
IsPart-on_by None column line at = IsPart-nothing (total column)
IsPart-on_by (Some tally) column line at = parts_are_within.total column line tally at

pub IsPart-columns_on : (columns : List (List Tally)) (line : ℕ) → IsPartTally (columns_on columns line) (columns_total columns)
IsPart-columns_on [] line = IsPart-nothing nothing
IsPart-columns_on (column ∷ later) line =
    IsPart-plus (column_on line column) (columns_on later line) (total column) (columns_total later)
    (IsPart-on_by (slice_get column line) column line refl) (IsPart-columns_on later line)

pub IsPart-trans : (part whole larger : Tally) → IsPartTally part whole → IsPartTally whole larger → IsPartTally part larger
IsPart-trans part whole larger first second = record {
  passed = omega (arith, first.passed, second.passed);
  tagged = omega (arith, first.tagged, second.tagged);
  discarded = omega (arith, first.discarded, second.discarded);
  refused = omega (arith, first.refused, second.refused);
}
