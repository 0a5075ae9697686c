-- A machine that answers each line with whether an even number of lines came before it. Its world is the list of all
-- lines so far; it stores only one bit of it.
use Rattle.std.specs.Prelude.{◌≡◌, ℕ, Bool, true, false, not, List, [], ◌∷◌, codes, Option, Some}
use Rattle.text_io.specs.Printing.{Rules, IsTotal}
use Rattle.text_io.specs.declared.ending.Done.{Done}
use Rattle.text_io.specs.declared.ending.Done.TheVariants.{Whole}
use Rattle.std.proofs.Common.{refl}

-- The lines so far, the latest first.
abbrev pub Lines : Type 0
Lines = List (List ℕ)

-- Whether their number is even.
abbrev pub is_even : Lines → Bool
is_even [] = true
is_even (line ∷ lines) = not (is_even lines)

abbrev pub answer_of : Bool → List ℕ
answer_of true = codes "even\n"
answer_of false = codes "odd\n"

abbrev pub ParitySteps : Lines → List ℕ → List ℕ → Option Lines → Type 0
ParitySteps lines line here next = (here ≡ answer_of (is_even lines)) × (next ≡ Some (line ∷ lines))

abbrev pub ParityCloses : Lines → List ℕ → Done → Type 0
ParityCloses lines here done = (here ≡ []) × (done ≡ Whole)

abbrev pub AnyLines : Lines → Type 0
AnyLines lines = Unit {0}

abbrev pub parity_rules : Rules Lines
parity_rules = record { steps = ParitySteps; closes = ParityCloses; too_long = codes "too long\n"; is_sound = AnyLines }

pub parity-total : IsTotal parity_rules
parity-total = record {
  keeps = λ before line here after sound steps. tt;
  step = λ before line sound. (answer_of (is_even before), Some (line ∷ before), (refl, refl));
  close = λ before sound. ([], Whole, (refl, refl));
}
