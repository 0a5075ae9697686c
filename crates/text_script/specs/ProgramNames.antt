-- The names of a script's programs: `p1` is the first program that was loaded, `p2` the next. Here `names` is the list of
-- their ids, in this order.
use Rattle.std.specs.Prelude.{ℕ, zero, suc, if◌then◌else◌, List, [], ◌∷◌, Option, None, slice_get}
use Rattle.gen_arena.specs.SameId.{is_same_id}
use Rattle.gen_arena.specs.declared.id.Id.{Id}

-- The program with this number, from 1, if there is one.
abbrev pub program_named : List Id → ℕ → Option Id
program_named names zero = None
program_named names (suc before) = slice_get names before

-- The number of the last place in the list that has this id, where the first place has the number `next`. Without such a
-- place it is `found`.
abbrev pub latest_number : Id → ℕ → ℕ → List Id → ℕ
latest_number id found next [] = found
latest_number id found next (here ∷ later) =
    latest_number id (if is_same_id id here then next else found) (suc next) later

-- The number in a program's name, or 0 if it has no name.
abbrev pub number_of_program : List Id → Id → ℕ
number_of_program names id = latest_number id 0 1 names
