-- Ranges of lists, as the window uses them.
use Rattle.std.proofs.Common.{◌≡◌, ℕ, ◌+◌, ◌-◌, ◌≤◌, List, ◌++◌, length, take, drop, length-take, ap, sym, ◌∙◌, arith, append_assoc}
use Rattle.std.proofs.lemmas.List.{drop-take, drop-drop, take_rest, take-append-le}
use Rattle.std.proofs.Math.Seq.{take-append-add, take-add}
use Rattle.std.specs.List.{slice_range}

-- Dropping `count` elements of a range starts it `count` places later.
pub range-skip : (xs : List ℕ) (s count e : ℕ) → s + count ≤ e → slice_range xs (s + count) e ≡ drop count (slice_range xs s e)
range-skip xs s count e within =
    let parts : e - s ≡ count + (e - (s + count)) = omega arith in
    let later : drop (s + count) xs ≡ drop count (drop s xs) = sym (drop-drop count s xs) in
    ap (λ ys. take (e - (s + count)) ys) later
    ∙ sym (drop-take count (e - (s + count)) (drop s xs))
    ∙ ap (λ n. drop count (take n (drop s xs))) (sym parts)

-- Octets read into a room after the first n.
pub taken-after : (front room post before after : List ℕ) (n count : ℕ) → length front ≡ n → count ≤ length room
    → before ≡ take count room ++ after → front ++ before ≡ take (n + count) (front ++ (room ++ post)) ++ after
taken-after front room post before after n count sized fits came =
    let so_many : n ≡ length front = sym sized in
    rw so_many (rw (take-append-add front (room ++ post) count, take-append-le count room post fits, came) (sym (append_assoc front (take count room) after)))

-- The length of a range is at most the distance of its ends.
pub length-range : (xs : List ℕ) (s e : ℕ) → length (slice_range xs s e) ≤ e - s
length-range xs s e = omega (arith, length-take (e - s) (drop s xs))

-- The output after `count` more octets are written.
pub given-more : (xs start before after : List ℕ) (given count : ℕ) → before ≡ start ++ take given xs
    → after ≡ before ++ take count (take (length xs - given) (drop given xs)) → after ≡ start ++ take (given + count) xs
given-more xs start before after given count was is =
    is ∙ ap (λ ys. before ++ take count ys) (take_rest xs given) ∙ ap (λ ys. ys ++ take count (drop given xs)) was
    ∙ append_assoc start (take given xs) (take count (drop given xs)) ∙ ap (λ ys. start ++ ys) (sym (take-add given count xs))

-- Octets read into the front of a room are the first of the room.
pub taken-front : (room post before after : List ℕ) (count : ℕ) → count ≤ length room
    → before ≡ take count room ++ after → before ≡ take count (room ++ post) ++ after
taken-front room post before after count fits came = rw (take-append-le count room post fits) came
