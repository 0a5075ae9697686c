-- The octets that were read are enough for the answer.
use Rattle.std.proofs.Common.{◌≡◌, ℕ, ◌+◌, ◌≤◌, List, [], ◌++◌, Option, Some, None, length, ap, sym, ◌∙◌, subst, arith, append-nil, nat_lt, if◌then◌else◌}
use Rattle.text_io.specs.Devices.{TakesEnough}
use Rattle.text_io.specs.Gathered.{AnswersGathered, gathered, LeavesAfter}
use Rattle.text_io.specs.Limits.{most_ahead}
use Rattle.text_io.specs.declared.ending.Done.{Done}
use Rattle.cmd_programs.specs.Check.{most_source_octets}
use Rattle.text_words.specs.FaultLines.{too_long}

-- One octet more than the limit is over the limit.
gathered-none : (octets : List ℕ) → length octets ≡ most_source_octets + 1 → gathered most_source_octets octets ≡ None
gathered-none octets sized = ap (λ n. if nat_lt most_source_octets n then None else Some octets) sized

-- The octets read are enough for the answer, whatever is printed for an input within the limit.
pub enough : (Prints : List ℕ → List ℕ → Done → Type 0) (octets left : List ℕ) (found : Option (List ℕ)) (text : List ℕ) (done : Done)
    → found ≡ gathered most_source_octets octets → LeavesAfter most_source_octets found octets left → AnswersGathered too_long Prints found text done
    → TakesEnough (λ needed. (answered : List ℕ) × AnswersGathered too_long Prints (gathered most_source_octets needed) answered done) most_ahead octets left
enough Prints octets left None text done is later prints =
    let P : Option (List ℕ) → Type 0 = λ found. AnswersGathered too_long Prints found text done in
    let none : length {A = ℕ} [] ≤ most_ahead = omega arith in
    (later.0, [], later.1, none, (text, subst P (sym (gathered-none later.0 later.2)) prints))
enough Prints octets left (Some source) text done is later prints =
    let P : Option (List ℕ) → Type 0 = λ found. AnswersGathered too_long Prints found text done in
    let none : length {A = ℕ} [] ≤ most_ahead = omega arith in
    (octets, [], sym (append-nil octets) ∙ ap (λ xs. octets ++ xs) (sym later), none, (text, subst P is prints))
