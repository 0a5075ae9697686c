-- Answers to what was gathered.
use Rattle.std.proofs.Common.{◌≡◌, ◌+◌, ◌≤◌, ℕ, true, List, [], ◌++◌, Option, Some, None, length, refl, ap, sym, subst, arith, append-nil, nat_lt, if◌then◌else◌, ◌∙◌}
use Rattle.std.proofs.lemmas.Bool.Decides.{nat_tests}
use Rattle.text_io.specs.Devices.{TakesEnough}
use Rattle.text_io.specs.Gathered.{AnswersGathered, LeavesAfter, gathered}
use Rattle.text_io.specs.Limits.{most_ahead}
use Rattle.text_io.specs.declared.ending.Done.{Done}
use Rattle.text_io.specs.declared.ending.Done.TheVariants.{Ended}

-- A relation of octets, text and end of the run.
abbrev Prints : Type 1
Prints = List ℕ → List ℕ → Done → Type 0

-- The second relation is the wider one.
abbrev IsWider : Prints → Prints → Type 0
IsWider One Other = (octets text : List ℕ) (done : Done) → One octets text done → Other octets text done

pub wider-gathered : (too_long : List ℕ) (One Other : Prints) → IsWider One Other → (found : Option (List ℕ)) (text : List ℕ) (done : Done)
    → AnswersGathered too_long One found text done → AnswersGathered too_long Other found text done
wider-gathered too_long One Other wider None text done answers = answers
wider-gathered too_long One Other wider (Some octets) text done answers = wider octets text done answers

-- If all octets have a text, so does whatever was gathered.
pub some-gathered : (too_long : List ℕ) (One : Prints) → ((octets : List ℕ) → (text : List ℕ) × (done : Done) × One octets text done)
    → (found : Option (List ℕ)) → (text : List ℕ) × (done : Done) × AnswersGathered too_long One found text done
some-gathered too_long One total None = (too_long, Ended, (refl, refl))
some-gathered too_long One total (Some octets) = total octets

-- One octet more than the limit is over the limit.
gathered-none : (most : ℕ) (octets : List ℕ) → length octets ≡ most + 1 → gathered most octets ≡ None
gathered-none most octets sized =
    let over : nat_lt most (most + 1) ≡ true = grind (arith, nat_tests) in
    ap (λ n. if nat_lt most n then None else Some octets) sized ∙ ap (λ b. if b then None else Some octets) over

-- The octets that were read are enough for the answer.
pub enough-gathered : (too_long : List ℕ) (One : Prints) (most : ℕ) (octets left : List ℕ) (found : Option (List ℕ)) (text : List ℕ) (done : Done)
    → found ≡ gathered most octets → LeavesAfter most found octets left → AnswersGathered too_long One found text done
    → TakesEnough (λ needed. (printed : List ℕ) × AnswersGathered too_long One (gathered most needed) printed done) most_ahead octets left
enough-gathered too_long One most octets left None text done is after answers =
    let P : Option (List ℕ) → Type 0 = λ found. AnswersGathered too_long One found text done in
    let none : length {A = ℕ} [] ≤ most_ahead = omega arith in
    (after.0, [], after.1, none, (text, subst P (sym (gathered-none most after.0 after.2)) answers))
enough-gathered too_long One most octets left (Some all) text done is after answers =
    let P : Option (List ℕ) → Type 0 = λ found. AnswersGathered too_long One found text done in
    let none : length {A = ℕ} [] ≤ most_ahead = omega arith in
    (octets, [], sym (append-nil octets) ∙ ap (λ xs. octets ++ xs) (sym after), none, (text, subst P is answers))
