-- The answer that was given is that of `upc-lab rules`.
use Rattle.std.proofs.Common.{◌≡◌, ℕ, List, [], ◌++◌, Option, Some, None, Result, Ok, Err, IfOk, OnOk, OnErr, refl, sym, ap, subst}
use Rattle.cmd_rules.specs.RulesAnswers.{AnswersBy, most_rules_octets}
use Rattle.cmd_rules.specs.RulesText.{PrintsRules}
use Rattle.text_io.specs.Devices.{Adds, IsPart, TakesEnough}
use Rattle.text_io.specs.Failures.{read_failures}
use Rattle.text_io.specs.Gathered.{LeavesAfter}
use Rattle.text_io.specs.Limits.{most_ahead}
use Rattle.text_io.specs.Printing.{IsFront}
use Rattle.text_io.specs.declared.ending.Done.{Done}
use Rattle.text_io.specs.declared.ending.Done.TheVariants.{Whole, Ended}
use Rattle.text_io.specs.declared.ending.RunFault.{RunFault}
use Rattle.text_io.specs.declared.ending.RunFault.TheVariants.{WriteFailed}

-- What was given is an answer with this end.
pub answer_given : (IsText : List ℕ → List ℕ → Done → Type 0) (octets held held' answers : List ℕ) (done : Done) (result : Result Done RunFault)
    → IfOk result (λ value. value ≡ done) → OnOk result (held' ≡ held ++ answers) → IsText octets answers done
    → IfOk result (λ value. Adds (λ answer. IsText octets answer value) held held')
answer_given IsText octets held held' answers done (Ok value) same given is =
    (answers, given, subst (λ (d : Done). IsText octets answers d) (sym same) is)
answer_given IsText octets held held' answers done (Err fault) same given is = tt

pub front_given : (IsText : List ℕ → List ℕ → Done → Type 0) (octets held held' answers : List ℕ) (done : Done) (result : Result Done RunFault)
    → OnErr result (IsPart held held' answers) → IsText octets answers done → OnErr result (Adds (IsFront (IsText octets)) held held')
front_given IsText octets held held' answers done (Ok value) part is = tt
front_given IsText octets held held' answers done (Err fault) part is =
    (part.0, part.3, (part.1, done, subst (λ (xs : List ℕ). IsText octets xs done) part.2 is))

pub left_given : (IsText : List ℕ → List ℕ → Done → Type 0) (octets left : List ℕ) (done : Done) (result : Result Done RunFault) → IfOk result (λ value. value ≡ done)
    → TakesEnough (λ needed. (answer : List ℕ) × IsText needed answer done) most_ahead octets left
    → IfOk result (λ value. TakesEnough (λ needed. (answer : List ℕ) × IsText needed answer value) most_ahead octets left)
left_given IsText octets left done (Ok value) same taken =
    subst (λ (d : Done). TakesEnough (λ needed. (answer : List ℕ) × IsText needed answer d) most_ahead octets left) (sym same) taken
left_given IsText octets left done (Err fault) same taken = tt

-- A run that ends whole has read the whole input.
no_whole : (value done : Done) (result : Result Done RunFault) → result ≡ Ok value → value ≡ done → done ≡ Ended → result ≡ Ok Whole → ⊥
no_whole value done result is same ended whole = let it : value ≡ Whole = cc in cc

pub whole_read : (found : Option (List ℕ)) (octets left answers : List ℕ) (done : Done) (result : Result Done RunFault) → IfOk result (λ value. value ≡ done)
    → AnswersBy PrintsRules found answers done → LeavesAfter most_rules_octets found octets left → result ≡ Ok Whole → left ≡ []
whole_read (Some text) octets left answers done result same prints after whole = after
whole_read None octets left answers done (Ok value) same prints after whole = absurd (no_whole value done (Ok value) refl same prints.1 whole)
whole_read None octets left answers done (Err fault) same prints after whole = absurd (cc)

-- Writing changes no count of the input.
pub none_read : (result : Result Done RunFault) (count : ℕ) → OnErr result (result ≡ Err WriteFailed) → read_failures result count ≡ count
none_read (Ok value) count only = refl
none_read (Err fault) count only = let same : Err fault ≡ Err WriteFailed = only in ap (λ (r : Result Done RunFault). read_failures r count) same

-- An allowed answer is enough, if that of the text is.
pub may_enough : (IsText MayBeText : List ℕ → List ℕ → Done → Type 0) (octets left : List ℕ) (done : Done)
    → ((needed answer : List ℕ) → IsText needed answer done → MayBeText needed answer done)
    → TakesEnough (λ needed. (answer : List ℕ) × IsText needed answer done) most_ahead octets left
    → TakesEnough (λ needed. (answer : List ℕ) × MayBeText needed answer done) most_ahead octets left
may_enough IsText MayBeText octets left done wider taken = (taken.0, taken.1, taken.2, taken.3, (taken.4.0, wider taken.0 taken.4.0 taken.4.1))

-- What holds of each run holds of one that is Ok.
pub whatever : (Holds : Type 0) (result : Result Done RunFault) → Holds → IfOk result (λ done. Holds)
whatever Holds (Ok value) it = it
whatever Holds (Err fault) it = tt
