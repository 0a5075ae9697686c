-- A finding that was given is the promised result of the run.
use Rattle.std.proofs.Common.{◌≡◌, ℕ, List, ◌++◌, Result, Ok, Err, IfOk, OnOk, OnErr, refl, ap, sym, ◌∙◌, subst}
use Rattle.text_io.specs.Devices.{Adds, IsPart, TakesEnough}
use Rattle.text_io.specs.Failures.{read_failures}
use Rattle.text_io.specs.Limits.{most_ahead}
use Rattle.text_io.specs.Printing.{IsFront}
use Rattle.text_io.specs.declared.ending.Done.TheVariants.{Whole}
use Rattle.text_io.specs.declared.ending.RunFault.{RunFault}
use Rattle.text_io.specs.declared.ending.RunFault.TheVariants.{WriteFailed}
use Rattle.cmd_differ.specs.Findings.{IsAnswerWith, ended_by, finding_done}
use Rattle.cmd_differ.specs.declared.finding.Finding.{Finding}

-- What was given is an answer with this finding.
pub printed_given : (text : List ℕ → List ℕ → Finding → Type 0) (octets held held' answers : List ℕ) (finding : Finding) (result : Result Finding RunFault) → IfOk result (λ value. value ≡ finding)
    → OnOk result (held' ≡ held ++ answers) → text octets answers finding
    → IfOk result (λ value. Adds (λ answer. text octets answer value) held held')
printed_given text octets held held' answers finding (Ok value) same given told =
    (answers, given, subst (λ (f : Finding). text octets answers f) (sym same) told)
printed_given text octets held held' answers finding (Err fault) same given told = tt

pub text_given : (text : List ℕ → List ℕ → Finding → Type 0) (octets held held' : List ℕ) (result : Result Finding RunFault) → IfOk result (λ value. Adds (λ answer. text octets answer value) held held')
    → IfOk (ended_by result) (λ done. Adds (λ answer. IsAnswerWith text octets answer done) held held')
text_given text octets held held' (Ok value) added = (added.0, added.1, (value, added.2, refl))
text_given text octets held held' (Err fault) added = tt

pub front_given : (text : List ℕ → List ℕ → Finding → Type 0) (octets held held' answers : List ℕ) (finding : Finding) (result : Result Finding RunFault) → OnErr result (IsPart held held' answers)
    → text octets answers finding → OnErr (ended_by result) (Adds (IsFront (IsAnswerWith text octets)) held held')
front_given text octets held held' answers finding (Ok value) part told = tt
front_given text octets held held' answers finding (Err fault) part told =
    (part.0, part.3, (part.1, finding_done finding, (finding, subst (λ xs. text octets xs finding) part.2 told, refl)))

pub left_given : (text : List ℕ → List ℕ → Finding → Type 0) (octets left : List ℕ) (finding : Finding) (result : Result Finding RunFault) → IfOk result (λ value. value ≡ finding)
    → TakesEnough (λ needed. (output : List ℕ) × IsAnswerWith text needed output (finding_done finding)) most_ahead octets left
    → IfOk (ended_by result) (λ done. TakesEnough (λ needed. (output : List ℕ) × IsAnswerWith text needed output done) most_ahead octets left)
left_given text octets left finding (Ok value) same taken =
    subst (λ (f : Finding). TakesEnough (λ needed. (output : List ℕ) × IsAnswerWith text needed output (finding_done f)) most_ahead octets left) (sym same) taken
left_given text octets left finding (Err fault) same taken = tt

pub done_whole : (finding : Finding) (result : Result Finding RunFault) → IfOk result (λ value. value ≡ finding) → ended_by result ≡ Ok Whole → finding_done finding ≡ Whole
done_whole finding (Ok value) same ended = let whole : finding_done value ≡ Whole = cc in ap finding_done (sym same) ∙ whole
done_whole finding (Err fault) same ended = absurd (cc)

pub none_read : (result : Result Finding RunFault) (count : ℕ) → OnErr result (result ≡ Err WriteFailed) → read_failures (ended_by result) count ≡ count
none_read (Ok value) count only = refl
none_read (Err fault) count only = let same : Err fault ≡ Err WriteFailed = only in ap (λ (r : Result Finding RunFault). read_failures (ended_by r) count) same
