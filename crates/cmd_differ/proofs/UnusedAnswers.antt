-- Every input has an answer of `unused`.
use Rattle.std.proofs.Common.{◌≡◌, ℕ, ◌≤◌, inl, inr, List, [], ◌++◌, Option, Some, None, Result, Ok, Err, length, refl, ap, sym, ◌∙◌, subst, arith, append-nil}
use Rattle.rules_text.specs.TextOfRules.{PlacedRulesRead, placed_rules_in}
use Rattle.rules_text.specs.declared.fault.RuleFault.{RuleFault}
use Rattle.text_io.specs.Devices.{TakesEnough}
use Rattle.text_io.specs.Gathered.{gathered, LeavesAfter}
use Rattle.text_io.specs.Limits.{most_ahead}
use Rattle.text_io.specs.declared.ending.Done.{Done}
use Rattle.text_io.specs.declared.ending.Done.TheVariants.{Whole, Ended}
use Rattle.text_words.specs.FaultLines.{too_long}
use Rattle.cmd_rules.specs.RuleFaults.{rule_fault}
use Rattle.cmd_rules.specs.RulesAnswers.{most_rules_octets}
use Rattle.cmd_differ.specs.DifferText.{not_decided}
use Rattle.cmd_differ.specs.Findings.{IsAnswerWith, finding_done}
use Rattle.cmd_differ.specs.UnusedText.{IsUnusedText, PrintsUnused}
use Rattle.cmd_differ.specs.declared.finding.Finding.{Finding}
use Rattle.cmd_differ.specs.declared.finding.Finding.TheVariants.{Faulty, Undecided}
use Rattle.cmd_differ.proofs.WholeAnswers.{gathered_none}

-- Some answer to a text that was found.
abbrev HasUnused : Option (List ℕ) → Type 0
HasUnused found = (answer : List ℕ) × (finding : Finding) × PrintsUnused found answer finding

text_read : (text : List ℕ) (read : Result PlacedRulesRead RuleFault) → placed_rules_in text ≡ read → HasUnused (Some text)
text_read text (Ok placed_rules) same = (not_decided, Undecided, inr (placed_rules, (text, refl, same), inr (refl, refl)))
text_read text (Err fault) same = (rule_fault fault, Faulty, inl ((fault, same, refl), refl))

one_found : (found : Option (List ℕ)) → HasUnused found
one_found None = (too_long, Faulty, inl (refl, refl))
one_found (Some text) = text_read text (placed_rules_in text) refl

pub some_unused : (octets : List ℕ) → (answer : List ℕ) × (done : Done) × IsAnswerWith IsUnusedText octets answer done
some_unused octets = let has = one_found (gathered most_rules_octets octets) in (has.0, finding_done has.1, (has.1, has.2, refl))

-- The octets that were read are enough for the answer.
pub unused_enough : (octets left : List ℕ) (found : Option (List ℕ)) (answer : List ℕ) (finding : Finding) → found ≡ gathered most_rules_octets octets
    → LeavesAfter most_rules_octets found octets left → PrintsUnused found answer finding
    → TakesEnough (λ needed. (output : List ℕ) × IsAnswerWith IsUnusedText needed output (finding_done finding)) most_ahead octets left
unused_enough octets left None answer finding is after prints =
    let P : Option (List ℕ) → Type 0 = λ found. PrintsUnused found answer finding in
    let none : length {A = ℕ} [] ≤ most_ahead = omega arith in
    (after.0, [], after.1, none, (answer, (finding, subst P (sym (gathered_none after.0 after.2)) prints, refl)))
unused_enough octets left (Some text) answer finding is after prints =
    let P : Option (List ℕ) → Type 0 = λ found. PrintsUnused found answer finding in
    let none : length {A = ℕ} [] ≤ most_ahead = omega arith in
    (octets, [], sym (append-nil octets) ∙ ap (λ xs. octets ++ xs) (sym after), none, (answer, (finding, subst P is prints, refl)))

-- If each rule decides some cell, the whole input was read.
pub unused_whole : (found : Option (List ℕ)) (octets left answer : List ℕ) (finding : Finding) → finding_done finding ≡ Whole → PrintsUnused found answer finding
    → LeavesAfter most_rules_octets found octets left → left ≡ []
unused_whole (Some text) octets left answer finding whole prints after = after
unused_whole None octets left answer finding whole (inl faulty) after = let bad : Ended ≡ Whole = sym (ap finding_done faulty.1) ∙ whole in absurd (cc)
unused_whole None octets left answer finding whole (inr (placed_rules, found, prints)) after = let bad : None ≡ Some found.0 = found.1 in absurd (cc)
