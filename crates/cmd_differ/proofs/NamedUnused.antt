-- Exactly the rules that decide no cell are named.
use Rattle.std.proofs.Common.{◌≡◌, ℕ, zero, suc, inl, inr, List, [], ◌∷◌, map, Some, refl, sym, ap, subst, ◌∙◌, slice_get}
use Rattle.std.proofs.lemmas.List.Elements.{All-weaker}
use Rattle.std.specs.List.{All}
use Rattle.rules_diagrams.specs.UnusedRules.{DecidesNone, IsRuleAt, IsUnused}
use Rattle.rules_diagrams.specs.declared.unused.Unused.{Unused}
use Rattle.rules_cells.specs.declared.deciding.Decision.{Decision}
use Rattle.rules_cells.specs.declared.rules.RuleLine.{RuleLine}
use Rattle.rules_cells.specs.declared.rules.RuleLine.TheVariants.{Rule, Block, End}
use Rattle.rules_cells.specs.declared.rules.Rules.{Rules}
use Rattle.rules_text.specs.RulesRead.{RulesRead, TestRead, line_read, rule_line, rules_read, test_read}
use Rattle.rules_text.specs.TextOfRules.{PlacedRulesRead}
use Rattle.rules_text.proofs.Public.{decision_same}
use Rattle.cmd_differ.specs.UnusedLaws.{ExactlyTheUnusedAreNamed, IsRuleRead, NamesUnused, NeverDecides}
use Rattle.cmd_differ.specs.UnusedText.{IsSearched}
use Rattle.cmd_differ.specs.declared.finding.Finding.{Finding}
use Rattle.cmd_differ.proofs.LineOfCell.{read_is, said_not_faulty, said_not_undecided}

-- A rule as it is written is one in memory, and the other way round.
rule_in : (lines : List RuleLine) (place : ℕ) (test : TestRead) (value : ℕ) → slice_get (map line_read lines) place ≡ Some (rule_line test value)
    → (memory : _) × (also : ℕ) × (slice_get lines place ≡ Some (Rule memory also))
rule_in [] place test value e = absurd (cc)
rule_in (Rule memory also ∷ more) zero test value e = (memory, also, refl)
rule_in (Block memory ∷ more) zero test value e = absurd (cc)
rule_in (End ∷ more) zero test value e = absurd (cc)
rule_in (first ∷ more) (suc place) test value e = rule_in more place test value e

read_at : (lines : List RuleLine) (place : ℕ) (line : RuleLine) → slice_get lines place ≡ Some line → slice_get (map line_read lines) place ≡ Some (line_read line)
read_at [] place line e = absurd (cc)
read_at (first ∷ more) zero line e = let same : first ≡ line = cc in ap (λ (l : RuleLine). Some (line_read l)) same
read_at (first ∷ more) (suc place) line e = read_at more place line e

module _ (rules : Rules) where
  never_from : (place : ℕ) → DecidesNone rules place → NeverDecides (rules_read rules) place
  never_from place none cell there e = none cell there (ap (λ (d : Decision). d.line) (decision_same rules cell) ∙ e)

  none_from : (place : ℕ) → NeverDecides (rules_read rules) place → DecidesNone rules place
  none_from place never cell there e = never cell there (sym (ap (λ (d : Decision). d.line) (decision_same rules cell)) ∙ e)

  pub rule_from : (place : ℕ) → IsRuleAt rules place → IsRuleRead (rules_read rules) place
  rule_from place is = (test_read is.0, is.1, read_at rules.lines.items place (Rule is.0 is.1) is.2)

  pub rule_back : (place : ℕ) → IsRuleRead (rules_read rules) place → IsRuleAt rules place
  rule_back place is = rule_in rules.lines.items place is.0 is.1 is.2

named_by : (placed_rules : PlacedRulesRead) (answer : List ℕ) (finding : Finding) → IsSearched placed_rules answer finding → NamesUnused placed_rules answer
named_by placed_rules answer finding searched =
    let rules = searched.rules in
    let read : RulesRead = rules_read rules in
    let back = sym searched.read in
    record {
      named = searched.unused;
      prints = searched.prints;
      rules = subst (λ (r : RulesRead). All (λ (one : Unused). IsRuleRead r one.place) searched.unused) back
          (All-weaker (IsUnused rules) (λ (one : Unused). IsRuleRead read one.place) (λ one is. rule_from rules one.place is.is_rule) searched.unused searched.are_unused.all);
      never = subst (λ (r : RulesRead). All (λ (one : Unused). NeverDecides r one.place) searched.unused) back
          (All-weaker (IsUnused rules) (λ (one : Unused). NeverDecides read one.place) (λ one is. never_from rules one.place is.none) searched.unused searched.are_unused.all);
      each = λ place rule never.
          searched.are_unused.each place (rule_back rules place (subst (λ (r : RulesRead). IsRuleRead r place) searched.read rule))
          (none_from rules place (subst (λ (r : RulesRead). NeverDecides r place) searched.read never));
    }

pub exactly_named : ExactlyTheUnusedAreNamed
exactly_named octets answer placed_rules finding (inl faulty) said read = said_not_faulty finding said faulty.1
exactly_named octets answer placed_rules finding (inr (one, finds, inr not_said)) said read = said_not_undecided finding said not_said.1
exactly_named octets answer placed_rules finding (inr (one, finds, inl searched)) said read =
    subst (λ (n : PlacedRulesRead). NamesUnused n answer) (read_is octets one placed_rules finds read) (named_by one answer finding searched)
