use Rattle.std.proofs.Common.{◌≡◌, ◌∙◌, ◌++◌, ◌∷◌, ◌<◌, ◌-◌, ◌⊎◌, ap, false, length, rules, subst, take, true, List, ℕ, Option}
use Rattle.text_io.specs.Limits.{most_line_octets}
use Rattle.cmd_rules.specs.RulesAnswers.{most_rules_octets}
use Rattle.cmd_rules.specs.inner.RulesTaken.{TakesOctet}
use Rattle.cmd_rules.proofs.RulesTaken.{looked_at, takes_cells, takes_none}
use Rattle.cmd_rules.proofs.before_cells.read_rules_before.Goals as goal

pub returns-then-is_ended_cells_line-clause-taken : goal.returns-then-is_ended_cells_line-clause-taken
returns-then-is_ended_cells_line-clause-taken g c = λ known.
    let before = g.I.Input.rest c.args.input.now in
    let middle = g.I.Input.rest c.loop-input.input in
    let after = g.I.Input.rest c.next_octet.new.input in
    let octets = c.loop-input.text.items in
    let start = c.loop-input.start in
    let on : c.is_over.result ≡ false = search rules in
    let kept : c.truncate.new.self.items ≡ take start octets = search rules in
    let one : middle ≡ c.in-Ok-Some.octet ∷ after = subst (λ (f : Option ℕ). TakesOctet f middle after) c.in-Ok-Some.field-0-is (c.in-Ok-Some.ensures.octet known) in
    let came : before ≡ octets ++ 10 ∷ after =
    c.loop-input.invariant.came known ∙ ap (λ (t : List ℕ). octets ++ t) (one ∙ ap (λ (o : ℕ). o ∷ after) c.if-octet-eq10.true) in
    takes_cells before after octets c.truncate.new.self.items start c.loop-input.invariant.up_to came (c.is_over.ensures.lines on)
    (looked_at true octets c.deref.result.now start c.is_ended_cells_line.result true c.deref.ensures.value c.is_ended_cells_line.ensures c.if-is_ended_cells_line.true) kept

pub returns-clause-taken : goal.returns-clause-taken
returns-clause-taken g c = λ known.
    let octets = c.loop-input.text.items in
    let start = c.loop-input.start in
    let over : c.is_over.result ≡ true = search rules in
    let sized : c.len.result ≡ length octets = search rules in
    takes_none (g.I.Input.rest c.args.input.now) (g.I.Input.rest c.loop-input.input) octets start c.loop-input.invariant.up_to (c.loop-input.invariant.came known)
    (subst (λ (n : ℕ). (most_rules_octets < start) ⊎ ((most_rules_octets < n) × (most_line_octets < n - start))) sized (c.is_over.ensures.over over))
