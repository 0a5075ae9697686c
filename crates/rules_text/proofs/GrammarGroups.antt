-- Parentheses that close, and tests after `and` and `or`, keep to the grammar.
use Rattle.std.proofs.Common.{◌≡◌, nat_lt, true, if◌then◌else◌, List, [], ◌∷◌, ◌++◌, length, Option, Some, None, option_map, Ok, Err, refl, sym, ap, ◌∙◌, subst, append_assoc, append-nil, arith}
use Rattle.std.proofs.lemmas.Bool.{lt-ltb}
use Rattle.rules_text.specs.LineGrammar.{GroupRead, Reading, awaits_unit, awaits_operator, or_with, group_after_or, group_test, group_with, some_test, unit_around, whole_test}
use Rattle.rules_text.specs.RuleGrammar.{TestForm, parenthesis_unit, part_written, test_tokens, test_written, units_tokens}
use Rattle.rules_text.specs.RulesRead.{TestRead}
use Rattle.rules_text.specs.RuleTokens.{RuleToken, and_word, close_parenthesis, open_parenthesis, or_word}
use Rattle.rules_text.specs.declared.fault.RuleFaultKind.TheVariants.{Unbalanced}
use Rattle.rules_text.proofs.TestBeginnings.{AreOpen, ClosedForm, Explained, InClosed, InOpen, IsClosed, OpenForm, around_tokens, closed_by, closed_by_group, closed_by_tokens, closed_test, closed_tokens, alternatives_tokens, made_by, ok_is, open_tokens}

-- ---- a token after a unit

closed_test_tokens : (form : ClosedForm) → closed_tokens form ≡ test_tokens (closed_test form)
closed_test_tokens form = by form.alternatives refl
  where
    by : (alternatives : Option TestForm) → form.alternatives ≡ alternatives → closed_tokens form ≡ test_tokens (closed_test form)
    by None e = rw e refl
    by (Some test) e = rw e (append_assoc (test_tokens test) (or_word ∷ []) (units_tokens form.part))

closed_test_written : (form : ClosedForm) (group : GroupRead) → IsClosed form group → group_test group ≡ Some (test_written (closed_test form))
closed_test_written form group is = rw (is.alternatives, is.last_alternative) (by form.alternatives refl)
  where
    by : (alternatives : Option TestForm) → form.alternatives ≡ alternatives → or_with (option_map test_written form.alternatives) (Some (part_written form.part)) ≡ Some (test_written (closed_test form))
    by None e = rw e refl
    by (Some test) e = rw e refl

pub after_and : (tokens : List RuleToken) (reading : Reading) → InClosed tokens reading → InOpen (tokens ++ (and_word ∷ [])) [] (record reading { awaited = awaits_unit })
after_and tokens reading closed =
    let form = closed.form in
    let before = around_tokens closed.around in
    let next : OpenForm = record { alternatives = form.alternatives; last_alternative = Some form.part; nots = 0 } in
    record {
      around = closed.around;
      form = next;
      tokens_are = ap (λ more. more ++ (and_word ∷ [])) closed.tokens_are
          ∙ append_assoc before (closed_tokens form) (and_word ∷ [])
          ∙ ap (λ more. before ++ more)
          (append_assoc (alternatives_tokens form.alternatives) (units_tokens form.part) (and_word ∷ [])
          ∙ ap (λ more. alternatives_tokens form.alternatives ++ more) (sym (append-nil (units_tokens form.part ++ (and_word ∷ [])))))
          ∙ sym (append-nil (before ++ open_tokens next));
      around_are = closed.around_are;
      group_is = record { alternatives = closed.group_is.alternatives; last_alternative = closed.group_is.last_alternative; negated = closed.group_is.negated };
    }

pub after_or : (tokens : List RuleToken) (reading : Reading) → InClosed tokens reading
    → InOpen (tokens ++ (or_word ∷ [])) [] (record reading { group = group_after_or reading.group; awaited = awaits_unit })
after_or tokens reading closed =
    let form = closed.form in
    let test = closed_test form in
    let before = around_tokens closed.around in
    let next : OpenForm = record { alternatives = Some test; last_alternative = None; nots = 0 } in
    record {
      around = closed.around;
      form = next;
      tokens_are = ap (λ more. more ++ (or_word ∷ [])) closed.tokens_are
          ∙ append_assoc before (closed_tokens form) (or_word ∷ [])
          ∙ ap (λ more. before ++ more)
          (ap (λ more. more ++ (or_word ∷ [])) (closed_test_tokens form) ∙ sym (append-nil (test_tokens test ++ (or_word ∷ []))))
          ∙ sym (append-nil (before ++ open_tokens next));
      around_are = closed.around_are;
      group_is = record { alternatives = closed_test_written form reading.group closed.group_is; last_alternative = refl; negated = closed.group_is.negated };
    }

-- A parenthesis closes: the test in it is a unit of what is around it.
closes_around : (tokens : List RuleToken) (around : List OpenForm) (form : ClosedForm) (group : GroupRead) (groups : List GroupRead) (made : Reading)
    → tokens ≡ around_tokens around ++ closed_tokens form → AreOpen around (group ∷ groups)
    → made.around ≡ groups → made.group ≡ group_with group (test_written (closed_test form))
    → InClosed (tokens ++ (close_parenthesis ∷ [])) made
closes_around tokens [] form group groups made same are around with_test = absurd are
closes_around tokens (outer ∷ forms) form group groups made same are around with_test =
    let test = closed_test form in
    let unit = parenthesis_unit test in
    let before = around_tokens forms in
    record {
      around = forms;
      form = closed_by outer unit;
      tokens_are = ap (λ more. more ++ (close_parenthesis ∷ [])) same
          ∙ append_assoc (before ++ (open_tokens outer ++ (open_parenthesis ∷ []))) (closed_tokens form) (close_parenthesis ∷ [])
          ∙ append_assoc before (open_tokens outer ++ (open_parenthesis ∷ [])) (closed_tokens form ++ (close_parenthesis ∷ []))
          ∙ ap (λ more. before ++ more)
          (append_assoc (open_tokens outer) (open_parenthesis ∷ []) (closed_tokens form ++ (close_parenthesis ∷ []))
          ∙ ap (λ more. open_tokens outer ++ (open_parenthesis ∷ (more ++ (close_parenthesis ∷ [])))) (closed_test_tokens form)
          ∙ closed_by_tokens outer unit);
      around_are = subst (AreOpen forms) (sym around) are.1;
      group_is = subst (IsClosed (closed_by outer unit)) (sym with_test) (closed_by_group outer group unit (test_written test) are.0 (λ denied. refl));
    }

pub parenthesis_closes : (tokens : List RuleToken) (reading next : Reading) (around : List GroupRead) (inner : Option TestRead) → reading.around ≡ around → group_test reading.group ≡ inner
    → unit_around reading around inner ≡ Ok next → InClosed tokens reading → reading.spans ≡ [] → Explained (tokens ++ (close_parenthesis ∷ [])) next
parenthesis_closes tokens reading next [] inner around_is inner_is e closed none = absurd (cc)
parenthesis_closes tokens reading next (group ∷ groups) None around_is inner_is e closed none = absurd (cc)
parenthesis_closes tokens reading next (group ∷ groups) (Some test) around_is inner_is e closed none =
    let made : Reading = record reading { around = groups; group = group_with group test; awaited = awaits_operator } in
    let is : test ≡ test_written (closed_test closed.form) =
    ok_is test (test_written (closed_test closed.form)) (some_test (group_test reading.group)) (ap some_test inner_is) (ap some_test (closed_test_written closed.form reading.group closed.group_is)) in
    made_by (tokens ++ (close_parenthesis ∷ [])) made next (Ok made) e refl
    (closes_around tokens closed.around closed.form group groups made closed.tokens_are (subst (AreOpen closed.around) around_is closed.around_are) refl (ap (group_with group) is), none)

-- The whole test is what its tokens mean, and no parenthesis is open.
nothing_around : (around : List OpenForm) (tokens : List RuleToken) → AreOpen around [] → around_tokens around ++ tokens ≡ tokens
nothing_around [] tokens are = refl
nothing_around (form ∷ forms) tokens are = absurd are

-- The tokens are those of a test that means this.
pub record IsTestOf (tokens : List RuleToken) (test : TestRead) : Type 0 where
  pub form : TestForm
  pub tokens_are : tokens ≡ test_tokens form
  pub test_is : test ≡ test_written form

whole_at : (tokens : List RuleToken) (reading : Reading) (around : List GroupRead) (test : TestRead) → reading.around ≡ around
    → (if nat_lt 0 (length around) then Err Unbalanced else some_test (group_test reading.group)) ≡ Ok test → InClosed tokens reading → IsTestOf tokens test
whole_at tokens reading (group ∷ groups) test around_is e closed =
    let some : nat_lt 0 (length (group ∷ groups)) ≡ true = lt-ltb 0 (length (group ∷ groups)) (omega arith) in absurd (cc)
whole_at tokens reading [] test around_is e closed =
    let form = closed_test closed.form in
    record {
      form = form;
      tokens_are = closed.tokens_are ∙ nothing_around closed.around (closed_tokens closed.form) (subst (AreOpen closed.around) around_is closed.around_are) ∙ closed_test_tokens closed.form;
      test_is = ok_is test (test_written form) (some_test (group_test reading.group)) e (ap some_test (closed_test_written closed.form reading.group closed.group_is));
    }

pub whole_ok : (tokens : List RuleToken) (reading : Reading) (test : TestRead) → whole_test reading ≡ Ok test → InClosed tokens reading → IsTestOf tokens test
unfolding whole_test
whole_ok tokens reading test e closed = whole_at tokens reading reading.around test refl e closed
