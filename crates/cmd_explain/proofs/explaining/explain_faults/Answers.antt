-- The input is a source after the line `source`, a text of rules after the line `rules`, or a script.
use Rattle.std.proofs.Common.{codes, subst, rules}
use Rattle.text_io.proofs.Public.{nothing-begins}
use Rattle.cmd_explain.specs.Explained.{IsExplainText, IsSourceText, IsWholeExplanation}
use Rattle.cmd_explain.specs.FaultSentences.{IsFaultsText}
use Rattle.cmd_explain.specs.InputKinds.{PassesFirst}
use Rattle.cmd_explain.specs.declared.first_line.InputKind.{InputKind}
use Rattle.cmd_explain_rules.specs.RulesExplained.{IsRulesExplained, MayBeRulesExplained}
use Rattle.cmd_explain.proofs.Answered.{some-explain_text}
use Rattle.cmd_explain.proofs.Chosen.{adds_after, faults_follow, rules_follow, script_printed, served_after, served_script, source_follows}
use Rattle.cmd_explain.proofs.explaining.explain_faults.Goals as goal

pub returns-in-Err-clause-served : goal.returns-in-Err-clause-served
returns-in-Err-clause-served g c =
    let octets = g.I.Input.rest c.args.input.now in
    record {
      text = search rules;
      front = λ _ _. nothing-begins (IsExplainText octets) (g.O.Output.held c.args.output.now) (some-explain_text octets);
      left = search rules;
      whole = search rules;
      reading = search rules;
      writing = search rules;
    }

pub returns-in-Ok-Source-clause-served : goal.returns-in-Ok-Source-clause-served
returns-in-Ok-Source-clause-served g c =
    let old = g.I.Input.rest c.args.input.now in
    let read = g.I.Input.rest c.pass_first_line.new.self in
    served_after g.I.Input c.args.input.now c.pass_first_line.new.self c.explain_source.new.input g.O.Output c.args.output.now c.explain_source.new.output
    c.explain_source.result c.in-Ok-Source.ensures.reading (codes "source") IsSourceText (source_follows MayBeRulesExplained)
    (λ known. subst (λ (kind : InputKind). PassesFirst kind old read) c.in-Ok-Source.field-0-is (c.in-Ok-Source.ensures.octets known)) c.explain_source.ensures

pub returns-in-Ok-Source-clause-printed : goal.returns-in-Ok-Source-clause-printed
returns-in-Ok-Source-clause-printed g c = λ known written.
    let old = g.I.Input.rest c.args.input.now in
    let read = g.I.Input.rest c.pass_first_line.new.self in
    adds_after (codes "source") IsSourceText IsWholeExplanation old read (g.O.Output.held c.args.output.now) (g.O.Output.held c.explain_source.new.output)
    c.explain_source.result (source_follows IsRulesExplained)
    (subst (λ (kind : InputKind). PassesFirst kind old read) c.in-Ok-Source.field-0-is (c.in-Ok-Source.ensures.octets known))
    (c.explain_source.ensures.text known written)

pub returns-in-Ok-Rules-clause-served : goal.returns-in-Ok-Rules-clause-served
returns-in-Ok-Rules-clause-served g c =
    let old = g.I.Input.rest c.args.input.now in
    let read = g.I.Input.rest c.pass_first_line.new.self in
    served_after g.I.Input c.args.input.now c.pass_first_line.new.self c.explain_rules.new.input g.O.Output c.args.output.now c.explain_rules.new.output
    c.explain_rules.result c.in-Ok-Rules.ensures.reading (codes "rules") MayBeRulesExplained (rules_follow MayBeRulesExplained)
    (λ known. (subst (λ (kind : InputKind). PassesFirst kind old read) c.in-Ok-Rules.field-0-is (c.in-Ok-Rules.ensures.octets known)).1)
    c.explain_rules.ensures.served

pub returns-in-Ok-Rules-clause-printed : goal.returns-in-Ok-Rules-clause-printed
returns-in-Ok-Rules-clause-printed g c = λ known written.
    let old = g.I.Input.rest c.args.input.now in
    let read = g.I.Input.rest c.pass_first_line.new.self in
    adds_after (codes "rules") IsRulesExplained IsWholeExplanation old read (g.O.Output.held c.args.output.now) (g.O.Output.held c.explain_rules.new.output)
    c.explain_rules.result (rules_follow IsRulesExplained)
    (subst (λ (kind : InputKind). PassesFirst kind old read) c.in-Ok-Rules.field-0-is (c.in-Ok-Rules.ensures.octets known)).1
    (c.explain_rules.ensures.printed known written)

pub returns-in-Ok-Faults-clause-served : goal.returns-in-Ok-Faults-clause-served
returns-in-Ok-Faults-clause-served g c =
    let old = g.I.Input.rest c.args.input.now in
    let read = g.I.Input.rest c.pass_first_line.new.self in
    served_after g.I.Input c.args.input.now c.pass_first_line.new.self c.explain_fault_lines.new.input g.O.Output c.args.output.now
    c.explain_fault_lines.new.output c.explain_fault_lines.result c.in-Ok-Faults.ensures.reading (codes "faults") IsFaultsText (faults_follow MayBeRulesExplained)
    (λ known. (subst (λ (kind : InputKind). PassesFirst kind old read) c.in-Ok-Faults.field-0-is (c.in-Ok-Faults.ensures.octets known)).2)
    c.explain_fault_lines.ensures.served

pub returns-in-Ok-Faults-clause-printed : goal.returns-in-Ok-Faults-clause-printed
returns-in-Ok-Faults-clause-printed g c = λ known written.
    let old = g.I.Input.rest c.args.input.now in
    let read = g.I.Input.rest c.pass_first_line.new.self in
    adds_after (codes "faults") IsFaultsText IsWholeExplanation old read (g.O.Output.held c.args.output.now) (g.O.Output.held c.explain_fault_lines.new.output)
    c.explain_fault_lines.result (faults_follow IsRulesExplained)
    (subst (λ (kind : InputKind). PassesFirst kind old read) c.in-Ok-Faults.field-0-is (c.in-Ok-Faults.ensures.octets known)).2
    (c.explain_fault_lines.ensures.printed known written)

pub returns-in-Ok-Script-clause-served : goal.returns-in-Ok-Script-clause-served
returns-in-Ok-Script-clause-served g c =
    let old = g.I.Input.rest c.args.input.now in
    let read = g.I.Input.rest c.pass_first_line.new.self in
    served_script g.I.Input c.args.input.now c.pass_first_line.new.self c.explain_script.new.input g.O.Output c.args.output.now c.explain_script.new.output
    c.explain_script.result c.in-Ok-Script.ensures.reading
    (λ known. subst (λ (kind : InputKind). PassesFirst kind old read) c.in-Ok-Script.field-0-is (c.in-Ok-Script.ensures.octets known)) c.explain_script.ensures

pub returns-in-Ok-Script-clause-printed : goal.returns-in-Ok-Script-clause-printed
returns-in-Ok-Script-clause-printed g c =
    let old = g.I.Input.rest c.args.input.now in
    let read = g.I.Input.rest c.pass_first_line.new.self in
    script_printed g.I.Input c.args.input.now c.pass_first_line.new.self c.explain_script.new.input g.O.Output c.args.output.now c.explain_script.new.output
    c.explain_script.result c.in-Ok-Script.ensures.reading IsRulesExplained
    (λ known. subst (λ (kind : InputKind). PassesFirst kind old read) c.in-Ok-Script.field-0-is (c.in-Ok-Script.ensures.octets known)) c.explain_script.ensures
