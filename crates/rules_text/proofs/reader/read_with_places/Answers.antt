use Rattle.std.proofs.Common.{sym, ap, ◌∙◌, arith}
use Rattle.rules_text.specs.ContinuedLines.{rule_lines}
use Rattle.rules_text.specs.TextOfRules.{placed_rules_at_end, placed_rules_from, placed_rules_in}
use Rattle.rules_text.specs.inner.SeenReading.{text_seen}
use Rattle.rules_text.proofs.ReadingSteps.{rules_begun, rules_more, rules_fault, rules_end, rules_at_last, fault_at_last, fault_of_text}
use Rattle.rules_text.proofs.reader.read_with_places.Goals as goal

pub loop-line-init : goal.loop-line-init
loop-line-init c = record { line = omega arith; column = omega arith; blocks = omega arith; names = c.new-3.ensures.found; rest = rw (c.new.ensures.items, c.new-2.ensures.items, c.new-3.ensures.empty) (sym (rules_begun c.args.text.now)) }

pub read_line-requires-clause-blocks : goal.read_line-requires-clause-blocks
read_line-requires-clause-blocks c = omega (arith, c.in-Some.ensures.shorter)

pub returns-in-Err-clause-fault : goal.returns-in-Err-clause-fault
returns-in-Err-clause-fault c =
    let text = text_seen c.loop-line.reader in
    let line = c.in-Some.line.now in
    let rest = rule_lines c.in-Some.rest.now in
    rw c.fault_of_line.ensures
    (fault_of_text _ _ c.loop-line.begin line _ (λ own e. sym c.loop-line.invariant.rest ∙ ap (placed_rules_from text c.loop-line.begin) c.in-Some.ensures.lines ∙ rules_fault text c.loop-line.begin line rest own e) c.in-Err.ensures.read)

pub loop-line-preserved : goal.loop-line-preserved
loop-line-preserved c =
    let text = text_seen c.loop-line.reader in
    let next = text_seen c.read_line.new.self in
    let line = c.in-Some.line.now in
    let rest = rule_lines c.in-Some.rest.now in
    record {
      line = omega (arith, c.in-Some.ensures.within, c.place_after-begin.ensures.line, c.loop-line.invariant.line);
      column = omega (arith, c.in-Some.ensures.within, c.place_after-begin.ensures.column, c.loop-line.invariant.column);
      blocks = omega (arith, c.in-Some.ensures.shorter);
      names = c.in_default-read_line.ensures.names;
      rest = rw c.place_after-begin.ensures.seen
          (sym (rules_more text next c.loop-line.begin line rest c.in_default-read_line.ensures.read)
          ∙ ap (placed_rules_from text c.loop-line.begin) (sym c.in-Some.ensures.lines)
          ∙ c.loop-line.invariant.rest);
    }

pub returns-clause-rules : goal.returns-clause-rules
returns-clause-rules c =
    let text = text_seen c.loop-line.reader in
    rules_at_last c.finish.result (placed_rules_at_end text) (placed_rules_in c.args.text.now)
    (sym c.loop-line.invariant.rest ∙ ap (placed_rules_from text c.loop-line.begin) c.in_default.ensures.lines ∙ rules_end text c.loop-line.begin)
    c.finish.ensures.ok

pub returns-clause-fault : goal.returns-clause-fault
returns-clause-fault c =
    let text = text_seen c.loop-line.reader in
    fault_at_last c.finish.result (placed_rules_at_end text) (placed_rules_in c.args.text.now)
    (sym c.loop-line.invariant.rest ∙ ap (placed_rules_from text c.loop-line.begin) c.in_default.ensures.lines ∙ rules_end text c.loop-line.begin)
    c.finish.ensures.err
