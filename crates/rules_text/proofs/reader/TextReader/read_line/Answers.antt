use Rattle.std.proofs.Common.{◌≡◌, inr, ◌+◌, Ok, Err, drop, sym, ap, ◌∙◌}
use Rattle.rules_text.specs.RuleTokens.{tokens_from}
use Rattle.rules_text.specs.TextOfRules.{TextReading, text_with_name}
use Rattle.rules_text.specs.declared.fault.RuleFault.{RuleFault}
use Rattle.rules_text.specs.SeenTokens.{found_seen}
use Rattle.rules_text.specs.inner.SeenReading.{line_statement_seen, name_seen, text_seen}
use Rattle.rules_text.proofs.ReadingSteps.{line_empty, line_closed, line_with_statement, line_with_name, line_name_fault, line_fault, all_taken, part_returned}
use Rattle.rules_text.proofs.reader.TextReader.read_line.Goals as goal

pub returns-in_default-clause-read : goal.returns-in_default-clause-read
returns-in_default-clause-read c = line_empty (text_seen c.args.self.now) c.args.begin c.args.line.now c.in_default.ensures.tokens

pub returns-then-self-clause-read : goal.returns-then-self-clause-read
returns-then-self-clause-read c =
    let first = c.in-Some.first in
    inr (line_closed (text_seen c.args.self.now) c.args.begin c.args.line.now (found_seen first) (tokens_from (first.end + 1) 0 (drop first.end c.args.line.now)) c.in-Some.ensures.tokens c.if-self.true
    ∙ ap (λ (fault : RuleFault). Err fault) (sym c.fault_in_line.ensures))

pub returns-in_err-name-clause-read : goal.returns-in_err-name-clause-read
returns-in_err-name-clause-read c =
    let first = c.in-Some.first in
    let text = text_seen c.args.self.now in
    part_returned c.from_residual.result _ _ _ _ c.from_residual.ensures.1
    (λ own e. line_name_fault text c.args.begin c.args.line.now (found_seen first) (tokens_from (first.end + 1) 0 (drop first.end c.args.line.now)) own c.in-Some.ensures.tokens c.if-self.false (sym c.is_giving.ensures ∙ c.if-is_giving.true) e) c.in_err-name.ensures.read

pub returns-then-is_giving-clause-read : goal.returns-then-is_giving-clause-read
returns-then-is_giving-clause-read c =
    let first = c.in-Some.first in
    let text = text_seen c.args.self.now in
    let name = name_seen c.in_ok-name.name in
    all_taken c.take_name.result _ (text_seen c.take_name.new.self) (text_with_name (text_seen c.spend.new.self) name ≡ text_seen c.take_name.new.self) (λ e.
    line_with_name text c.args.begin c.args.line.now (found_seen first) (tokens_from (first.end + 1) 0 (drop first.end c.args.line.now)) name (text_seen c.spend.new.self) c.spend.ensures.room c.in-Some.ensures.tokens c.if-self.false (sym c.is_giving.ensures ∙ c.if-is_giving.true) c.in_ok-name.ensures.read
    ∙ ap (λ (next : TextReading). Ok next) e) c.take_name.ensures.ok c.take_name.ensures.err

pub returns-in_err-statement-clause-read : goal.returns-in_err-statement-clause-read
returns-in_err-statement-clause-read c =
    let first = c.in-Some.first in
    let text = text_seen c.args.self.now in
    part_returned c.from_residual-in_err-statement.result _ _ _ _ c.from_residual-in_err-statement.ensures.1
    (λ own e. line_fault text c.args.begin c.args.line.now (found_seen first) (tokens_from (first.end + 1) 0 (drop first.end c.args.line.now)) own c.in-Some.ensures.tokens c.if-self.false (sym c.is_giving.ensures ∙ c.if-is_giving.false) e) c.in_err-statement.ensures

pub returns-in-Ok-clause-read : goal.returns-in-Ok-clause-read
returns-in-Ok-clause-read c =
    let first = c.in-Some.first in
    let text = text_seen c.args.self.now in
    line_with_statement text c.args.begin c.args.line.now (found_seen first) (tokens_from (first.end + 1) 0 (drop first.end c.args.line.now)) (line_statement_seen c.in_ok-statement.statement) (text_seen c.spend-2.new.self) c.spend-2.ensures.room c.in-Some.ensures.tokens c.if-self.false (sym c.is_giving.ensures ∙ c.if-is_giving.false) c.in_ok-statement.ensures
    ∙ ap (λ (next : TextReading). Ok next) c.in-Ok.ensures.ok
