use Rattle.std.proofs.Common.{◌+◌, List, drop, map, sym, ap, ◌∙◌}
use Rattle.rules_text.specs.Names.{expanded}
use Rattle.rules_text.specs.RuleTokens.{RuleFound, tokens_from}
use Rattle.rules_text.specs.TextOfRules.{statement_from}
use Rattle.rules_text.specs.SeenTokens.{found_seen, rule_token_seen}
use Rattle.rules_text.specs.inner.SeenReading.{context_seen, form_seen, names_seen, reading_seen}
use Rattle.rules_text.proofs.NameSteps.{found_fault, found_more, line_end_fault, line_ended}
use Rattle.rules_text.proofs.NameTables.{less_seen}
use Rattle.rules_text.proofs.ReadingSteps.{line_finished, part_returned}
use Rattle.rules_text.proofs.statement_reader.statement_in.Goals as goal

pub returns-in_err-read_found : goal.returns-in_err-read_found
returns-in_err-read_found c =
    let context = context_seen c.args.context in
    let names = names_seen c.args.names.now in
    let form = form_seen c.args.form in
    let line = c.args.line.now in
    let column = c.loop-found.from + 1 in
    let reading = reading_seen c.loop-found.reader in
    let found = c.in-Some.found in
    let rest = tokens_from (found.end + 1) 0 (drop found.end line) in
    part_returned c.from_residual.result _ _ _ _ c.from_residual.ensures.1 (λ own e.
    sym c.loop-found.invariant.rest
    ∙ ap (λ (t : List RuleFound). statement_from context reading column (expanded names c.loop-found.room form line column t)) c.in-Some.ensures.tokens
    ∙ found_fault context names c.loop-found.room form line reading own column (found_seen found) rest (map rule_token_seen c.meant_by-meant.result.now) c.meant_by-meant.ensures e)
    c.in_err-read_found.ensures

pub loop-found-preserved : goal.loop-found-preserved
loop-found-preserved c =
    let context = context_seen c.args.context in
    let names = names_seen c.args.names.now in
    let form = form_seen c.args.form in
    let line = c.args.line.now in
    let column = c.loop-found.from + 1 in
    let reading = reading_seen c.loop-found.reader in
    let next = reading_seen c.read_found.new.self in
    let found = c.in-Some.found in
    let rest = tokens_from (found.end + 1) 0 (drop found.end line) in
    record {
      within = c.in-Some.ensures.places.2;
      rest =
          sym (found_more context names c.loop-found.room form line reading next column (found_seen found) rest (map rule_token_seen c.meant_by-meant.result.now) _ c.meant_by-meant.ensures (less_seen c.saturating_sub-room.result c.loop-found.room c.meant_by-meant.result.now c.saturating_sub-room.ensures) c.in_ok-read_found.ensures)
          ∙ ap (λ (t : List RuleFound). statement_from context reading column (expanded names c.loop-found.room form line column t)) (sym c.in-Some.ensures.tokens)
          ∙ c.loop-found.invariant.rest;
    }

pub returns-in_err-read_end : goal.returns-in_err-read_end
returns-in_err-read_end c =
    let context = context_seen c.args.context in
    let names = names_seen c.args.names.now in
    let form = form_seen c.args.form in
    let line = c.args.line.now in
    let column = c.loop-found.from + 1 in
    let reading = reading_seen c.loop-found.reader in
    part_returned c.from_residual-in_err-read_end.result _ _ _ _ c.from_residual-in_err-read_end.ensures.1 (λ own e.
    sym c.loop-found.invariant.rest
    ∙ ap (λ (t : List RuleFound). statement_from context reading column (expanded names c.loop-found.room form line column t)) c.in_default.ensures.tokens
    ∙ line_end_fault context names c.loop-found.room form line reading own column e)
    c.in_err-read_end.ensures

pub returns : goal.returns
returns c =
    let context = context_seen c.args.context in
    let names = names_seen c.args.names.now in
    let form = form_seen c.args.form in
    let line = c.args.line.now in
    let column = c.loop-found.from + 1 in
    let reading = reading_seen c.loop-found.reader in
    let next = reading_seen c.read_end.new.self in
    line_finished c.finish.result _ (sym c.loop-found.invariant.rest
    ∙ ap (λ (t : List RuleFound). statement_from context reading column (expanded names c.loop-found.room form line column t)) c.in_default.ensures.tokens
    ∙ line_ended context names c.loop-found.room form line reading next column c.in_ok-read_end.ensures
    ∙ sym (c.finish.ensures context))
