use Rattle.std.proofs.Common.{◌+◌, List, drop, map, sym, ap, ◌∙◌}
use Rattle.rules_text.specs.Names.{room_left}
use Rattle.rules_text.specs.RuleTokens.{RuleFound, tokens_from}
use Rattle.rules_text.specs.SeenTokens.{found_seen, rule_token_seen}
use Rattle.rules_text.specs.inner.SeenReading.{names_seen}
use Rattle.rules_text.proofs.NameSteps.{left_end, left_more}
use Rattle.rules_text.proofs.NameTables.{less_seen}
use Rattle.rules_text.proofs.statement_reader.room_after_line.Goals as goal

pub loop-found-preserved : goal.loop-found-preserved
loop-found-preserved c =
    let names = names_seen c.args.names.now in
    let line = c.args.line.now in
    let found = c.in-Some.found in
    let rest = tokens_from (found.end + 1) 0 (drop found.end line) in
    record {
      within = c.in-Some.ensures.places.2;
      rest =
          sym (left_more names c.loop-found.room line (found_seen found) rest (map rule_token_seen c.meant_by-meant.result.now) c.saturating_sub-room.result c.meant_by-meant.ensures
          (less_seen c.saturating_sub-room.result c.loop-found.room c.meant_by-meant.result.now c.saturating_sub-room.ensures))
          ∙ ap (λ (t : List RuleFound). room_left names c.loop-found.room line t) (sym c.in-Some.ensures.tokens)
          ∙ c.loop-found.invariant.rest;
    }

pub returns : goal.returns
returns c =
    let names = names_seen c.args.names.now in
    let line = c.args.line.now in
    sym (left_end names c.loop-found.room line)
    ∙ ap (λ (t : List RuleFound). room_left names c.loop-found.room line t) (sym c.in_default.ensures.tokens)
    ∙ c.loop-found.invariant.rest
