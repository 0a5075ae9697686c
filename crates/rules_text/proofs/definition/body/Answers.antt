use Rattle.std.proofs.Common.{◌+◌, ◌-◌, List, length, refl, ◌++◌, drop, map, sym, ap, ◌∙◌}
use Rattle.std.proofs.lemmas.List.{length-map}
use Rattle.rules_text.specs.Names.{expanded, read_for, rule_form}
use Rattle.rules_text.specs.RuleTokens.{RuleFound, RuleToken, tokens_from}
use Rattle.rules_text.specs.SeenTokens.{found_seen, rule_token_seen}
use Rattle.rules_text.specs.inner.SeenReading.{names_seen}
use Rattle.rules_text.proofs.NamePlaces.{body_last, body_many, body_next}
use Rattle.rules_text.proofs.NameSteps.{body_end, body_more}
use Rattle.rules_text.proofs.NameTables.{less_seen}
use Rattle.rules_text.proofs.definition.body.Goals as goal

abbrev tokens : List RuleFound → List RuleToken
tokens found = map (λ it. it.token) found

pub returns-then-not-branch : goal.returns-then-not-branch
returns-then-not-branch c =
    let names = names_seen c.args.names.now in
    let line = c.args.line.now in
    let found = c.in-Some.found in
    let column = c.loop-found.from + 1 in
    let meant = map rule_token_seen c.meant_by-meant.result.now in
    let rest = tokens_from (found.end + 1) 0 (drop found.end line) in
    let made = map rule_token_seen c.loop-found.tokens.items in
    body_many made (read_for rule_form (rule_token_seen found.token) meant) (tokens (expanded names (c.loop-found.room - length c.meant_by-meant.result.now) rule_form line (found.end + 1) rest))
    (tokens (expanded names c.args.allowed rule_form line (c.args.after + 1) (tokens_from (c.args.after + 1) 0 (drop c.args.after line))))
    (ap (λ (t : List RuleToken). made ++ t)
    (sym (body_more names c.loop-found.room line column (found_seen found) rest meant _ c.meant_by-meant.ensures (less_seen _ c.loop-found.room c.meant_by-meant.result.now refl))
    ∙ ap (λ (t : List RuleFound). tokens (expanded names c.loop-found.room rule_form line column t)) (sym c.in-Some.ensures.tokens))
    ∙ c.loop-found.invariant.rest)
    (rw (length-map c.loop-found.tokens.items rule_token_seen) (c.in_ok-add_token.ensures.many c.if-not-branch.true))

pub loop-found-preserved : goal.loop-found-preserved
loop-found-preserved c =
    let names = names_seen c.args.names.now in
    let line = c.args.line.now in
    let found = c.in-Some.found in
    let column = c.loop-found.from + 1 in
    let meant = map rule_token_seen c.meant_by-meant.result.now in
    let rest = tokens_from (found.end + 1) 0 (drop found.end line) in
    record {
      within = c.in-Some.ensures.places.2;
      few = c.in_ok-add_token.ensures.few c.if-not-branch.false;
      rest = body_next (map rule_token_seen c.add_token.new.tokens.items) (map rule_token_seen c.loop-found.tokens.items) (read_for rule_form (rule_token_seen found.token) meant)
          (tokens (expanded names c.loop-found.room rule_form line column (tokens_from column 0 (drop c.loop-found.from line))))
          (tokens (expanded names c.saturating_sub-room.result rule_form line (found.end + 1) rest))
          (tokens (expanded names c.args.allowed rule_form line (c.args.after + 1) (tokens_from (c.args.after + 1) 0 (drop c.args.after line))))
          (c.in_ok-add_token.ensures.added c.if-not-branch.false)
          (ap (λ (t : List RuleFound). tokens (expanded names c.loop-found.room rule_form line column t)) c.in-Some.ensures.tokens
          ∙ body_more names c.loop-found.room line column (found_seen found) rest meant _ c.meant_by-meant.ensures (less_seen c.saturating_sub-room.result c.loop-found.room c.meant_by-meant.result.now c.saturating_sub-room.ensures))
          c.loop-found.invariant.rest;
    }

pub returns : goal.returns
returns c =
    let names = names_seen c.args.names.now in
    let line = c.args.line.now in
    let column = c.loop-found.from + 1 in (
      body_last (map rule_token_seen c.loop-found.tokens.items)
          (tokens (expanded names c.loop-found.room rule_form line column (tokens_from column 0 (drop c.loop-found.from line))))
          (tokens (expanded names c.args.allowed rule_form line (c.args.after + 1) (tokens_from (c.args.after + 1) 0 (drop c.args.after line))))
          (ap (λ (t : List RuleFound). tokens (expanded names c.loop-found.room rule_form line column t)) c.in_default.ensures.tokens ∙ body_end names c.loop-found.room line column)
          c.loop-found.invariant.rest,
      c.loop-found.invariant.few,
    )
