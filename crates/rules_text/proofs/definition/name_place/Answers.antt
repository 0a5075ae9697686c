use Rattle.std.proofs.Common.{◌+◌, Err, drop, slice_range, sym, ap, ◌∙◌}
use Rattle.rules_text.specs.RuleTokens.{tokens_from}
use Rattle.rules_text.specs.declared.fault.RuleFault.{RuleFault}
use Rattle.rules_text.specs.SeenTokens.{found_seen}
use Rattle.rules_text.specs.inner.SeenReading.{names_seen}
use Rattle.rules_text.proofs.NamePlaces.{has_place, letters_same, name_bad, name_good, sign_bad, sign_good, sign_none}
use Rattle.rules_text.proofs.definition.name_place.Goals as goal

pub returns-in-Err-clause-err : goal.returns-in-Err-clause-err
returns-in-Err-clause-err c =
    let name = c.in-Some.name in
    let line = c.args.line.now in
    let after = c.args.from + 1 in
    name_bad (names_seen c.args.names.now) line after (tokens_from after 0 (drop c.args.from line)) (found_seen name) (tokens_from (name.end + 1) 0 (drop name.end line))
    (slice_range line name.start name.end) c.in-Err.kind c.in-Some.ensures.tokens (letters_same line name) (sym c.in-Err.ensures.found)
    ∙ ap (λ (fault : RuleFault). Err fault) (sym (c.fault_in_line-in-Err.ensures ∙ has_place 0 (name.start + 1) c.in-Err.kind c.in-Err.ensures.placed))

pub returns-in_default-next_token-clause-err : goal.returns-in_default-next_token-clause-err
returns-in_default-next_token-clause-err c =
    let name = c.in-Some.name in
    let line = c.args.line.now in
    let after = c.args.from + 1 in
    let letters = slice_range line name.start name.end in
    let rest = tokens_from (name.end + 1) 0 (drop name.end line) in
    name_good (names_seen c.args.names.now) line after (tokens_from after 0 (drop c.args.from line)) (found_seen name) rest letters c.in-Some.ensures.tokens (letters_same line name)
    (sym c.in_default-check_name.ensures.found)
    ∙ sign_none letters (name.start + 1) (name.end + 1) rest c.in_default-next_token.ensures.tokens
    ∙ ap (λ (fault : RuleFault). Err fault) (sym c.fault_in_line-in_default-next_token.ensures)

pub returns-then-not-equal-clause-err : goal.returns-then-not-equal-clause-err
returns-then-not-equal-clause-err c =
    let name = c.in-Some.name in
    let sign = c.in-Some-next_token.sign in
    let line = c.args.line.now in
    let after = c.args.from + 1 in
    let letters = slice_range line name.start name.end in
    let rest = tokens_from (name.end + 1) 0 (drop name.end line) in
    name_good (names_seen c.args.names.now) line after (tokens_from after 0 (drop c.args.from line)) (found_seen name) rest letters c.in-Some.ensures.tokens (letters_same line name)
    (sym c.in_default-check_name.ensures.found)
    ∙ sign_bad letters (name.start + 1) (name.end + 1) rest (found_seen sign) (tokens_from (sign.end + 1) 0 (drop sign.end line)) c.in-Some-next_token.ensures.tokens
    (sym c.equal.ensures ∙ c.if-not-equal.true)
    ∙ ap (λ (fault : RuleFault). Err fault) (sym c.fault_in_line-then-not-equal.ensures)

pub returns-clause-ok : goal.returns-clause-ok
returns-clause-ok c =
    let name = c.in-Some.name in
    let sign = c.in-Some-next_token.sign in
    let line = c.args.line.now in
    let after = c.args.from + 1 in
    let letters = slice_range line name.start name.end in
    let rest = tokens_from (name.end + 1) 0 (drop name.end line) in
    name_good (names_seen c.args.names.now) line after (tokens_from after 0 (drop c.args.from line)) (found_seen name) rest letters c.in-Some.ensures.tokens (letters_same line name)
    (sym c.in_default-check_name.ensures.found)
    ∙ sign_good letters (name.start + 1) (name.end + 1) rest (found_seen sign) (tokens_from (sign.end + 1) 0 (drop sign.end line)) c.in-Some-next_token.ensures.tokens
    (sym c.equal.ensures ∙ c.if-not-equal.false)
