-- The digits lead to the number, or end before it.
use Rattle.std.proofs.Common.{◌≡◌, ◌<◌, Some, None, length, get_or, sym, ◌∙◌, arith}
use Rattle.std.proofs.lemmas.Grind.{common_steps}
use Rattle.text_script.specs.inner.Digits.{with_digit}
use Rattle.text_script.proofs.NumberLemmas.{number_begins, number_ends, number_goes_on, number_stops, shifted-within}
use Rattle.text_script.proofs.script_words.long_number.Goals as goal

pub returns-in_default-shifted : goal.returns-in_default-shifted
returns-in_default-shifted c =
    let none : with_digit c.loop-rest.value (get_or c.loop-rest.rest.now 0 0) ≡ None = cc in
    sym (number_stops c.loop-rest.value c.loop-rest.rest.now c.in-len1-up.len_at_least none) ∙ c.loop-rest.invariant.0

pub loop-rest-init : goal.loop-rest-init
loop-rest-init c =
    let some : 0 < length c.args.word.now = grind (arith, common_steps) in
    (number_begins c.args.word.now some, omega arith)

pub loop-rest-preserved : goal.loop-rest-preserved
loop-rest-preserved c =
    let next : with_digit c.loop-rest.value (get_or c.loop-rest.rest.now 0 0) ≡ Some c.in-Some.next = cc in (
      number_goes_on c.loop-rest.value c.in-Some.next c.loop-rest.rest.now c.in-len1-up.len_at_least next ∙ c.loop-rest.invariant.0,
      shifted-within c.loop-rest.value (get_or c.loop-rest.rest.now 0 0) c.in-Some.next next,
    )

pub returns : goal.returns
returns c =
    sym (number_ends c.loop-rest.value c.loop-rest.rest.now c.in_default.len_below c.loop-rest.invariant.1) ∙ c.loop-rest.invariant.0
