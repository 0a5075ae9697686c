-- The digits lead to the number, which is never too large.
use Rattle.std.proofs.Common.{◌≡◌, Some, None, length, get_or, sym, ◌∙◌, arith}
use Rattle.text_script.specs.inner.Digits.{with_digit}
use Rattle.text_script.proofs.NumberLemmas.{digit-most, few-begins, few-ends, few-goes_on, few-within, number_begins, number_ends, number_goes_on, number_stops}
use Rattle.text_script.proofs.script_words.short_number.Goals as goal

pub appended-requires : goal.appended-requires
appended-requires c =
    few-within c.loop-rest.value (length c.args.word.now) (length c.loop-rest.rest.now) c.in-len1-up.len_at_least c.loop-rest.invariant.1 c.requires.few c.loop-rest.invariant.2

pub returns-in_default-appended : goal.returns-in_default-appended
returns-in_default-appended c =
    let none : with_digit c.loop-rest.value (get_or c.loop-rest.rest.now 0 0) ≡ None = cc in
    sym (number_stops c.loop-rest.value c.loop-rest.rest.now c.in-len1-up.len_at_least none) ∙ c.loop-rest.invariant.0

pub loop-rest-init : goal.loop-rest-init
loop-rest-init c = (number_begins c.args.word.now c.requires.some, omega arith, few-begins (length c.args.word.now))

pub loop-rest-preserved : goal.loop-rest-preserved
loop-rest-preserved c =
    let next : with_digit c.loop-rest.value (get_or c.loop-rest.rest.now 0 0) ≡ Some c.in-Some.next = cc in
    let most = digit-most c.loop-rest.value (get_or c.loop-rest.rest.now 0 0) c.in-Some.next next in (
      number_goes_on c.loop-rest.value c.in-Some.next c.loop-rest.rest.now c.in-len1-up.len_at_least next ∙ c.loop-rest.invariant.0,
      omega arith,
      few-goes_on c.loop-rest.value c.in-Some.next (length c.args.word.now) c.loop-rest.rest.now c.in-len1-up.len_at_least c.loop-rest.invariant.1 c.loop-rest.invariant.2 most,
    )

pub returns : goal.returns
returns c =
    let within = few-ends c.loop-rest.value (length c.args.word.now) (length c.loop-rest.rest.now) c.requires.few c.loop-rest.invariant.2 in
    sym (number_ends c.loop-rest.value c.loop-rest.rest.now c.in_default.len_below within) ∙ c.loop-rest.invariant.0
