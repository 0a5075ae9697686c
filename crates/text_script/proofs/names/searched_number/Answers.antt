use Rattle.std.proofs.Common.{◌≡◌, ◌-◌, ◌<◌, get_or, length, sym, ◌∙◌, arith}
use Rattle.std.proofs.lemmas.Option.{get_or_from_slice_get, slice_get-get_or}
use Rattle.gen_arena.specs.declared.id.Id.{Id}
use Rattle.text_script.proofs.NamingLemmas.{found-here, not-here}
use Rattle.text_script.proofs.names.searched_number.Goals as goal

pub returns-then-eq : goal.returns-then-eq
returns-then-eq c =
    let number = c.loop-number.number in
    let none : Id = record { slot = 0; generation = 0 } in
    let here : Id = get_or c.args.ids.now (number - 1) none in
    let within : number - 1 < length c.args.ids.now = let some = c.loop-number-test.true in let most = c.loop-number.invariant.within in omega arith in
    let is : here ≡ get_or c.args.ids.now (number - 1) here =
    sym (get_or_from_slice_get c.args.ids.now (number - 1) here here (slice_get-get_or c.args.ids.now (number - 1) none within)) in
    found-here c.args.ids.now c.args.id here number c.loop-number-test.true c.loop-number.invariant is (sym c.eq.ensures ∙ c.if-eq.true)

pub loop-number-preserved : goal.loop-number-preserved
loop-number-preserved c =
    let number = c.loop-number.number in
    let none : Id = record { slot = 0; generation = 0 } in
    let here : Id = get_or c.args.ids.now (number - 1) none in
    let within : number - 1 < length c.args.ids.now = let some = c.loop-number-test.true in let most = c.loop-number.invariant.within in omega arith in
    let is : here ≡ get_or c.args.ids.now (number - 1) here =
    sym (get_or_from_slice_get c.args.ids.now (number - 1) here here (slice_get-get_or c.args.ids.now (number - 1) none within)) in
    not-here c.args.ids.now c.args.id here number c.loop-number-test.true c.loop-number.invariant is (sym c.eq.ensures ∙ c.if-eq.false)
