use Rattle.std.proofs.Common.{◌≡◌, ◌≢◌, ◌+◌, ◌-◌, ◌*◌, ◌/◌, suc, length, take, drop, Some, arith, ◌∙◌, sym, ap}
use Rattle.std.proofs.lemmas.List.{drop_min}
use Rattle.captures.specs.Framing.{half_in_order}
use Rattle.captures.specs.InterfaceOptions.{option_among, option_octets}
use Rattle.captures.proofs.OptionsRead.{found, goes_on, none_cut, none_last, none_short}
use Rattle.captures.proofs.interface_options.option_in.Goals as goal

pub loop-init : goal.loop-init
loop-init c =
    let whole : length c.args.options.now / 4 - 0 ≡ length c.args.options.now / 4 = omega arith in
    record { within = omega arith; same = ap (λ n. option_among n c.args.order c.args.code c.args.options.now) whole }

pub returns-then-rest-lt-OPTION_HEADER_OCTETS : goal.returns-then-rest-lt-OPTION_HEADER_OCTETS
returns-then-rest-lt-OPTION_HEADER_OCTETS c =
    sym (none_short (length c.args.options.now / 4 - c.loop.counter) c.args.order c.args.code c.loop.rest.now (omega arith)) ∙ c.loop.invariant.same

pub returns-then-found-eq0 : goal.returns-then-found-eq0
returns-then-found-eq0 c =
    sym (none_last (length c.args.options.now / 4 - c.loop.counter) c.args.order c.args.code c.loop.rest.now (omega arith)
    (sym c.half_in-found.ensures ∙ c.if-found-eq0.true)) ∙ c.loop.invariant.same

pub returns-then-rest-size : goal.returns-then-rest-size
returns-then-rest-size c =
    let more : half_in_order c.args.order c.loop.rest.now ≢ 0 = λ is. c.if-found-eq0.false (c.half_in-found.ensures ∙ is) in
    let size : c.from-size.result ≡ half_in_order c.args.order (drop 2 c.loop.rest.now) =
    c.from-size.ensures ∙ c.half_in.ensures ∙ ap (half_in_order c.args.order) c.from_place.ensures.octets in
    sym (none_cut (length c.args.options.now / 4 - c.loop.counter) c.args.order c.args.code c.loop.rest.now (omega arith) more
    (omega (arith, size))) ∙ c.loop.invariant.same

pub returns-then-found-code : goal.returns-then-found-code
returns-then-found-code c =
    let rest = c.loop.rest.now in
    let left = length c.args.options.now / 4 - (c.loop.counter + 1) in
    let more : half_in_order c.args.order rest ≢ 0 = λ is. c.if-found-eq0.false (c.half_in-found.ensures ∙ is) in
    let size : c.from-size.result ≡ half_in_order c.args.order (drop 2 rest) =
    c.from-size.ensures ∙ c.half_in.ensures ∙ ap (half_in_order c.args.order) c.from_place.ensures.octets in
    let turn : length c.args.options.now / 4 - c.loop.counter ≡ suc left = omega arith in
    ap (λ xs. Some (take c.from-size.result xs)) c.from_place-then-found-code.ensures.octets
    ∙ ap (λ n. Some (take n (drop 4 rest))) size
    ∙ sym (found left c.args.order c.args.code rest (omega arith) more (omega (arith, size)) (sym c.half_in-found.ensures ∙ c.if-found-code.true))
    ∙ sym (ap (λ n. option_among n c.args.order c.args.code rest) turn) ∙ c.loop.invariant.same

pub loop-preserved : goal.loop-preserved
loop-preserved c =
    let rest = c.loop.rest.now in
    let left = length c.args.options.now / 4 - (c.loop.counter + 1) in
    let more : half_in_order c.args.order rest ≢ 0 = λ is. c.if-found-eq0.false (c.half_in-found.ensures ∙ is) in
    let other : half_in_order c.args.order rest ≢ c.args.code = λ is. c.if-found-code.false (c.half_in-found.ensures ∙ is) in
    let size : c.from-size.result ≡ half_in_order c.args.order (drop 2 rest) =
    c.from-size.ensures ∙ c.half_in.ensures ∙ ap (half_in_order c.args.order) c.from_place.ensures.octets in
    let turn : length c.args.options.now / 4 - c.loop.counter ≡ suc left = omega arith in
    record {
      within = omega arith;
      same =
          ap (option_among left c.args.order c.args.code)
          (c.from_place-rest.ensures.octets ∙ ap (λ n. drop n rest) c.min.ensures
          ∙ drop_min (4 + (c.from-size.result + 3) / 4 * 4) rest ∙ ap (λ n. drop (option_octets n) rest) size)
          ∙ sym (goes_on left c.args.order c.args.code rest (omega arith) more (omega (arith, size)) other)
          ∙ sym (ap (λ n. option_among n c.args.order c.args.code rest) turn) ∙ c.loop.invariant.same;
    }

pub returns : goal.returns
unfolding option_among
returns c =
    let none : length c.args.options.now / 4 - c.loop.counter ≡ 0 = omega arith in
    sym (ap (λ n. option_among n c.args.order c.args.code c.loop.rest.now) none) ∙ c.loop.invariant.same
