use Rattle.std.proofs.Common.{◌≡◌, ◌+◌, ◌*◌, ◌<◌, ◌≤◌, ◌^◌, ℕ, length, get_or, drop, subst, arith}
use Rattle.bpf_asm.specs.Numbers.{digit_of, value_after}
use Rattle.bpf_asm.proofs.octets.Reading.{value_end, value_large, value_more, value_stops}
use Rattle.bpf_asm.proofs.octets.OctetTests.{not_zero}
use Rattle.bpf_asm.proofs.token.value.Goals as goal

pub returns-then-digit-base : goal.returns-then-digit-base
returns-then-digit-base c =
    value_stops c.args.base c.loop-octet.value c.args.digits.now c.loop-octet.octet-index (omega arith) (omega arith) c.loop-octet.invariant.after

pub returns-then-value-gt-MOST_NUMBER : goal.returns-then-value-gt-MOST_NUMBER
returns-then-value-gt-MOST_NUMBER c =
    let digits = c.args.digits.now in
    let at = c.loop-octet.octet-index in
    let next = value_more c.args.base c.loop-octet.value digits at (value_after c.args.base 0 digits) (omega arith) (omega arith) c.loop-octet.invariant.after in
    let same : c.loop-octet.value * c.from.result + c.from-in-loop-octet.result ≡ c.loop-octet.value * c.args.base + digit_of (get_or digits at 0) = cc in
    let some : 0 < length digits = omega arith in
    let large : 2 ^ 32 ≤ c.loop-octet.value * c.args.base + digit_of (get_or digits at 0) = omega (arith, same, c.if-value-gt-MOST_NUMBER.true) in
    value_large c.args.base _ digits (drop (at + 1) digits) some c.requires.low large next

pub loop-octet-preserved : goal.loop-octet-preserved
loop-octet-preserved c =
    let digits = c.args.digits.now in
    let at = c.loop-octet.octet-index in
    let next = value_more c.args.base c.loop-octet.value digits at (value_after c.args.base 0 digits) (omega arith) (omega arith) c.loop-octet.invariant.after in
    let same : c.loop-octet.value * c.args.base + digit_of (get_or digits at 0) ≡ c.loop-octet.value * c.from.result + c.from-in-loop-octet.result = cc in
    record { small = omega arith; after = subst (λ (n : ℕ). value_after c.args.base n (drop (at + 1) digits) ≡ value_after c.args.base 0 digits) same next }

pub returns : goal.returns
returns c =
    value_end c.args.base c.loop-octet.value c.args.digits.now c.loop-octet.octet-index (not_zero _ c.is_empty.result c.is_empty.ensures c.if-is_empty.false) (omega arith) c.loop-octet.invariant.small c.loop-octet.invariant.after
