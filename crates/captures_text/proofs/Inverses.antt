-- A division as a multiplication by an inverse.
use Rattle.std.proofs.Common.{◌≡◌, ◌≤◌, ◌<◌, ◌*◌, ◌/◌, ◌+◌, ◌-◌, ℕ, arith, ap, ◌∙◌}
use Rattle.std.proofs.Math.Nat.{add-mul-div_right, div-mul-le_self, le_of_mul-le-mul_right, mul-le-mul_right, mul_assoc, mul_comm, mul_right_comm, sub-add_cancel}

-- A number times the inverse, by 2^64, is no more than the quotient.
pub estimate_small : (number inverse by : ℕ) → inverse * by < 18446744073709551616
    → number * inverse / 18446744073709551616 * by ≤ number
estimate_small number inverse by small =
    let product = number * inverse in
    let quotient = product / 18446744073709551616 in
    let below : quotient * 18446744073709551616 * by ≤ product * by =
    mul-le-mul_right by (div-mul-le_self product 18446744073709551616) in
    let whole : inverse * by * number ≤ 18446744073709551616 * number = mul-le-mul_right number (omega (arith, small)) in
    let moved : product * by ≡ inverse * by * number = mul_assoc number inverse by ∙ mul_comm number (inverse * by) in
    let turned : quotient * 18446744073709551616 * by ≡ quotient * by * 18446744073709551616 = mul_right_comm quotient 18446744073709551616 by in
    le_of_mul-le-mul_right {k = 18446744073709551616} (omega (arith, below, whole, moved, turned)) (omega arith)

-- Some of the quotient, and the quotient of the rest.
pub quotient_of_rest : (number some by : ℕ) → 0 < by → some * by ≤ number → some + (number - some * by) / by ≡ number / by
quotient_of_rest number some by positive small =
    let parts = add-mul-div_right (number - some * by) some positive in
    let back = ap (λ (n : ℕ). n / by) (sub-add_cancel small) in
    omega (arith, parts, back)
