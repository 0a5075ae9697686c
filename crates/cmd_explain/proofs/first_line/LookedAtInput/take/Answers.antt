-- Octets of those that were looked at.
use Rattle.std.proofs.Common.{◌≡◌, ◌≤◌, ◌∙◌, ap, arith, drop, length, take, List, ℕ}
use Rattle.cmd_explain.proofs.WordFront.{taken}
use Rattle.cmd_explain.proofs.first_line.LookedAtInput.take.Goals as goal

pub returns-clause-octets : goal.returns-clause-octets
returns-clause-octets g c = λ known.
    let front = c.args.self.now.front.items in
    let given = c.args.self.now.given in
    let count = c.min-count.result in
    let left : c.after-left.result.now ≡ drop given front = c.after-left.ensures ∙ ap (λ (xs : List ℕ). drop given xs) c.deref.ensures.value in
    let within : count ≤ length (drop given front) = omega (arith, c.min-count.ensures, ap length left) in
    taken front c.copy_from_slice.new.self _ (g.I.Input.rest c.args.self.now.input) given count within
    (c.copy_from_slice.ensures.after ∙ ap (λ (xs : List ℕ). take count xs) left)
