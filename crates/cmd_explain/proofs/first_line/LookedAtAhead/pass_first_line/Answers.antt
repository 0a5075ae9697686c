-- The first line, or the whole input, decides.
use Rattle.std.proofs.Common.{◌≡◌, ◌++◌, ℕ, List, drop, ap, sym, subst, ◌∙◌}
use Rattle.cmd_explain.specs.InputKinds.{PassesFirst}
use Rattle.cmd_explain.proofs.FirstLineRead.{passes_on}
use Rattle.cmd_explain.proofs.first_line.LookedAtAhead.pass_first_line.Goals as goal

pub returns-clause-octets : goal.returns-clause-octets
returns-clause-octets g c = λ known.
    let front = c.look.new.octets.items in
    let rest = g.I.Input.rest c.look.new.input in
    let before = g.I.Input.rest c.args.self.now.input in
    let start = c.in-Ok.ensures ∙ c.after.ensures ∙ ap (λ (xs : List ℕ). drop c.args.self.now.given xs) c.deref.ensures.value in
    let whole = c.in_ok-look.ensures.same known ∙ ap (λ (xs : List ℕ). xs ++ before) start in
    let kind = c.first_line-kind.result.0 in
    let size = c.first_line-kind.result.1 in
    let found : PassesFirst kind front (drop size front) = subst (λ (xs : List ℕ). PassesFirst kind xs (drop size xs)) c.deref-2.ensures.value c.first_line-kind.ensures in
    subst (λ (xs : List ℕ). PassesFirst kind xs (drop size front ++ rest)) whole (passes_on kind front (drop size front) rest (c.in_ok-look.ensures.enough known) found)
