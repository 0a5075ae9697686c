-- The collected answers grew by the answer to a line over the limits.
use Rattle.std.proofs.Common.{List, ℕ, subst}
use Rattle.std.proofs.lemmas.Result.{IfErr-weaker}
use Rattle.text_io.specs.Devices.{IsPart}
use Rattle.text_io.proofs.driver.end_too_long.Goals as goal

pub returns-in-Ok-clause-front : goal.returns-in-Ok-clause-front
returns-in-Ok-clause-front g c = λ known.
    let P : List ℕ → Type 0 = λ xs. IsPart (g.O.Output.held c.args.output.now) (g.O.Output.held c.give_last.new.output) xs in
    IfErr-weaker c.give_last.result _ _ (λ _ part. subst P c.in-Ok.ensures part) (c.give_last.ensures.front known)
