use Rattle.std.proofs.Common.{◌∙◌, ap, arith, decimal, sym}
use Rattle.std.proofs.lemmas.Fmt.{decimal_digit}
use Rattle.cmd_police.specs.PoliceLines.{priority_digit}
use Rattle.cmd_police.proofs.cell_columns.digit_of.Goals as goal

pub returns-then-clp-clause-digit : goal.returns-then-clp-clause-digit
returns-then-clp-clause-digit c = sym (ap (λ b. decimal (priority_digit b)) c.if-clp.true ∙ decimal_digit 1 (omega arith))

pub returns-else-clp-clause-digit : goal.returns-else-clp-clause-digit
returns-else-clp-clause-digit c = sym (ap (λ b. decimal (priority_digit b)) c.if-clp.false ∙ decimal_digit 0 (omega arith))
