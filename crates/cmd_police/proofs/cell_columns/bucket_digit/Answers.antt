use Rattle.std.proofs.Common.{◌∙◌, ap, arith, decimal, sym}
use Rattle.std.proofs.lemmas.Fmt.{decimal_digit}
use Rattle.leaky.specs.Excess.{bucket_number}
use Rattle.leaky.specs.declared.excess.WhichBucket.{WhichBucket}
use Rattle.cmd_police.proofs.cell_columns.bucket_digit.Goals as goal

pub returns-in-Peak-clause-digit : goal.returns-in-Peak-clause-digit
returns-in-Peak-clause-digit c = sym (ap (λ (b : WhichBucket). decimal (bucket_number b)) c.in-Peak.is ∙ decimal_digit 1 (omega arith))

pub returns-in-Sustained-clause-digit : goal.returns-in-Sustained-clause-digit
returns-in-Sustained-clause-digit c = sym (ap (λ (b : WhichBucket). decimal (bucket_number b)) c.in-Sustained.is ∙ decimal_digit 2 (omega arith))
