use Rattle.std.proofs.Common.{refl, inr}
use Rattle.rules_code.specs.LineCode.{lines_code}
use Rattle.rules_text.proofs.compiler.compile_text.Goals as goal

pub returns-in-Ok-clause-code : goal.returns-in-Ok-clause-code
returns-in-Ok-clause-code c =
    let made = c.in-Ok.ensures.code in
    record { rules = c.in_ok-rules.rules; read = c.in_ok-rules.ensures.rules; lines = made.0; plain = made.1; code_is = made.2 }

pub returns-in-Err-TooLong-clause-fault : goal.returns-in-Err-TooLong-clause-fault
returns-in-Err-TooLong-clause-fault c =
    let long = (rw c.in-Err-TooLong.field-0-is at c.in-Err-TooLong.ensures.too_long) refl in
    inr (
      c.fault_at.ensures,
      record {
        code = lines_code long.0 c.in_ok-rules.rules.otherwise;
        of_text = record { rules = c.in_ok-rules.rules; read = c.in_ok-rules.ensures.rules; lines = long.0; plain = long.1; code_is = refl };
        longer = long.2;
      },
    )
