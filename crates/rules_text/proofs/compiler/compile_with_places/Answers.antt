use Rattle.std.proofs.Common.{inl, inr, refl}
use Rattle.rules_code.specs.LineCode.{lines_code}
use Rattle.rules_text.specs.RulesInMemory.{placed_rules_read}
use Rattle.rules_text.specs.TextFaults.{IsCompilingFault}
use Rattle.rules_text.proofs.ReadingSteps.{without_places, fault_without_places, fault_onward, returned_fault}
use Rattle.rules_text.proofs.Values.{follows_text}
use Rattle.rules_text.proofs.compiler.compile_with_places.Goals as goal

pub returns-in_err-placed_rules-clause-fault : goal.returns-in_err-placed_rules-clause-fault
returns-in_err-placed_rules-clause-fault c =
    returned_fault c.from_residual.result c.in_err-placed_rules.field-0.0 (IsCompilingFault c.args.text.now) c.from_residual.ensures.1
    (inl (fault_onward _ _ _ (fault_without_places c.args.text.now _) c.in_err-placed_rules.ensures.fault))

pub returns-in-Ok-clause-text : goal.returns-in-Ok-clause-text
returns-in-Ok-clause-text c =
    let placed_rules = c.in_ok-placed_rules.placed_rules in
    follows_text c.args.text.now placed_rules.rules c.in-Ok.placed.code.items (without_places c.args.text.now (placed_rules_read placed_rules) c.in_ok-placed_rules.ensures.rules) c.in-Ok.ensures.value

pub returns-in-Ok-clause-places : goal.returns-in-Ok-clause-places
returns-in-Ok-clause-places c =
    let placed = c.in-Ok.ensures.code in
    record { placed_rules = c.in_ok-placed_rules.placed_rules; read = c.in_ok-placed_rules.ensures.rules; begins = refl; lines = placed.0; plain = placed.1; code = placed.2; starts_from_end = placed.3 }

pub returns-in-Err-TooLong-clause-fault : goal.returns-in-Err-TooLong-clause-fault
returns-in-Err-TooLong-clause-fault c =
    let placed_rules = c.in_ok-placed_rules.placed_rules in
    let long = (rw c.in-Err-TooLong.field-0-is at c.in-Err-TooLong.ensures.too_long) refl in
    inr (
      c.fault_at.ensures,
      record {
        code = lines_code long.0 placed_rules.rules.otherwise;
        of_text = record {
          rules = placed_rules.rules;
          read = without_places c.args.text.now (placed_rules_read placed_rules) c.in_ok-placed_rules.ensures.rules;
          lines = long.0;
          plain = long.1;
          code_is = refl;
        };
        longer = long.2;
      },
    )
