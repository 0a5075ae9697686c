-- The rules have a code that is accepted, or one that is too long.
use Rattle.std.proofs.Common.{inr, refl}
use Rattle.rules_code.specs.LineCode.{lines_code}
use Rattle.rules_text.specs.RulesInMemory.{placed_rules_read}
use Rattle.rules_text.proofs.ReadingSteps.{without_places}
use Rattle.cmd_explain_rules.proofs.rules_explained.explain_placed_rules.Goals as goal

pub explain_accepted-requires : goal.explain_accepted-requires
explain_accepted-requires c =
    let placed_rules = c.args.placed_rules.now in
    let made = c.in-Ok.ensures.code in
    record {
      read = c.requires;
      code = c.in-Ok.field-0.items;
      of_text = record {
        rules = placed_rules.rules;
        read = without_places c.args.text.now (placed_rules_read placed_rules) c.requires;
        lines = made.0;
        plain = made.1;
        code_is = made.2;
      };
      accepted = c.in-Ok.ensures.accepted;
    }

pub explain_fault-requires : goal.explain_fault-requires
explain_fault-requires c =
    let placed_rules = c.args.placed_rules.now in
    let long = (rw c.in-Err-TooLong.field-0-is at c.in-Err-TooLong.ensures.too_long) refl in
    inr (
      refl,
      record {
        code = lines_code long.0 placed_rules.rules.otherwise;
        of_text = record {
          rules = placed_rules.rules;
          read = without_places c.args.text.now (placed_rules_read placed_rules) c.requires;
          lines = long.0;
          plain = long.1;
          code_is = refl;
        };
        longer = long.2;
      },
    )
