-- The rules of a run in memory.
use Rattle.std.specs.Prelude.{ℕ, List, Option, Result, Ok, Err, option_map}
use Rattle.rules_text.specs.RulesRead.{RulesRead, rules_read}
use Rattle.cmd_fit.specs.declared.cell_values.CellValues.{CellValues}
use Rattle.cmd_fit.specs.declared.given_rules.GivenRules.{GivenRules}
use Rattle.cmd_fit.specs.declared.given_rules.GivenRules.TheVariants.{Faulty, Held}

-- The rules as they are written, if there are any.
abbrev pub rules_held : Option CellValues → Option RulesRead
rules_held values = option_map (λ held. rules_read held.rules) values

-- What was read of the rules that are given.
abbrev pub rules_kept : GivenRules → Result (Option RulesRead) (List ℕ)
rules_kept (Held values) = Ok (rules_held values)
rules_kept (Faulty text) = Err text.items
