-- Names where lines give them, in the words of the definitions.
use Rattle.std.specs.Prelude.{ℕ, ◌+◌, drop, slice_range, List, Result, Ok, Err}
use Rattle.rules_text.specs.RuleTokens.{tokens_from}
use Rattle.rules_text.specs.TextOfRules.{NameFound}
use Rattle.rules_text.specs.declared.definition.NamePlace.{NamePlace}
use Rattle.rules_text.specs.declared.fault.RuleFaultKind.{RuleFaultKind}

-- The letters of a new name, or the fault.
abbrev pub letters_found : {A : Type 0} → List ℕ → Result A RuleFaultKind → Result (List ℕ) RuleFaultKind
letters_found letters (Ok done) = Ok letters
letters_found letters (Err kind) = Err kind

-- A name at a place. The code counts columns from 0.
abbrev pub place_seen : List ℕ → NamePlace → NameFound
place_seen line place = record {
  letters = slice_range line place.start place.end;
  column = place.start + 1;
  after = place.after + 1;
  tokens = tokens_from (place.after + 1) 0 (drop place.after line);
}
