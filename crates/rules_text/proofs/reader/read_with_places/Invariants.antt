-- The rest of the text, read on from here, has the rules of the whole text.
use Rattle.std.proofs.Common.{◌≡◌, ◌+◌, ◌≤◌, length}
use Rattle.rules_text.specs.ContinuedLines.{rule_lines}
use Rattle.rules_text.specs.TextOfRules.{placed_rules_from, placed_rules_in}
use Rattle.rules_text.specs.inner.SeenNameTable.{IsFoundByLetters}
use Rattle.rules_text.specs.inner.SeenReading.{text_seen}
use Rattle.rules_text.proofs.reader.read_with_places.Given as goal

abbrev pub invariant-loop-line : goal.invariant-loop-line
invariant-loop-line l = record {
  line : l.begin.line + length l.left ≤ length l.text + 1;
  column : l.begin.column + length l.left ≤ length l.text + 1;
  blocks : l.reader.blocks + length l.left ≤ length l.text;
  names : IsFoundByLetters l.reader.names;
  rest : placed_rules_from (text_seen l.reader) l.begin (rule_lines l.left) ≡ placed_rules_in l.text;
}

abbrev pub decreases-loop-line : goal.decreases-loop-line
decreases-loop-line l = length l.left
