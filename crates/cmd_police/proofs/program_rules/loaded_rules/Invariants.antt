-- Loop invariant: the rules so far, and those of the lines that are left, are those of all lines.
use Rattle.std.proofs.Common.{◌≡◌, ◌++◌, length, map, option_map}
use Rattle.text_io.specs.Lines.{lines_of}
use Rattle.cmd_police.specs.LoadedRules.{loaded_rules}
use Rattle.cmd_setups.specs.SharedTexts.{octets_of_texts}
use Rattle.cmd_police.specs.StoredRules.{rules_stored}
use Rattle.cmd_police.proofs.program_rules.loaded_rules.Given as goal

abbrev pub invariant-loop-line : goal.invariant-loop-line
invariant-loop-line l =
    map (option_map rules_stored) l.programs.items ++ loaded_rules (lines_of l.left) (octets_of_texts l.texts_left)
    ≡ loaded_rules (lines_of l.script) (octets_of_texts l.texts)

abbrev pub decreases-loop-line : goal.decreases-loop-line
decreases-loop-line l = length l.left
