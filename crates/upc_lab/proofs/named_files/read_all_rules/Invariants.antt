-- Loop invariant: the texts so far, and any texts of the files that are left, are texts of all the files.
use Rattle.std.proofs.Common.{List, ℕ, ◌++◌, length}
use Rattle.cmd_setups.specs.FilesRead.{AreTextsForFiles, octets_of_names}
use Rattle.cmd_setups.specs.SharedTexts.{octets_of_texts}
use Rattle.upc_lab.proofs.named_files.read_all_rules.Given as goal

abbrev pub invariant-loop-left : goal.invariant-loop-left
invariant-loop-left g l = (more : List (List ℕ)) → AreTextsForFiles (octets_of_names l.left) more
    → AreTextsForFiles (octets_of_names l.fn.files) (octets_of_texts l.rules.items ++ more)

abbrev pub decreases-loop-left : goal.decreases-loop-left
decreases-loop-left g l = length l.left
