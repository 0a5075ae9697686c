-- Loop invariant: the hints so far, and any about the files that are left, are hints about all the files.
use Rattle.std.proofs.Common.{List, ℕ, length}
use Rattle.cmd_setups.specs.FilesRead.{octets_of_names}
use Rattle.cmd_setups.specs.SharedTexts.{octets_of_texts}
use Rattle.upc_lab.specs.inner.NamesMet.{HasNames}
use Rattle.upc_lab.proofs.SettingUp.{AreHintsSoFar}
use Rattle.upc_lab.proofs.setup_hints.files_hints.Given as goal

abbrev pub invariant-loop-left : goal.invariant-loop-left
invariant-loop-left l = (before : List (List ℕ)) × HasNames l.met before
    × AreHintsSoFar (octets_of_names l.fn.files) (octets_of_texts l.fn.texts) before (octets_of_names l.left) (octets_of_texts l.texts_left) l.hints.items

abbrev pub decreases-loop-left : goal.decreases-loop-left
decreases-loop-left l = length l.left
