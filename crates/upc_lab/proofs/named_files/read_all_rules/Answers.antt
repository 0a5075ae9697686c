-- The text of each file goes after those of the files before it.
use Rattle.std.proofs.Common.{◌≡◌, ◌<◌, List, [], ◌∷◌, length, refl, arith}
use Rattle.cmd_setups.proofs.Public.{all_texts}
use Rattle.cmd_setups.specs.FilesRead.{octets_of_names}
use Rattle.upc_lab.proofs.named_files.read_all_rules.Goals as goal

none-left : {A : Type 0} (items : List A) → length items < 1 → items ≡ []
none-left [] short = refl
none-left (item ∷ items) short = absurd (omega (arith, short))

pub returns-clause-texts : goal.returns-clause-texts
returns-clause-texts g c =
    all_texts (octets_of_names c.args.files.now) c.loop-left.left.now c.loop-left.rules.items c.loop-left.invariant
    (none-left c.loop-left.left.now c.in_default-left.len_below)
