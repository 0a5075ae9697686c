-- The reading of a text that was found.
use Rattle.std.specs.Prelude.{◌≡◌, ℕ, List, [], Option, MatchOption}
use Rattle.rules_text.specs.RulesInMemory.{placed_rules_read}
use Rattle.rules_text.specs.declared.reader.PlacedRules.{PlacedRules}
use Rattle.text_io.specs.Devices.{Adds}
use Rattle.cmd_differ.specs.DifferText.{FindsSide, FindsText, PrintsFaultAfter, PrintsSideFault, new_mark, old_mark}
use Rattle.cmd_differ.specs.declared.kinds.TextKind.{TextKind}
use Rattle.cmd_differ.specs.declared.reading.Which.{Which}
use Rattle.cmd_differ.specs.declared.reading.Which.TheVariants.{Old, New, Only}
use Rattle.cmd_differ.specs.declared.sides.SideText.{SideText}
use Rattle.cmd_differ.specs.inner.SidesRead.{side_read}

-- What precedes the fault line of a text.
abbrev pub which_mark : Which → List ℕ
which_mark Old = old_mark
which_mark New = new_mark
which_mark Only = []

-- The text was read, and nothing was added to the answers; or its fault was.
abbrev pub ReadsText : Which → Option (List ℕ) → List ℕ → List ℕ → Option PlacedRules → Type 0
ReadsText which found before after read = MatchOption read (Adds (PrintsFaultAfter (which_mark which) found) before after)
    (λ placed_rules. (after ≡ before) × FindsText found (placed_rules_read placed_rules))

-- A text of this kind was read, and nothing was added to the answers; or its fault was.
abbrev pub ReadsSide : TextKind → Which → Option (List ℕ) → List ℕ → List ℕ → Option SideText → Type 0
ReadsSide kind which found before after read = MatchOption read (Adds (PrintsSideFault kind (which_mark which) found) before after)
    (λ side. (after ≡ before) × FindsSide kind found (side_read side))
