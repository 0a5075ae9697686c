-- Lemmas for other crates.
use Rattle.std.proofs.Common.{◌≡◌, ℕ, Bool, List, Option}
use Rattle.captures.specs.declared.link.Link.{Link}
use Rattle.captures.specs.declared.packet_time.TimeSource.{TimeSource}
use Rattle.captures_text.specs.CellFilter.{filter_start}
use Rattle.captures_text.specs.CellsText.{IsCellsText, cells_closes, cells_rules, cells_start, cells_steps}
use Rattle.captures_text.proofs.CaptureTexts as texts
pub use Rattle.captures_text.specs.inner.FixedRules.{fixed_total}
pub use Rattle.captures_text.proofs.CaptureTexts.{some_capture_text, one_fixed_text}
pub use Rattle.captures_text.proofs.FixedTexts.{fixed_only}
pub use Rattle.captures_text.proofs.Progresses.{on_done}
use Rattle.text_io.specs.declared.ending.Done.{Done}

-- A file has a text of `cells`.
pub some_cells_text : (tick : ℕ) (link : Option Link) (timing : TimeSource) (numbered : Bool) (octets : List ℕ)
    → (text : List ℕ) × (done : Done) × IsCellsText tick link timing numbered octets text done
some_cells_text tick link timing numbered octets =
    texts.some_capture_text cells_rules (fixed_total cells_steps cells_closes) (filter_start tick link timing) (cells_start numbered) octets tt

-- It has only one.
pub one_cells_text : (tick : ℕ) (link : Option Link) (timing : TimeSource) (numbered : Bool) (octets one other : List ℕ) (ends other_ends : Done)
    → IsCellsText tick link timing numbered octets one ends → IsCellsText tick link timing numbered octets other other_ends
    → (one ≡ other) × (ends ≡ other_ends)
one_cells_text tick link timing numbered octets one other ends other_ends first second =
    texts.one_fixed_text cells_steps cells_closes (filter_start tick link timing) (cells_start numbered) octets one other ends other_ends first second
