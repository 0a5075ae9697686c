-- The lines of the cells that count are the text of `cells`.
use Rattle.std.proofs.Common.{◌≡◌, ℕ, Bool, List, [], ◌∷◌, ◌++◌, refl, sym, ap, ◌∙◌, append_assoc}
use Rattle.captures_text.specs.CaptureText.{end_done, text_at_end}
use Rattle.captures_text.specs.CellFilter.{CellsEnd}
use Rattle.captures_text.specs.CellsText.{CellsAreWritten, cells_closes, cells_rules, cells_start, cells_steps, captured_line, captured_lines}
use Rattle.captures_text.specs.declared.captured_cell.CapturedCell.{CapturedCell}
use Rattle.captures_text.specs.inner.FixedRules.{fixed_text}
use Rattle.captures_text.proofs.FixedTexts.{fixed_only}
use Rattle.text_io.specs.declared.ending.Done.{Done}

run-cells : (numbered : Bool) (cells : List CapturedCell) (end : CellsEnd)
    → fixed_text cells_steps cells_closes (cells_start numbered) cells end
    ≡ (captured_lines numbered cells ++ text_at_end cells_rules (cells_start numbered) end, end_done end)
run-cells numbered [] end = refl
run-cells numbered (captured ∷ cells) end =
    let here = captured_line numbered captured in
    ap (λ (r : List ℕ × Done). (here ++ r.0, r.1)) (run-cells numbered cells end)
    ∙ ap (λ (text : List ℕ). (text, end_done end))
    (sym (append_assoc here (captured_lines numbered cells) (text_at_end cells_rules (cells_start numbered) end)))

pub cells-are-written : CellsAreWritten
cells-are-written numbered cells end text done =
    fixed_only cells_steps cells_closes cells end (cells_start numbered)
    (captured_lines numbered cells ++ text_at_end cells_rules (cells_start numbered) end) text (end_done end) done (run-cells numbered cells end)
