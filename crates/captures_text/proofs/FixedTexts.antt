-- By fixed rules, cells have one text.
use Rattle.std.proofs.Common.{◌≡◌, ℕ, List, [], ◌∷◌, ◌++◌, Option, Some, None, sym, ap, ap₂, ◌∙◌, subst, append-nil}
use Rattle.std.specs.Option.{MatchOption}
use Rattle.std.specs.Prelude.{◌↔◌}
use Rattle.captures.specs.declared.fault.Fault.{Fault}
use Rattle.captures_text.specs.CaptureText.{IsTextOfCells}
use Rattle.captures_text.specs.CellFilter.{CellsEnd}
use Rattle.captures_text.specs.CellRules.{fixed_rules}
use Rattle.captures_text.specs.declared.captured_cell.CapturedCell.{CapturedCell}
use Rattle.captures_text.specs.declared.reading_summary.ReadingSummary.{ReadingSummary}
use Rattle.captures_text.specs.inner.FixedRules.{fixed_text, fixed_total, text_then}
use Rattle.captures_text.proofs.CellTexts.{cells_some}
use Rattle.text_io.specs.declared.ending.Done.{Done}
use Rattle.text_io.specs.declared.ending.Done.TheVariants.{Ended}

-- A text of cells is that one.
pub fixed_is : {World : Type 0} (steps : World → CapturedCell → List ℕ × Option World) (closes : World → ReadingSummary → Option Fault → List ℕ)
    (cells : List CapturedCell) (end : CellsEnd) (world : World) (text : List ℕ) (done : Done)
    → IsTextOfCells (fixed_rules steps closes) world cells end text done → fixed_text steps closes world cells end ≡ (text, done)
fixed_is steps closes [] end world text done printed = ap₂ (λ (t : List ℕ) (d : Done). (t, d)) (sym printed.0) (sym printed.1)
fixed_is {World = World} steps closes (captured ∷ cells) end world text done (here, more, next, is, step, rest) =
    ap (λ (s : List ℕ × Option World). text_then s.0 s.1 goes) step
    ∙ then (λ v printed. fixed_is steps closes cells end v more done printed) next rest
  where
    goes : World → List ℕ × Done
    goes = λ w. fixed_text steps closes w cells end

    Later : World → Type 0
    Later = λ v. IsTextOfCells (fixed_rules steps closes) v cells end more done

    then : ((v : World) → Later v → goes v ≡ (more, done)) → (after : Option World) → MatchOption after ((more ≡ []) × (done ≡ Ended)) Later
        → text_then here after goes ≡ (text, done)
    then later None (none, ended) =
        ap₂ (λ (t : List ℕ) (d : Done). (t, d)) (sym (is ∙ ap (λ xs. here ++ xs) none ∙ append-nil here)) (sym ended)
    then later (Some v) printed =
        ap (λ (r : List ℕ × Done). (here ++ r.0, r.1)) (later v printed) ∙ ap (λ (t : List ℕ). (t, done)) (sym is)

-- So cells have exactly one text.
pub fixed_only : {World : Type 0} (steps : World → CapturedCell → List ℕ × Option World) (closes : World → ReadingSummary → Option Fault → List ℕ)
    (cells : List CapturedCell) (end : CellsEnd) (world : World) (whole text : List ℕ) (ends done : Done)
    → fixed_text steps closes world cells end ≡ (whole, ends)
    → IsTextOfCells (fixed_rules steps closes) world cells end text done ↔ ((text ≡ whole) × (done ≡ ends))
fixed_only {World = World} steps closes cells end world whole text ends done is = (
  λ printed.
      let same : (text, done) ≡ (whole, ends) = sym (fixed_is steps closes cells end world text done printed) ∙ is in
      (ap (λ (p : List ℕ × Done). p.0) same, ap (λ (p : List ℕ × Done). p.1) same),
  λ alike.
      let some = cells_some (fixed_rules steps closes) (fixed_total steps closes) cells end world tt in
      let same : (some.0, some.1) ≡ (text, done) =
      sym (fixed_is steps closes cells end world some.0 some.1 some.2) ∙ is
      ∙ ap₂ (λ (t : List ℕ) (d : Done). (t, d)) (sym alike.0) (sym alike.1)
      in
      subst (λ (p : List ℕ × Done). IsTextOfCells (fixed_rules steps closes) world cells end p.0 p.1) same some.2,
)
