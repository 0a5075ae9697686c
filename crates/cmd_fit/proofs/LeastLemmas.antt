-- Why the highest level that a cell finds is the least limit.
use Rattle.std.proofs.Common.{◌≡◌, ◌⊎◌, ℕ, ◌+◌, ◌<◌, ◌≤◌, ◌↔◌, max, nat_lt, Bool, true, false, cond, List, [], ◌∷◌, ◌++◌, length, refl, sym, ap, ◌∙◌, subst, inl, inr, arith}
use Rattle.std.proofs.lemmas.Bool.{leb-true, le-leb, ltb-true, ltb-false}
use Rattle.captures_text.specs.declared.captured_cell.CapturedCell.{CapturedCell}
use Rattle.leaky.specs.Bucket.{level_at, opening}
use Rattle.leaky.specs.Bursts.{AllFill}
use Rattle.leaky.specs.declared.gcra.Gcra.{Gcra}
use Rattle.cmd_fit.specs.Fits.{bucket_of, fit_after, no_cells}
use Rattle.cmd_fit.specs.FitLaws.{IsFitOf, captured_moments}
use Rattle.cmd_fit.specs.declared.flow_fit.FlowFit.{FlowFit}
use Rattle.cmd_fit.specs.declared.flow.Flow.{Flow}

-- The state after these cells, from this one on.
abbrev pub through : ℕ → FlowFit → List CapturedCell → FlowFit
through increment fit [] = fit
through increment fit (cell ∷ cells) = through increment (fit_after increment fit cell.moment cell.number) cells

through-cells : (increment : ℕ) (fit : FlowFit) (cells : List CapturedCell) → (through increment fit cells).cells ≡ fit.cells + length cells
through-cells increment fit [] = omega arith
through-cells increment fit (cell ∷ cells) =
    let rest = through-cells increment (fit_after increment fit cell.moment cell.number) cells in
    omega arith

-- Cells that conform need no more than the limit.
through-low : (gcra : Gcra) (fit : FlowFit) (cells : List CapturedCell)
    → AllFill gcra (bucket_of fit) (captured_moments cells) → fit.limit ≤ gcra.limit
    → (through gcra.increment fit cells).limit ≤ gcra.limit
through-low gcra fit [] fill low = low
through-low gcra fit (cell ∷ cells) fill low =
    let needed : level_at (bucket_of fit) cell.moment ≤ gcra.limit =
    leb-true (level_at (bucket_of fit) cell.moment) gcra.limit fill.0 in
    let next = fit_after gcra.increment fit cell.moment cell.number in
    let lower : next.limit ≤ gcra.limit = omega (arith, needed, low) in
    through-low gcra next cells fill.1 lower

-- Under a limit that is enough, each conforms.
through-fill : (gcra : Gcra) (fit : FlowFit) (cells : List CapturedCell)
    → (through gcra.increment fit cells).limit ≤ gcra.limit
    → AllFill gcra (bucket_of fit) (captured_moments cells) × (fit.limit ≤ gcra.limit)
through-fill gcra fit [] low = (tt, low)
through-fill gcra fit (cell ∷ cells) low =
    let next = fit_after gcra.increment fit cell.moment cell.number in
    let rest = through-fill gcra next cells low in
    let lower : next.limit ≤ gcra.limit = rest.1 in
    let needed : level_at (bucket_of fit) cell.moment ≤ gcra.limit = omega (arith, lower) in
    let before : fit.limit ≤ gcra.limit = omega (arith, lower) in
    ((le-leb (level_at (bucket_of fit) cell.moment) gcra.limit needed, rest.0), before)

-- The cell that is named: those before it need less.
record Named (increment : ℕ) (fit : FlowFit) (cells : List CapturedCell) : Type 0 where
  before : List CapturedCell
  named : CapturedCell
  later : List CapturedCell
  cut : cells ≡ before ++ named ∷ later
  number : named.number ≡ (through increment fit cells).number
  below : (through increment fit before).limit < (through increment fit cells).limit
  needs : (through increment fit (before ++ named ∷ [])).limit ≡ (through increment fit cells).limit

-- No cell needs more than the limit so far, and the named record stays, or some cell is named.
record Same (increment : ℕ) (fit : FlowFit) (cells : List CapturedCell) : Type 0 where
  limit : (through increment fit cells).limit ≡ fit.limit
  number : (through increment fit cells).number ≡ fit.number

through-named : (increment : ℕ) (fit : FlowFit) (cells : List CapturedCell) → Same increment fit cells ⊎ Named increment fit cells
through-named increment fit [] = inl (record { limit = refl; number = refl })
through-named increment fit (cell ∷ cells) =
    let needed = level_at (bucket_of fit) cell.moment in
    let next = fit_after increment fit cell.moment cell.number in
    let last = through increment next cells in
    elim (through-named increment next cells) [
      | inl same ↦
          let choice : (b : Bool) → nat_lt fit.limit needed ≡ b → Same increment fit (cell ∷ cells) ⊎ Named increment fit (cell ∷ cells) = elim [
            | true ↦ λ e.
                let more : fit.limit < needed = ltb-true fit.limit needed e in
                let limit : last.limit ≡ max fit.limit needed = same.limit in
                let below : fit.limit < last.limit = omega (arith, more, limit) in
                inr (record {
                  before = [];
                  named = cell;
                  later = cells;
                  cut = refl;
                  number = sym (same.number ∙ ap (λ b. cond b cell.number fit.number) e);
                  below = below;
                  needs = sym limit;
                })
            | false ↦ λ e.
                let less : needed ≤ fit.limit = ltb-false fit.limit needed e in
                let limit : last.limit ≡ max fit.limit needed = same.limit in
                let stays : last.limit ≡ fit.limit = omega (arith, less, limit) in
                inl (record { limit = stays; number = same.number ∙ ap (λ b. cond b cell.number fit.number) e })
          ] in
          choice (nat_lt fit.limit needed) refl
      | inr it ↦ inr (record {
        before = cell ∷ it.before;
        named = it.named;
        later = it.later;
        cut = ap (λ (cs : List CapturedCell). cell ∷ cs) it.cut;
        number = it.number;
        below = it.below;
        needs = it.needs;
      })
    ]

-- The state after all cells of a flow is right for them.
pub through-is : (increment : ℕ) (flow : Flow) (cell : CapturedCell) (cells : List CapturedCell)
    → IsFitOf increment (cell ∷ cells) (through increment (no_cells flow cell.number) (cell ∷ cells))
through-is increment flow cell cells =
    let start = no_cells flow cell.number in
    let all = cell ∷ cells in
    let last = through increment start all in
    let more : last.cells ≡ start.cells + length all = through-cells increment start all in
    let count : last.cells ≡ length all = omega (arith, more) in
    let Least : ℕ → Type 0 = λ n. (gcra : Gcra) → gcra.increment ≡ n → AllFill gcra opening (captured_moments all) ↔ ((through n start all).limit ≤ gcra.limit) in
    let least : Least increment = λ gcra e. subst (λ n. AllFill gcra opening (captured_moments all) ↔ ((through n start all).limit ≤ gcra.limit)) e (
      λ fill. through-low gcra start all fill (omega arith),
      λ low. (through-fill gcra start all low).0,
    ) in
    elim (through-named increment start all) [
      | inl same ↦
          let none : last.limit ≡ 0 = same.limit in
          record {
            count = count;
            least = least;
            before = [];
            named = cell;
            later = cells;
            cut = refl;
            number = sym same.number;
            conform = λ gcra e one. tt;
            fails = λ gcra e one fill. let no : gcra.limit + 1 ≡ 0 = one ∙ none in omega (arith, no);
            first = λ zero. refl;
          }
      | inr it ↦
          record {
            count = count;
            least = least;
            before = it.before;
            named = it.named;
            later = it.later;
            cut = it.cut;
            number = it.number;
            conform = λ gcra e one.
                let below : (through gcra.increment start it.before).limit < last.limit =
                subst (λ n. (through n start it.before).limit < last.limit) (sym e) it.below in
                (through-fill gcra start it.before (omega (arith, below, one))).0;
            fails = λ gcra e one fill.
                let low = through-low gcra start (it.before ++ it.named ∷ []) fill (omega arith) in
                let needs : (through gcra.increment start (it.before ++ it.named ∷ [])).limit ≡ last.limit =
                subst (λ n. (through n start (it.before ++ it.named ∷ [])).limit ≡ last.limit) (sym e) it.needs in
                omega (arith, low, needs, one);
            first = λ none. absurd (omega (arith, it.below, none));
          }
    ]
