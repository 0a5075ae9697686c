-- The lines that are left of each port, and their stored answers.
use Rattle.std.proofs.Common.{◌≡◌, ℕ, zero, suc, List, [], ◌∷◌, ◌++◌, All, length, map, replicate, Some, None, refl, ap, sym, subst, ◌∙◌, arith}
use Rattle.std.specs.Prelude.{slice_get, slice_set}
use Rattle.std.specs.List.{AllZip}
use Rattle.std.proofs.lemmas.List.{append-nil, append_assoc, append_cancel_left}
use Rattle.std.proofs.lemmas.List.Elements.{All-head, All-tail}
use Rattle.line_record.specs.Tally.{nothing, plus, total}
use Rattle.upc_cell.specs.declared.side.Side.{Side}
use Rattle.cmd_ports.specs.declared.answered.AnsweredCell.{AnsweredCell}
use Rattle.cmd_ports.specs.inner.Arrivals.{AnswersPort, HasCell, IsStoredOf}
use Rattle.cmd_ports.specs.inner.Answered.{cell_counts, cells_counts}
use Rattle.cmd_ports.proofs.CountsLemmas.{nothing-plus, plus-regroup, plus-swap-left}

-- Some lines of a port are left after its own earlier ones, and these answers are theirs.
pub record PortLeft (side : Side) (own whole : List (List ℕ)) (cells_left : List AnsweredCell) : Type 0 where
  pub lines : List (List ℕ)
  pub whole_is : whole ≡ own ++ lines
  pub answers : AllZip (IsStoredOf side) lines cells_left

-- The same of each port.
abbrev pub PortsLeft : Side → List (List (List ℕ)) → List (List (List ℕ)) → List (List AnsweredCell) → Type 0
PortsLeft side [] [] [] = Unit {0}
PortsLeft side (own ∷ now) (whole ∷ last) (cells_left ∷ cells) = PortLeft side own whole cells_left × PortsLeft side now last cells
PortsLeft side _ _ _ = ⊥

-- At the start all lines of all ports are left.
pub ports-begin : (side : Side) (ports : ℕ) (last : List (List (List ℕ))) (cells : List (List AnsweredCell)) → length last ≡ ports → All (All (HasCell side)) last
    → AllZip (AnswersPort side) last cells → PortsLeft side (replicate ports []) last cells
ports-begin side zero [] [] sized have answers = tt
ports-begin side zero [] (cells_left ∷ cells) sized have answers = absurd answers
ports-begin side zero (whole ∷ last) cells sized have answers = absurd (omega (arith, sized))
ports-begin side (suc ports) [] cells sized have answers = absurd (omega (arith, sized))
ports-begin side (suc ports) (whole ∷ last) [] sized have answers = absurd answers
ports-begin side (suc ports) (whole ∷ last) (cells_left ∷ cells) sized have answers = (
  record { lines = whole; whole_is = refl; answers = answers.0 (All-head (All (HasCell side)) whole last have) },
  ports-begin side ports last cells (omega (arith, sized)) (All-tail (All (HasCell side)) whole last have) answers.1,
)

-- At the end none is left.
nothing-left : (side : Side) (cells_left : List AnsweredCell) → AllZip (IsStoredOf side) [] cells_left → cells_left ≡ []
nothing-left side [] zipped = refl
nothing-left side (one ∷ cells_left) zipped = absurd zipped

pub ports-end : (side : Side) (last : List (List (List ℕ))) (cells : List (List AnsweredCell)) → PortsLeft side last last cells → total (map cells_counts cells) ≡ nothing
ports-end side [] [] left = refl
ports-end side [] (cells_left ∷ cells) left = absurd left
ports-end side (whole ∷ last) [] left = absurd left
ports-end side (whole ∷ last) (cells_left ∷ cells) left =
    let none : left.0.lines ≡ [] = append_cancel_left whole left.0.lines [] (sym left.0.whole_is ∙ sym (append-nil whole)) in
    let empty = nothing-left side cells_left (subst (λ (xs : List (List ℕ)). AllZip (IsStoredOf side) xs cells_left) none left.0.answers) in
    ap (λ (cs : List AnsweredCell). plus (cells_counts cs) (total (map cells_counts cells))) empty ∙ nothing-plus (total (map cells_counts cells))
    ∙ ports-end side last cells left.1

-- The next line of a port takes the first of its answers.
pub record Taken (side : Side) (now last : List (List (List ℕ))) (cells : List (List AnsweredCell)) (n : ℕ) (own : List (List ℕ)) (line : List ℕ) : Type 0 where
  pub one : AnsweredCell
  pub cells_left : List AnsweredCell
  pub there : slice_get cells n ≡ Some (one ∷ cells_left)
  pub stored : IsStoredOf side line one
  pub left : PortsLeft side (slice_set now n (own ++ line ∷ [])) last (slice_set cells n cells_left)
  pub counts : total (map cells_counts cells) ≡ plus (cell_counts one) (total (map cells_counts (slice_set cells n cells_left)))

first-taken : (side : Side) (now last : List (List (List ℕ))) (cells : List (List AnsweredCell)) (mine own more : List (List ℕ)) (line : List ℕ) (whole : List (List ℕ))
    (cells_left : List AnsweredCell) → whole ≡ (own ++ line ∷ []) ++ more → AllZip (IsStoredOf side) (line ∷ more) cells_left → PortsLeft side now last cells
    → Taken side (mine ∷ now) (whole ∷ last) (cells_left ∷ cells) zero own line
first-taken side now last cells mine own more line whole [] is zipped left = absurd zipped
first-taken side now last cells mine own more line whole (one ∷ cells_left) is zipped left = record {
  one = one;
  cells_left = cells_left;
  there = refl;
  stored = zipped.0;
  left = (record { lines = more; whole_is = is; answers = zipped.1 }, left);
  counts = plus-regroup (cell_counts one) (cells_counts cells_left) (total (map cells_counts cells));
}

pub take-cell : (side : Side) (now last : List (List (List ℕ))) (cells : List (List AnsweredCell)) (n : ℕ) (own more : List (List ℕ)) (line : List ℕ)
    → PortsLeft side now last cells → slice_get now n ≡ Some own → slice_get last n ≡ Some ((own ++ line ∷ []) ++ more) → Taken side now last cells n own line
take-cell side [] [] [] n own more line left there grown = let no : None ≡ Some own = there in cc
take-cell side [] [] (cells_left ∷ cells) n own more line left there grown = absurd left
take-cell side [] (whole ∷ last) [] n own more line left there grown = absurd left
take-cell side [] (whole ∷ last) (cells_left ∷ cells) n own more line left there grown = absurd left
take-cell side (mine ∷ now) [] [] n own more line left there grown = absurd left
take-cell side (mine ∷ now) [] (cells_left ∷ cells) n own more line left there grown = absurd left
take-cell side (mine ∷ now) (whole ∷ last) [] n own more line left there grown = absurd left
take-cell side (mine ∷ now) (whole ∷ last) (cells_left ∷ cells) zero own more line left there grown =
    let same : mine ≡ own = cc in
    let is : whole ≡ (own ++ line ∷ []) ++ more = cc in
    let lines : left.0.lines ≡ line ∷ more =
    append_cancel_left own left.0.lines (line ∷ more)
    (sym (left.0.whole_is ∙ ap (λ (xs : List (List ℕ)). xs ++ left.0.lines) same) ∙ is ∙ append_assoc own (line ∷ []) more) in
    first-taken side now last cells mine own more line whole cells_left is (subst (λ (xs : List (List ℕ)). AllZip (IsStoredOf side) xs cells_left) lines left.0.answers) left.1
take-cell side (mine ∷ now) (whole ∷ last) (cells_left ∷ cells) (suc n) own more line left there grown =
    let later = take-cell side now last cells n own more line left.1 there grown in
    record {
      one = later.one;
      cells_left = later.cells_left;
      there = later.there;
      stored = later.stored;
      left = (left.0, later.left);
      counts = ap (plus (cells_counts cells_left)) later.counts
          ∙ plus-swap-left (cells_counts cells_left) (cell_counts later.one) (total (map cells_counts (slice_set cells n later.cells_left)));
    }
