-- The answers of the ports keep the promises of their threads.
use Rattle.std.proofs.Common.{◌≡◌, List, [], ◌∷◌, ◌++◌, ℕ, map, ap, sym, subst, ◌∙◌}
use Rattle.std.specs.List.{AllZip}
use Rattle.std.proofs.lemmas.List.{map-append}
use Rattle.std.proofs.lemmas.Slice.Zip.{all_zipped_more}
use Rattle.cmd_ports.specs.declared.at_once.AnswersTo.{AnswersTo}
use Rattle.cmd_ports.specs.declared.answered.AnsweredCell.{AnsweredCell}
use Rattle.upc_cell.specs.declared.side.Side.{Side}
use Rattle.cmd_ports.specs.inner.Arrivals.{AnswersPort}
use Rattle.cmd_ports.specs.inner.AtOnce.{KeepsPromise}

pub kept-next : {X : Type 0} {Y : Type 0} (v : X → AnswersTo) (w : Y → List AnsweredCell) (xs : List X) (x : X) (ys ys' : List Y) (y : Y) → ys' ≡ ys ++ y ∷ []
    → AllZip KeepsPromise (map v xs) (map w ys) → KeepsPromise (v x) (w y) → AllZip KeepsPromise (map v (xs ++ x ∷ [])) (map w ys')
kept-next v w xs x ys ys' y pushed kept one =
    let more = all_zipped_more KeepsPromise (map v xs) (map w ys) (v x) (w y) kept one in
    let lines : map v (xs ++ x ∷ []) ≡ map v xs ++ v x ∷ [] = map-append v xs (x ∷ []) in
    let texts : map w ys' ≡ map w ys ++ w y ∷ [] = ap (map w) pushed ∙ map-append w ys (y ∷ []) in
    subst (λ (ps : List AnswersTo). AllZip KeepsPromise ps (map w ys')) (sym lines)
    (subst (λ (ts : List (List AnsweredCell)). AllZip KeepsPromise (map v xs ++ v x ∷ []) ts) (sym texts) more)

-- The answers that keep the promises of jobs are those to the lines of the jobs.
pub promised : {J : Type 0} (jobs : List J) (stored : List (List AnsweredCell)) (p : J → AnswersTo) (v : J → List (List ℕ)) (side : Side)
    → ((job : J) (arrivals : List AnsweredCell) → KeepsPromise (p job) arrivals → AnswersPort side (v job) arrivals)
    → AllZip KeepsPromise (map p jobs) stored → AllZip (AnswersPort side) (map v jobs) stored
promised [] [] p v side each kept = tt
promised [] (arrivals ∷ stored) p v side each kept = absurd kept
promised (job ∷ jobs) [] p v side each kept = absurd kept
promised (job ∷ jobs) (arrivals ∷ stored) p v side each kept = (each job arrivals kept.0, promised jobs stored p v side each kept.1)
