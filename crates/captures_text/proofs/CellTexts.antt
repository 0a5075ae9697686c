-- Texts of cells: each list has one, and the answers to cells in order begin one.
use Rattle.std.proofs.Common.{◌≡◌, ℕ, List, [], ◌∷◌, ◌++◌, Option, Some, None, refl, ap, sym, ◌∙◌, subst, append_assoc, append-nil}
use Rattle.std.specs.Option.{MatchOption}
use Rattle.captures_text.specs.CaptureText.{IsTextOfCells, end_done, text_at_end}
use Rattle.captures_text.specs.CellFilter.{CellsEnd}
use Rattle.captures_text.specs.CellFollowing.{FollowsCell}
use Rattle.captures_text.specs.CellRules.{AnswersEachCell, CellRules}
use Rattle.captures_text.specs.declared.captured_cell.CapturedCell.{CapturedCell}
use Rattle.captures_text.specs.inner.Answered.{AnswersCells}
use Rattle.text_io.specs.declared.ending.Done.{Done}
use Rattle.text_io.specs.declared.ending.Done.TheVariants.{Ended}
use Rattle.text_io.specs.declared.machine.Turn.{Turn}
use Rattle.text_io.specs.declared.machine.Turn.TheVariants.{GoesOn, Ends}

-- Any cells have a text, from each sound world.
pub cells_some : {World : Type 0} (rules : CellRules World) → AnswersEachCell rules → (cells : List CapturedCell) (end : CellsEnd) (world : World)
    → rules.is_sound world → (text : List ℕ) × (done : Done) × IsTextOfCells rules world cells end text done
cells_some rules total [] end world sound = (text_at_end rules world end, end_done end, (refl, refl))
cells_some {World = World} rules total (captured ∷ cells) end world sound =
    let now = total.step world captured sound in
    let then = after (λ v is. cells_some rules total cells end v is) now.0 now.1 now.2 in
    (now.0 ++ then.0, then.1, (now.0, then.0, now.1, refl, now.2, then.2))
  where
    Later : Type 0
    Later = (v : World) → rules.is_sound v → (more : List ℕ) × (done : Done) × IsTextOfCells rules v cells end more done

    after : Later → (here : List ℕ) (next : Option World) → rules.steps world captured here next
        → (more : List ℕ) × (done : Done) × MatchOption next ((more ≡ []) × (done ≡ Ended)) (λ v. IsTextOfCells rules v cells end more done)
    after later here None step = ([], Ended, (refl, refl))
    after later here (Some v) step = later v (total.keeps world captured here v sound step)

-- Equal cells have equal texts.
pub text_at : {World : Type 0} (rules : CellRules World) (world : World) (cells cells' : List CapturedCell) (end : CellsEnd) (text text' : List ℕ) (done : Done)
    → cells ≡ cells' → text ≡ text' → IsTextOfCells rules world cells end text done → IsTextOfCells rules world cells' end text' done
text_at rules world cells cells' end text text' done same alike is =
    subst (λ (xs : List ℕ). IsTextOfCells rules world cells' end xs done) alike
    (subst (λ (cs : List CapturedCell). IsTextOfCells rules world cs end text done) same is)

-- No cell has no text.
pub answers_none : {World : Type 0} (rules : CellRules World) (shown : World → Type 0) (old : List ℕ) → AnswersCells rules shown [] GoesOn shown old old
answers_none rules shown old = ([], sym (append-nil old), λ world sound is_shown. (world, is_shown, sound, λ later end more done is. is))

-- One cell more.
pub answers_more : {World : Type 0} (rules : CellRules World) → AnswersEachCell rules
    → (shown shown' shown'' : World → Type 0) (cells : List CapturedCell) (captured : CapturedCell) (old between new : List ℕ)
    → AnswersCells rules shown cells GoesOn shown' old between → FollowsCell rules shown' captured GoesOn shown'' between new
    → AnswersCells rules shown (cells ++ captured ∷ []) GoesOn shown'' old new
answers_more rules total shown shown' shown'' cells captured old between new first second = (
  first.0 ++ second.0,
  second.1 ∙ ap (λ xs. xs ++ second.0) first.1 ∙ append_assoc old first.0 second.0,
  λ world sound is_shown.
      let one = first.2 world sound is_shown in
      let two = second.2 one.0 one.2 one.1 in (
        two.0,
        two.1,
        total.keeps one.0 captured second.0 two.0 one.2 two.2,
        λ later end more done is.
            text_at rules world (cells ++ (captured ∷ later)) ((cells ++ captured ∷ []) ++ later) end (first.0 ++ (second.0 ++ more)) ((first.0 ++ second.0) ++ more) done
            (sym (append_assoc cells (captured ∷ []) later)) (sym (append_assoc first.0 second.0 more))
            (one.3 (captured ∷ later) end (second.0 ++ more) done (second.0, more, Some two.0, refl, two.2, is)),
      ),
)

-- One cell more, which ends the run before the others.
pub answers_last : {World : Type 0} (rules : CellRules World) (shown shown' shown'' shown''' : World → Type 0) (cells others : List CapturedCell)
    (captured : CapturedCell) (old between new : List ℕ)
    → AnswersCells rules shown cells GoesOn shown' old between → FollowsCell rules shown' captured Ends shown'' between new
    → AnswersCells rules shown (cells ++ captured ∷ others) Ends shown''' old new
answers_last rules shown shown' shown'' shown''' cells others captured old between new first second = (
  first.0 ++ second.0,
  second.1 ∙ ap (λ xs. xs ++ second.0) first.1 ∙ append_assoc old first.0 second.0,
  λ world sound is_shown.
      let one = first.2 world sound is_shown in
      λ later end.
      text_at rules world (cells ++ (captured ∷ (others ++ later))) ((cells ++ captured ∷ others) ++ later) end (first.0 ++ second.0) (first.0 ++ second.0) Ended
      (sym (append_assoc cells (captured ∷ others) later)) refl
      (one.3 (captured ∷ (others ++ later)) end second.0 Ended
      (second.0, [], None, sym (append-nil second.0), second.2 one.0 one.2 one.1, (refl, refl))),
)

-- Equal cells.
pub answers_same : {World : Type 0} (rules : CellRules World) (shown shown' : World → Type 0) (cells cells' : List CapturedCell) (turn : Turn) (old new : List ℕ)
    → cells ≡ cells' → AnswersCells rules shown cells turn shown' old new → AnswersCells rules shown cells' turn shown' old new
answers_same rules shown shown' cells cells' turn old new same answers =
    subst (λ (cs : List CapturedCell). AnswersCells rules shown cs turn shown' old new) same answers

-- An equal turn.
pub answers_turn : {World : Type 0} (rules : CellRules World) (shown shown' : World → Type 0) (cells : List CapturedCell) (turn turn' : Turn) (old new : List ℕ)
    → turn ≡ turn' → AnswersCells rules shown cells turn shown' old new → AnswersCells rules shown cells turn' shown' old new
answers_turn rules shown shown' cells turn turn' old new same answers =
    subst (λ (t : Turn). AnswersCells rules shown cells t shown' old new) same answers
