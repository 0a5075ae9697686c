-- The loop answers one cell more, or a cell ends the run.
use Rattle.std.proofs.Common.{◌≡◌, ◌+◌, List, [], ◌∷◌, ◌++◌, take, drop, subst, sym, ap, ◌∙◌, append_assoc}
use Rattle.std.proofs.lemmas.List.{take-append-drop, take_more}
use Rattle.captures_text.specs.CellFollowing.{FollowsCell}
use Rattle.captures_text.specs.declared.captured_cell.CapturedCell.{CapturedCell}
use Rattle.captures_text.proofs.CellTexts.{answers_last, answers_more, answers_same}
use Rattle.captures_text.proofs.follower.answer_cells.Goals as goal
use Rattle.text_io.specs.declared.machine.Turn.{Turn}
use Rattle.text_io.specs.declared.machine.Turn.TheVariants.{GoesOn, Ends}

pub loop-captured-preserved : goal.loop-captured-preserved
loop-captured-preserved g c =
    let f = g.F.CellFollower in
    let cells = c.args.cells.now in
    let place = c.loop-captured.captured-index in
    let captured = c.captured-item.result in
    let upto : take (place + 1) cells ≡ take place cells ++ captured ∷ [] =
    take_more cells place captured c.loop-captured-test.true ∙ ap (λ (item : CapturedCell). take place cells ++ item ∷ []) (sym c.captured-item.is) in
    let follows = subst (λ (turn : Turn). FollowsCell f.rules (f.shows c.loop-captured.follower) captured turn (f.shows c.follow_cell.new.self)
    c.loop-captured.answers.items c.follow_cell.new.answers.items) c.in-GoesOn.is c.in_ok-follow_cell.ensures in
    answers_same f.rules (f.shows c.args.follower.now) (f.shows c.follow_cell.new.self) (take place cells ++ captured ∷ []) (take (place + 1) cells) GoesOn
    c.args.answers.now.items c.follow_cell.new.answers.items (sym upto)
    (answers_more f.rules g.met.F.CellFollower.is_total (f.shows c.args.follower.now) (f.shows c.loop-captured.follower) (f.shows c.follow_cell.new.self)
    (take place cells) captured c.args.answers.now.items c.loop-captured.answers.items c.follow_cell.new.answers.items
    c.loop-captured.invariant follows)

pub returns-in-Ends : goal.returns-in-Ends
returns-in-Ends g c =
    let f = g.F.CellFollower in
    let cells = c.args.cells.now in
    let place = c.loop-captured.captured-index in
    let captured = c.captured-item.result in
    let upto : take (place + 1) cells ≡ take place cells ++ captured ∷ [] =
    take_more cells place captured c.loop-captured-test.true ∙ ap (λ (item : CapturedCell). take place cells ++ item ∷ []) (sym c.captured-item.is) in
    let others = drop (place + 1) cells in
    let whole : take place cells ++ captured ∷ others ≡ cells =
    sym (append_assoc (take place cells) (captured ∷ []) others) ∙ ap (λ (cs : List CapturedCell). cs ++ others) (sym upto) ∙ take-append-drop (place + 1) cells in
    let follows = subst (λ (turn : Turn). FollowsCell f.rules (f.shows c.loop-captured.follower) captured turn (f.shows c.follow_cell.new.self)
    c.loop-captured.answers.items c.follow_cell.new.answers.items) c.in-Ends.is c.in_ok-follow_cell.ensures in
    answers_same f.rules (f.shows c.args.follower.now) (f.shows c.follow_cell.new.self) (take place cells ++ captured ∷ others) cells Ends
    c.args.answers.now.items c.follow_cell.new.answers.items whole
    (answers_last f.rules (f.shows c.args.follower.now) (f.shows c.loop-captured.follower) (f.shows c.follow_cell.new.self) (f.shows c.follow_cell.new.self)
    (take place cells) others captured c.args.answers.now.items c.loop-captured.answers.items c.follow_cell.new.answers.items
    c.loop-captured.invariant follows)
