-- The last answers are those to the end of the input.
use Rattle.std.proofs.Common.{List, ℕ, ◌++◌, [], refl, sym, ◌∙◌, ap, append-nil}
use Rattle.captures_text.proofs.Progresses.{if_done, if_given, on_fault, part_at}
use Rattle.captures_text.proofs.QueueProgress.{queue_finished, queued_some}
use Rattle.captures_text.proofs.driver.finish.Goals as goal

pub returns-in-Err-clause-front : goal.returns-in-Err-clause-front
returns-in-Err-clause-front g c = λ known world sound is_shown.
    let some = queued_some g.F.CellFollower.rules g.met.F.CellFollower.is_total c.args.reading.now [] world c.args.reading.now.window sound in
    (some.0, some.1, ([], c.args.answers.now.items ++ some.0, refl, sym (append-nil (g.O.Output.held c.args.output.now))), some.2)

pub returns-in-Ok-clause-given : goal.returns-in-Ok-clause-given
returns-in-Ok-clause-given g c = λ known.
    let f = g.F.CellFollower in
    let finished = queue_finished f.rules (f.shows c.args.follower.now) c.args.reading.now c.octets.result.now c.summary.result c.end-ending.result
    c.done_at-done.result c.args.answers.now.items c.close.new.answers.items c.in-Ok.ensures c.summary.ensures c.octets.ensures c.requires
    c.end-ending.ensures c.done_at-done.ensures in
    if_given c.give_last.result c.done_at-done.result _ _ c.give_last.ensures.done (c.give_last.ensures.given known)
    (λ gives world sound is_shown.
    let end = finished world sound is_shown in
    (end.0, gives ∙ ap (λ (xs : List ℕ). g.O.Output.held c.args.output.now ++ xs) end.1, end.2))

pub returns-in-Ok-clause-front : goal.returns-in-Ok-clause-front
returns-in-Ok-clause-front g c = λ known.
    let f = g.F.CellFollower in
    let finished = queue_finished f.rules (f.shows c.args.follower.now) c.args.reading.now c.octets.result.now c.summary.result c.end-ending.result
    c.done_at-done.result c.args.answers.now.items c.close.new.answers.items c.in-Ok.ensures c.summary.ensures c.octets.ensures c.requires
    c.end-ending.ensures c.done_at-done.ensures in
    on_fault c.give_last.result _ _ (c.give_last.ensures.front known)
    (λ part world sound is_shown.
    let end = finished world sound is_shown in
    (end.0, c.done_at-done.result, part_at _ _ _ _ end.1 part, end.2))

pub returns-in-Ok-clause-text : goal.returns-in-Ok-clause-text
returns-in-Ok-clause-text g c =
    let f = g.F.CellFollower in
    let finished = queue_finished f.rules (f.shows c.args.follower.now) c.args.reading.now c.octets.result.now c.summary.result c.end-ending.result
    c.done_at-done.result c.args.answers.now.items c.close.new.answers.items c.in-Ok.ensures c.summary.ensures c.octets.ensures c.requires
    c.end-ending.ensures c.done_at-done.ensures in
    if_done c.give_last.result c.done_at-done.result _ c.give_last.ensures.done
    (λ world sound is_shown.
    let end = finished world sound is_shown in
    (end.0, end.2))
