use Rattle.std.proofs.Common.{◌≡◌, ◌≤◌, length, vec_capacity}
use Rattle.card_core.specs.Agreement.{FollowsAll}
use Rattle.card_core.specs.Kept.{AnswersSteps}
use Rattle.card_core.proofs.serial.Core.run.Given as goal

abbrev pub invariant-loop-step : goal.invariant-loop-step
invariant-loop-step l = record {
  can : (goal.iterator-loop-step).can_next l.step-iterator;
  ends : (goal.iterator-loop-step).is_finite l.step-iterator;
  room : length l.fn.steps.items ≤ vec_capacity l.replies;
  one_each : length l.replies.items ≡ length l.yielded;
  follows : FollowsAll l.fn.self l.yielded l.replies.items l.self;
  each : AnswersSteps l.fn.self l.yielded l.replies.items l.self;
}
