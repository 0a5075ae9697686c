-- The rules of `forward` are total: each cell has an answer. This law is in `specs/` because the judge cites it.
use Rattle.std.proofs.Common.{◌++◌, refl}
use Rattle.cmd_setups.specs.NotJudgedCells.{not_judged_after}
use Rattle.cmd_setups.specs.Columns.{verdict_given}
use Rattle.cmd_police.specs.PolicedCards.{PolicedWorld, PolicesOneCell}
use Rattle.cmd_setups.specs.inner.CommandLaws.{carries_led, carries_some}
use Rattle.cmd_police.specs.inner.PoliceTotal.{room_led, room_some}
use Rattle.cmd_forward.specs.ForwardText.{forward_rules, onward_by}
use Rattle.cmd_forward.specs.JudgeRules.{JudgesEachCell}

-- The rules of `forward` are total.
pub forward-total : JudgesEachCell forward_rules
forward-total = record {
  keeps = λ before captured onward after led goes.
      let one = goes.1 in
      room_led one.ready after.card captured.cell captured.moment one.given
      (carries_led before.waiting after.waiting captured.moment before.card one.ready one.lines led one.carried) one.taken;
  step = λ before captured led.
      let some = carries_some before.waiting captured.moment before.card led in
      let room = room_some some.after captured.cell captured.moment
      (carries_led before.waiting some.left captured.moment before.card some.after some.text led some.carried) in
      let after : PolicedWorld = record {
        card = room.1;
        waiting = some.left;
        answers = before.answers ++ some.text;
        tick = before.tick;
        not_judged = not_judged_after before.not_judged captured.number room.0;
      } in
      let one : PolicesOneCell before captured (verdict_given room.0) after = record {
        lines = some.text;
        ready = some.after;
        carried = some.carried;
        answered = refl;
        given = room.0;
        taken = room.2;
        verdict_is = refl;
        counts = refl;
        same = refl;
      } in
      (onward_by (verdict_given room.0), after, (verdict_given room.0, one, refl));
}
