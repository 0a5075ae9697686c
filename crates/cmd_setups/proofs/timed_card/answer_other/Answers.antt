-- A command that is taken is answered as in `run`.
use Rattle.std.proofs.Common.{Bool, sym, subst}
use Rattle.std.specs.Bool.{MatchBool}
use Rattle.captures_text.proofs.Public.{on_done}
use Rattle.cmd_setups.proofs.CommandLemmas.{taken_moves}
use Rattle.cmd_setups.proofs.timed_card.answer_other.Goals as goal

pub returns-then-is_answered_plainly : goal.returns-then-is_answered_plainly
returns-then-is_answered_plainly c =
    on_done c.answer_and_record.result _ _ c.answer_and_record.ensures
    (λ moves. taken_moves c.args.line.now c.args.card.now c.answer_and_record.new.card c.args.at_setup.now.counts.items c.answer_and_record.new.at_setup.counts.items
    c.args.answers.now.items c.answer_and_record.new.answers.items
    (sym c.if-is_answered_plainly.ensures) moves)
