-- The lines so far have their texts.
use Rattle.std.proofs.Common.{map, take}
use Rattle.cmd_ports.specs.inner.DeskTexts.{ObeysEach}
use Rattle.cmd_ports.proofs.script_desk.answer_each.Given as goal

abbrev pub invariant-loop-line : goal.invariant-loop-line
invariant-loop-line g l =
    ObeysEach l.card.side (map (λ line. line.now) (take l.line-index l.lines)) l.fn.desk.names (map (λ text. text.items) l.desk_texts.items) l.desk.names
