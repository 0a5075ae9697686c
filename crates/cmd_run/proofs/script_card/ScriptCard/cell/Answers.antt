-- The word spells a cell, which is policed.
use Rattle.std.proofs.Common.{subst}
use Rattle.text_words.specs.CellWord.{IsCellWord}
use Rattle.cmd_run.proofs.ArrivalLemmas.{moves-cell}
use Rattle.cmd_run.proofs.MovesLemmas.{on-ok}
use Rattle.cmd_run.proofs.script_card.ScriptCard.cell.Goals as goal

pub returns-in-OfCell : goal.returns-in-OfCell
returns-in-OfCell c =
    let word = subst (λ found. IsCellWord c.args.word.now found) c.in-OfCell.is c.in_ok-cell.ensures in
    on-ok c.police.result c.police.ensures (λ moves.
    moves-cell c.args.moment c.args.word.now word.0 c.in-OfCell.cell _ _ _ _ word.1 word.2 word.3 moves)
