-- A word that spells a cell is read.
use Rattle.std.proofs.Common.{inl, inr, arith}
use Rattle.text_words.proofs.CellWordLemmas.{cell-digits, cell-lengths}
use Rattle.text_words.proofs.digits.cell_of_digits.Goals as goal
use Rattle.text_words.proofs.digits.cell_of_digits.Goals.{in-104, in-8, in_default}

pub returns-else-read-clause-none : goal.returns-else-read-clause-none
returns-else-read-clause-none c = λ cell is.
    let word = c.args.word.now in
    let digits = cell-digits word cell is in
    let unread = c.if-read.false in
    elim c.match-word.branch [
      | in-104 w ↦ let read = w.read_whole-read.ensures.digits digits in let same = w.read-is in absurd cc
      | in-8 w ↦ let read = w.read_header-read.ensures.digits digits in let same = w.read-is in absurd cc
      | in_default w ↦
          elim (cell-lengths word cell is) [
            | inl whole ↦ absurd (omega (arith, whole))
            | inr header ↦ absurd (omega (arith, header))
          ]
    ]
