-- A word of these lengths that spells no cell isn't hexadecimal.
use Rattle.text_words.proofs.CellWordLemmas.{no-cell}
use Rattle.text_words.proofs.hexadecimal.word_of_digits.Goals as goal

pub returns-in-None : goal.returns-in-None
returns-in-None c = no-cell c.args.word.now c.requires c.in-None.ensures.none
