-- The program's latest name isn't above the number.
use Rattle.text_script.proofs.NamingLemmas.{NotAbove}
use Rattle.text_script.proofs.names.searched_number.Given as goal

abbrev pub invariant-loop-number : goal.invariant-loop-number
invariant-loop-number l = NotAbove l.ids l.fn.id l.number

abbrev pub decreases-loop-number : goal.decreases-loop-number
decreases-loop-number l = l.number
