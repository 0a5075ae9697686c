use Rattle.std.proofs.Common.{◌≡◌, ◌<◌, ◌==◌, ℕ, not, List, Bool, true, Some, length, slice_get, subst, arith}
use Rattle.std.proofs.lemmas.List.{length-map}
use Rattle.line_record.proofs.MarkLemmas.{are_held-held}
use Rattle.line_record.proofs.held_lines.HeldLines.lowest_free.Goals as goal

pub returns-then-from-len-clause-lowest : goal.returns-then-from-len-clause-lowest
returns-then-from-len-clause-lowest c = λ lower before.
    let first = c.self.invariant.first in
    subst (λ (held : List Bool). slice_get held lower ≡ Some true) c.self.view_is
    (are_held-held c.self.inside.marks.items lower (omega (arith, before, first.within)) (first.below lower (omega arith) before))

pub returns-else-from-len-clause-free : goal.returns-else-from-len-clause-free
returns-else-from-len-clause-free c =
    let marks = c.self.inside.marks.items in
    let first = c.self.invariant.first in
    subst (λ (held : List Bool). (line : ℕ) → line < length held → slice_get held line ≡ Some true) c.self.view_is
    (λ line within.
    let there : line < length marks = omega (arith, within, length-map marks (λ (mark : ℕ). not (mark == 0))) in
    are_held-held marks line there (first.below line (omega arith) (omega (arith, there, c.self.invariant.first.within))))
