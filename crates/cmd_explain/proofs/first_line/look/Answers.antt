-- A line feed ends the first line.
use Rattle.std.proofs.Common.{◌≡◌, ◌++◌, inl, ap, sym, ◌∙◌, not, Bool, [], ◌∷◌, get_or, if◌then◌else◌}
use Rattle.cmd_explain.specs.inner.FirstLines.{has_feed}
use Rattle.cmd_explain.proofs.WordFront.{feed_last, feed_there}
use Rattle.cmd_explain.proofs.first_line.look.Goals as goal

pub returns-in-Some-clause-enough : goal.returns-in-Some-clause-enough
returns-in-Some-clause-enough g c = λ known.
    inl (inl (sym (ap has_feed c.deref.ensures.value) ∙ feed_there c.deref.result.now c.in-Some.field-0 c.in-Some.ensures.place c.in-Some.ensures.feed))

pub returns-then-room-eq10-clause-enough : goal.returns-then-room-eq10-clause-enough
returns-then-room-eq10-clause-enough g c = λ known.
    let before = c.loop-room.octets.items in
    let octet = get_or c.take.new.room 0 0 in
    let pushed : c.push.new.self.items ≡ before ++ octet ∷ [] =
    c.push.ensures.items ∙ ap (λ (b : Bool). if b then before ++ octet ∷ [] else before) (c.is_err.ensures.negation ∙ ap not c.if-is_err.false) in
    inl (inl (ap has_feed pushed ∙ feed_last before octet c.if-room-eq10.true))
