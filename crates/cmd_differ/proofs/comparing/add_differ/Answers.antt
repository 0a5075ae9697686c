-- The old text is a side, and the new one has a fault, or both are sides.
use Rattle.std.proofs.Common.{◌++◌, ◌∙◌, ap, refl, inl, inr}
use Rattle.std.proofs.lemmas.Result.{IfOk-weaker}
use Rattle.cmd_differ.specs.inner.SidesRead.{side_read}
use Rattle.cmd_differ.proofs.comparing.add_differ.Goals as goal

pub returns-in_default-2 : goal.returns-in_default-2
returns-in_default-2 c =
    let was = rw c.in-Some.is at c.in_ok-was.ensures in
    let faulty = rw c.in_default-2.is at c.in_ok-changed.ensures in
    (faulty.0, faulty.1 ∙ ap (λ xs. xs ++ faulty.0) was.0, inr (side_read c.in-Some.was, was.1, inl (faulty.2, refl)))

pub returns : goal.returns
returns c =
    let was = rw c.in-Some.is at c.in_ok-was.ensures in
    let changed = rw c.in-Some-2.is at c.in_ok-changed.ensures in
    IfOk-weaker c.add_comparison.result _ _
    (λ finding added. (
      added.0,
      added.1 ∙ ap (λ xs. xs ++ added.0) (changed.0 ∙ was.0),
      inr (side_read c.in-Some.was, was.1, inr (side_read c.in-Some-2.changed, changed.1, added.2)),
    )) c.add_comparison.ensures
