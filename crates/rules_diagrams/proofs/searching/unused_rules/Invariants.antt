use Rattle.std.proofs.Common.{◌≡◌, length}
use Rattle.rules_diagrams.specs.inner.Holding.{AreDeciders, AreInside, AreUnusedBefore, passed_before}
use Rattle.rules_diagrams.specs.inner.Lines.{deciding_line}
use Rattle.rules_diagrams.specs.inner.Tells.{GivesNumber}
use Rattle.rules_diagrams.proofs.searching.unused_rules.Given as goal

abbrev pub invariant-loop-place : goal.invariant-loop-place
invariant-loop-place l =
    GivesNumber l.diagrams (deciding_line l.rules) l.deciding
    × AreDeciders (deciding_line l.rules) l.deciders
    × AreInside l.diagrams (passed_before l.rules l.place) l.inside.items
    × AreUnusedBefore l.rules l.place l.unused.items
    × (length l.rules.lines.items ≡ l.place-end)
