use Rattle.std.proofs.Common.{refl, arith}
use Rattle.rules_diagrams.specs.inner.Holding.{passed_before}
use Rattle.rules_diagrams.specs.inner.Lines.{deciding_line}
use Rattle.rules_diagrams.proofs.InsideSteps.{inside_kept, none_inside}
use Rattle.rules_diagrams.proofs.Telling.{gives_kept}
use Rattle.rules_diagrams.proofs.UnusedSteps.{all_found, deciders_are, found_more, none_before}
use Rattle.rules_diagrams.proofs.searching.unused_rules.Goals as goal

pub loop-place-init : goal.loop-place-init
loop-place-init c =
    let rules = c.args.rules.now in (
      c.in_ok-deciding.ensures.gives,
      deciders_are c.deciding_lines.new.diagrams rules c.in_ok-deciding.deciding c.in_ok-deciders.deciders c.in_ok-deciding.ensures.gives c.in_ok-deciders.ensures,
      none_inside c.deciding_lines.new.diagrams rules c.new-inside.result.items 0 c.new-inside.ensures.items refl,
      none_before rules c.new-unused.result.items c.new-unused.ensures.items,
      omega (arith, c.len-place-end.ensures, rules.lines.ok.0),
    )

pub enter-requires-clause-inside : goal.enter-requires-clause-inside
enter-requires-clause-inside c =
    inside_kept c.loop-place.diagrams c.unused_at.new.diagrams (passed_before c.args.rules.now c.loop-place.place) c.loop-place.inside.items c.unused_at.ensures.keeps c.loop-place.invariant.2

pub loop-place-preserved : goal.loop-place-preserved
loop-place-preserved c =
    let rules = c.args.rules.now in (
      gives_kept c.unused_at.new.diagrams c.enter.new.diagrams (deciding_line rules) c.in_ok-deciding.deciding c.enter.ensures.keeps
          (gives_kept c.loop-place.diagrams c.unused_at.new.diagrams (deciding_line rules) c.in_ok-deciding.deciding c.unused_at.ensures.keeps c.loop-place.invariant.0),
      c.loop-place.invariant.1,
      c.in_ok-enter.ensures.inside,
      found_more rules c.loop-place.place c.loop-place.unused.items c.loop-place.invariant.3 c.in_ok-found.found c.keep.new.unused.items c.in_ok-found.ensures.found c.in_ok-keep.ensures,
      c.loop-place.invariant.4,
    )

pub returns : goal.returns
returns c = all_found c.args.rules.now c.loop-place.place c.loop-place.unused.items (omega (arith, c.loop-place.invariant.4)) c.loop-place.invariant.3
