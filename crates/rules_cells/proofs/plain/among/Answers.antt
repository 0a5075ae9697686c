use Rattle.rules_cells.specs.PlainOf.{most_of, unit_of}
use Rattle.rules_cells.proofs.Spans.{placed_all}
use Rattle.rules_cells.proofs.plain.among.Goals as goal

pub returns : goal.returns
returns c = record {
  part = c.part_of.result;
  first = c.placed_span-first.result;
  others = c.in_ok-others.others.items;
  part_is = c.part_of.ensures;
  spans_are = placed_all c.most_of-most.result (most_of c.args.side c.args.field) c.unit_of-unit.result (unit_of c.args.field) c.args.first c.args.others.now c.placed_span-first.result c.in_ok-others.others.items
      c.most_of-most.ensures c.unit_of-unit.ensures c.placed_span-first.ensures c.in_ok-others.ensures;
  compares = c.in_ok-test.ensures;
}
