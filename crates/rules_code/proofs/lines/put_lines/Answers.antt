use Rattle.std.proofs.Common.{◌≡◌, length, drop, None, arith, ◌-◌, ◌+◌, ◌<◌, ◌∙◌, reverse, ap, [], ◌∷◌}
use Rattle.std.proofs.lemmas.List.{reverse-append}
use Rattle.std.proofs.lemmas.List.{drop_all}
use Rattle.rules_code.specs.inner.Held.{held_at}
use Rattle.rules_code.specs.inner.Coding.{coded_of}
use Rattle.rules_code.proofs.Coding.{lines_none, lines_put, lines_all, read_at}
use Rattle.rules_code.proofs.LengthSteps.{lengths_none, lengths_put, lengths_all}
use Rattle.rules_code.proofs.lines.put_lines.Goals as goal

pub loop-left-init : goal.loop-left-init
loop-left-init c =
    let none = drop_all (length c.args.lines.now) c.args.lines.now (omega arith) in
    record {
      within = omega arith;
      coded = lines_none (drop (length c.args.lines.now) c.args.lines.now) None (held_at c.args.lines.now None (length c.args.lines.now)) c.args.otherwise _ none c.in_ok-coding.ensures;
      starts_from_end = rw c.new-starts_from_end.ensures.items (lengths_none (drop (length c.args.lines.now) c.args.lines.now) (held_at c.args.lines.now None (length c.args.lines.now)) c.args.otherwise none);
    }

pub loop-left-preserved : goal.loop-left-preserved
loop-left-preserved c =
    let lines = c.args.lines.now in
    let left = c.loop-left.left in
    let at = left - 1 in
    let lt : at < length lines = omega arith in
    let next : at + 1 ≡ left = omega arith in
    let coded = lines_put lines at left c.index-lines-left.result c.index.result.now c.args.otherwise (coded_of c.loop-left.coding) (coded_of c.put_line.new.coding) lt next c.loop-left.invariant.coded
    c.index-lines-left.is (c.index.ensures ∙ read_at c.in_ok-parts.parts.items at c.index.result.now (held_at lines None at) (c.in_ok-parts.ensures.held at lt)) c.in_ok-put_line.ensures in
    record {
      within = omega arith;
      coded = coded;
      starts_from_end = lengths_put lines at left c.index-lines-left.result None c.args.otherwise c.len.result (coded_of c.put_line.new.coding) (reverse c.loop-left.starts_from_end.items) _ lt next
          coded c.len.ensures.count c.loop-left.invariant.starts_from_end (ap reverse c.in_ok-push.ensures.items ∙ reverse-append c.loop-left.starts_from_end.items (c.len.result ∷ []));
    }

pub returns-clause-code : goal.returns-clause-code
returns-clause-code c = lines_all c.args.lines.now None c.loop-left.left c.args.otherwise (coded_of c.loop-left.coding) (omega arith) c.loop-left.invariant.coded

pub returns-clause-starts_from_end : goal.returns-clause-starts_from_end
returns-clause-starts_from_end c = lengths_all c.args.lines.now None c.loop-left.left c.args.otherwise c.reverse.new.self.items (omega arith) (c.reverse.ensures.items ∙ c.loop-left.invariant.starts_from_end)
