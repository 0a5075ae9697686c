use Rattle.std.proofs.Common.{◌≤◌, arith}
use Rattle.line_record.proofs.UsesLemmas.{KeepsDirectory-new}
use Rattle.line_record.proofs.directory.Directory.empty.Goals as goal

pub invariant_of-result : goal.invariant_of-result
invariant_of-result c =
    let few : c.args.lines ≤ 65535 = omega (arith, c.ranges.lines.fits) in
    KeepsDirectory-new c.in_ok-seats.seats c.in_ok-held.held c.in_ok-uses.uses c.args.lines c.args.used
    c.in_ok-seats.ensures c.in_ok-held.ensures c.in_ok-uses.ensures c.requires.some few c.requires.most
