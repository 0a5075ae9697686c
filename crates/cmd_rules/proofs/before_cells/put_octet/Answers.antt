use Rattle.std.proofs.Common.{◌≡◌, length, rules}
use Rattle.cmd_rules.proofs.RulesTaken.{put_line, put_more}
use Rattle.cmd_rules.proofs.before_cells.put_octet.Goals as goal

pub returns-then-octet-eq10-clause-up_to : goal.returns-then-octet-eq10-clause-up_to
returns-then-octet-eq10-clause-up_to c =
    let sized : c.len.result ≡ length c.push.new.self.items = search rules in
    put_line c.args.text.now.items c.push.new.self.items c.args.start c.args.octet c.len.result c.requires.up_to c.if-octet-eq10.true c.requires.rules c.in_ok-push.ensures.items sized

pub returns-else-octet-eq10-clause-up_to : goal.returns-else-octet-eq10-clause-up_to
returns-else-octet-eq10-clause-up_to c =
    put_more c.args.text.now.items c.push.new.self.items c.args.start c.args.octet c.requires.up_to c.if-octet-eq10.false c.in_ok-push.ensures.items
