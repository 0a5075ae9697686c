-- The counts of the line without those at its start are those of the connection.
use Rattle.std.proofs.Common.{◌≡◌, ◌∙◌, Some, ap, option_map, sym}
use Rattle.line_record.specs.Tally.{tally_of}
use Rattle.line_record.specs.declared.tally.Tally.{Tally}
use Rattle.cmd_setups.specs.ConnectionCounts.{own_counts}
use Rattle.cmd_setups.specs.CountsAtSetup.{counts_of_line}
use Rattle.cmd_setups.specs.inner.CountsSince.{counts_since}
use Rattle.cmd_setups.proofs.StartLemmas.{since_start}
use Rattle.cmd_setups.proofs.counts_at_setup.CountsAtSetup.own_counts.Goals as goal

pub returns-in-Some : goal.returns-in-Some
returns-in-Some c = λ world agrees are.
    let at_setup = c.args.self.now.counts.items in
    let counts = c.in-Some.state.state.counts in
    let there = c.in-Some.ensures.state world agrees in
    let to : counts_since (tally_of (world.verdicts there.connection.line)) (counts_of_line at_setup there.connection.line) ≡ c.counts_since.result =
    ap (λ (tally : Tally). counts_since tally (counts_of_line at_setup there.connection.line)) (sym there.counts)
    ∙ ap (λ n. counts_since counts (counts_of_line at_setup n)) (sym there.line)
    ∙ ap (λ (tally : Tally). counts_since counts tally) (sym c.counts_of_line.ensures)
    ∙ sym c.counts_since.ensures in
    ap (option_map own_counts) there.found
    ∙ ap Some (since_start (tally_of (world.verdicts there.connection.line)) (counts_of_line at_setup there.connection.line) (own_counts there.connection)
    (are c.args.vc there.connection there.found) ∙ to)
