use Rattle.cmd_list.specs.inner.LongestRuns.{one-longest, some-longest}
use Rattle.cmd_list.proofs.laws.an_accepted_code_has_one_longest_run.Goals as goal

pub returns : goal.returns
returns c code accepted =
    let found = some-longest code accepted in
    (found.0, found.1, found.2, λ other longest. one-longest code other found.0 longest found.1)
