-- What the words ask for is what their options or their name say.
use Rattle.std.proofs.Common.{rules, map}
use Rattle.std.specs.String.{string_bytes}
use Rattle.cmd_options.proofs.LabChoosing.{granted_plain, stopped_plain}
use Rattle.cmd_options.specs.LabWords.{lab_faults_in}
use Rattle.cmd_options.proofs.choice.choose.Goals as goal

pub returns-in-Err-choose_plain-clause-granted : goal.returns-in-Err-choose_plain-clause-granted
returns-in-Err-choose_plain-clause-granted c = λ asked h.
    c.with_options_shown.ensures.memory
    (granted_plain (map string_bytes c.args.words.items) c.in-Err-choose_plain.stop asked (search rules)
    c.in-Err-choose_plain.ensures.granted h)

pub returns-in-Err-choose_plain-clause-stopped : goal.returns-in-Err-choose_plain-clause-stopped
returns-in-Err-choose_plain-clause-stopped c =
    let words = map string_bytes c.args.words.items in
    stopped_plain words c.with_options_shown.result (search rules)
    (c.with_options_shown.ensures.alike (lab_faults_in words) c.in-Err-choose_plain.ensures.stopped)
