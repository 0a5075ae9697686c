-- A marked place before the read leads on to a marked one.
use Rattle.std.proofs.Common.{◌<◌, length, arith}
use Rattle.bpf_verify.proofs.Onward.{successor_forward}
use Rattle.bpf_verify.proofs.Visit.{default_there}
use Rattle.cmd_explain.proofs.Walking.{marked_leads, marked_within, not_leading}
use Rattle.cmd_explain.proofs.path.next_of.Goals as goal

pub unreachable-unreachable : goal.unreachable-unreachable
unreachable-unreachable c =
    let code = c.args.code.now in
    let led = marked_leads code c.args.word c.args.at c.args.marks.now c.args.here c.requires.marks c.requires.marked c.requires.before in
    let within : c.args.here < length code = omega (arith, led.0) in
    absurd (not_leading code c.args.word c.args.at c.args.here _ c.args.marks.now (default_there code c.args.here _ within) c.in-None.ensures.none led.1)

pub returns-clause-step : goal.returns-clause-step
returns-clause-step c =
    let led = marked_leads c.args.code.now c.args.word c.args.at c.args.marks.now c.args.here c.requires.marks c.requires.marked c.requires.before in
    let within : c.args.here < length c.args.code.now = omega (arith, led.0) in
    (_, default_there c.args.code.now c.args.here _ within, c.in-Some.ensures.some.1)

pub returns-clause-quiet : goal.returns-clause-quiet
returns-clause-quiet c =
    (marked_leads c.args.code.now c.args.word c.args.at c.args.marks.now c.args.here c.requires.marks c.requires.marked c.requires.before).1.quiet

pub returns-clause-forward : goal.returns-clause-forward
returns-clause-forward c =
    let led = marked_leads c.args.code.now c.args.word c.args.at c.args.marks.now c.args.here c.requires.marks c.requires.marked c.requires.before in
    let within : c.args.here < length c.args.code.now = omega (arith, led.0) in
    successor_forward c.args.code.now c.args.here _ (_, default_there c.args.code.now c.args.here _ within, c.in-Some.ensures.some.1)

pub returns-clause-within : goal.returns-clause-within
returns-clause-within c = marked_within c.args.code.now c.args.word c.args.at c.args.marks.now 0 _ c.requires.marks c.in-Some.ensures.some.0
