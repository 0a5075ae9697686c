-- A place is marked exactly if it leads on.
use Rattle.std.proofs.Common.{◌<◌, length, arith}
use Rattle.bpf_verify.proofs.Visit.{default_there}
use Rattle.cmd_explain.proofs.Walking.{leading, marked_kept, not_leading, not_quiet, quiet_kept}
use Rattle.cmd_explain.proofs.path.mark.Goals as goal

pub returns-then-stores : goal.returns-then-stores
returns-then-stores c =
    let code = c.args.code.now in
    let within : c.args.place < length code = omega arith in
    quiet_kept code c.args.word c.args.at c.args.marks.now c.args.place c.requires.later
    (not_quiet code c.args.word c.args.at c.args.place _ c.args.marks.now (default_there code c.args.place _ within) (c.stores.ensures.0 c.if-stores.true))

pub returns-in-None : goal.returns-in-None
returns-in-None c =
    let code = c.args.code.now in
    let within : c.args.place < length code = omega arith in
    quiet_kept code c.args.word c.args.at c.args.marks.now c.args.place c.requires.later
    (not_leading code c.args.word c.args.at c.args.place _ c.args.marks.now (default_there code c.args.place _ within) c.in-None.ensures.none)

pub returns-in-Some : goal.returns-in-Some
returns-in-Some c =
    let code = c.args.code.now in
    let within : c.args.place < length code = omega arith in
    let room : c.args.place < length c.args.marks.now = omega arith in
    let found = c.in-Some.ensures.some in
    marked_kept code c.args.word c.args.at c.args.marks.now c.args.place room c.requires.before c.requires.later
    (leading code c.args.word c.args.at c.args.place _ _ c.args.marks.now (default_there code c.args.place _ within)
    (λ s. let is = c.stores.ensures.1 s in let not = c.if-stores.false in cc) found.0 found.1)
