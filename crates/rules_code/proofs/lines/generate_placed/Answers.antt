use Rattle.std.proofs.Common.{◌≤◌, length, List, arith, sym, subst, ap}
use Rattle.bpf_code.specs.declared.instr.Instr.{Instr}
use Rattle.bpf_verify.specs.Accepted.{IsAccepted}
use Rattle.rules_code.specs.LineCode.{lines_code}
use Rattle.rules_code.specs.Promise.{Classifies}
use Rattle.rules_code.proofs.LinesFit.{lines_classify}
use Rattle.rules_code.proofs.LinesAccepted.{lines_accepted}
use Rattle.rules_code.proofs.lines.generate_placed.Goals as goal

pub returns : goal.returns
returns c =
    let lines = c.args.lines.now in
    let otherwise = c.args.otherwise in
    let is = c.in-Ok.ensures.code in
    let count = ap length is in
    let few : length (lines_code lines otherwise) ≤ 4096 = omega (arith, c.in-Ok.placed.code.ok.0, count) in
    record {
      accepted = subst (λ (code : List Instr). IsAccepted code) (sym is) (lines_accepted lines otherwise few);
      value = subst (λ (code : List Instr). Classifies lines otherwise code) (sym is) (lines_classify lines otherwise);
      code = is;
      starts_from_end = c.in-Ok.ensures.starts_from_end;
      too_long = λ e. absurd cc;
      short = few;
    }
