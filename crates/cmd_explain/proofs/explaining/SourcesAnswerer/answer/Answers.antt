use Rattle.std.proofs.Common.{List, inl, subst}
use Rattle.std.proofs.lemmas.Result.{IfOk-weaker}
use Rattle.bpf_code.specs.declared.instr.Instr.{Instr}
use Rattle.cmd_explain.specs.Explained.{ExplainsCode}
use Rattle.cmd_explain.proofs.explaining.SourcesAnswerer.answer.Goals as goal

pub returns-in-Ok : goal.returns-in-Ok
returns-in-Ok c =
    let source = c.args.octets.now in
    IfOk-weaker c.explain_code.result _ _
    (λ done added. (
      added.0,
      added.1,
      inl (c.in-Ok.code.items, c.in-Ok.ensures.code, subst (λ (code : List Instr). ExplainsCode source code added.0 done) c.deref.ensures.value added.2),
    ))
    c.explain_code.ensures
