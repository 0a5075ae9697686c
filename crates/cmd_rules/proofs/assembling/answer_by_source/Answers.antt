-- The answer to a program, and to a text with a fault.
use Rattle.std.proofs.Common.{inl, inr, refl}
use Rattle.std.proofs.lemmas.Result.{IfOk-weaker}
use Rattle.bpf_asm.specs.SourceLines.{source_lines}
use Rattle.cmd_rules.proofs.FaultLineText.{ended_by_fault}
use Rattle.cmd_rules.specs.AsmText.{asm_text}
use Rattle.cmd_rules.proofs.assembling.answer_by_source.Goals as goal

pub returns-in_ok-add_source-in-Ok : goal.returns-in_ok-add_source-in-Ok
returns-in_ok-add_source-in-Ok c =
    let made = c.in-Ok.made in (
      asm_text (source_lines c.args.text.now) made,
      c.in_ok-add_source-in-Ok.ensures.source,
      inl (
        made,
        record {
          accepted = c.in-Ok.ensures.accepted;
          follows = c.in-Ok.ensures.text;
          places = c.in-Ok.ensures.places;
          answer_is = refl;
          meaning = c.in_ok-add_source-in-Ok.ensures.meaning;
        },
        refl,
      ),
    )

pub returns-in-Err : goal.returns-in-Err
returns-in-Err c =
    let ended = c.end_by_fault in
    IfOk-weaker ended.result _ _ (λ done added. (added.0, added.1, inr added.2))
    (ended_by_fault c.args.text.now c.in-Err.fault c.args.answers.now.items ended.new.answers.items ended.result c.in-Err.ensures.fault ended.ensures.faulty ended.ensures.answer)
