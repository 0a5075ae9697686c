-- The lines that are left complete the script, whatever is done for each.
use Rattle.std.proofs.Common.{◌+◌, arith, sym, subst, List, ℕ}
use Rattle.cmd_police.specs.RulesFiles.{IsFaultOfRules, next_text}
use Rattle.cmd_setups.specs.SharedTexts.{octets_of_texts}
use Rattle.cmd_police.specs.inner.Expansion.{Completes, GrowsByProgram}
use Rattle.cmd_police.proofs.Completing.{faulty_line, kept_line, loaded_line, made_whole}
use Rattle.cmd_police.proofs.expanding.replaced.Goals as goal

pub loop-line-preserved-in_ok-add_text-in-None : goal.loop-line-preserved-in_ok-add_text-in-None
loop-line-preserved-in_ok-add_text-in-None c = record {
  counted = let shorter = c.in-Some.ensures.shorter in let counted = c.loop-line.invariant.counted in omega (arith, shorter, counted);
  completes =
      kept_line c.args.script.now (octets_of_texts c.args.texts.now) c.loop-line.made.items c.loop-line.number c.loop-line.left.now
      (octets_of_texts c.loop-line.texts_left.now) c.loop-line.invariant.completes c.in-Some.line.now c.in-Some.size c.in-Some.octets.now c.in-Some.rest.now
      c.in-Some.ensures.lines c.add_text.new.answers.items (sym c.in-None.ensures) c.in_ok-add_text-in-None.ensures;
}

pub loop-line-preserved : goal.loop-line-preserved
loop-line-preserved c = record {
  counted = let shorter = c.in-Some.ensures.shorter in let counted = c.loop-line.invariant.counted in omega (arith, shorter, counted);
  completes =
      let made = c.loop-line.made.items in
      let new = c.add_program_of.new.script.items in
      let texts = octets_of_texts c.loop-line.texts_left.now in
      let grows : GrowsByProgram c.next_text.result.now made new = rw c.in_default-2.is at c.in_ok-told-in-Some-name_within.ensures in
      let grows_by : GrowsByProgram (next_text texts) made new = subst (λ (t : List ℕ). GrowsByProgram t made new) c.next_text.ensures grows in
      subst (Completes c.args.script.now (octets_of_texts c.args.texts.now) new (c.loop-line.number + 1) c.in-Some.rest.now) (sym c.later_texts-texts_left.ensures)
      (loaded_line c.args.script.now (octets_of_texts c.args.texts.now) made c.loop-line.number c.loop-line.left.now texts c.loop-line.invariant.completes
      c.in-Some.line.now c.in-Some.size c.in-Some.octets.now c.in-Some.rest.now c.in-Some.ensures.lines c.in-Some-name_within.name.now new
      (sym c.in-Some-name_within.ensures) grows_by);
}

pub returns-in-Some-2 : goal.returns-in-Some-2
returns-in-Some-2 c =
    let texts = octets_of_texts c.loop-line.texts_left.now in
    let fault = c.in-Some-2.told.line.items in
    let reason = c.in-Some-2.told.reason.items in
    let is : IsFaultOfRules c.next_text.result.now fault reason = rw c.in-Some-2.is at c.in_ok-told-in-Some-name_within.ensures in
    faulty_line c.args.script.now (octets_of_texts c.args.texts.now) c.loop-line.made.items c.loop-line.number c.loop-line.left.now texts
    c.loop-line.invariant.completes c.in-Some.line.now c.in-Some.size c.in-Some.octets.now c.in-Some.rest.now c.in-Some.ensures.lines
    c.in-Some-name_within.name.now fault reason c.in_ok-faulty_text-in-Some-name_within.field-0.items (sym c.in-Some-name_within.ensures)
    (subst (λ (t : List ℕ). IsFaultOfRules t fault reason) c.next_text.ensures is) c.in_ok-faulty_text-in-Some-name_within.ensures

pub returns : goal.returns
returns c =
    made_whole c.args.script.now (octets_of_texts c.args.texts.now) c.loop-line.made.items c.loop-line.number c.loop-line.left.now
    (octets_of_texts c.loop-line.texts_left.now) c.loop-line.invariant.completes c.in_default.ensures.lines
