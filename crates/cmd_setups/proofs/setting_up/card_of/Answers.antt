-- A script without a fault leads to a card.
use Rattle.std.proofs.Common.{◌∙◌, List, ℕ, Option, Some, None, Ok, Bor, ap, refl, subst}
use Rattle.text_io.specs.Lines.{lines_of}
use Rattle.text_io.specs.Printing.{EndsAt, Prints}
use Rattle.text_io.specs.declared.ending.Done.TheVariants.{Ended}
use Rattle.cmd_run.specs.RunText.{RunWorld, run_rules}
use Rattle.cmd_run.specs.ShownCard.{Held, ShowsRun}
use Rattle.cmd_setups.specs.inner.NotedSetups.{AreRunCountsAtSetup}
use Rattle.cmd_setups.proofs.SetUpLemmas.{ends_card, never_ended}
use Rattle.cmd_setups.proofs.setting_up.card_of.Goals as goal

pub returns-in-Some : goal.returns-in-Some
returns-in-Some c =
    let end = c.answer_lines.ensures.world (λ r. refl) (c.in-Ok-Whole.is ∙ ap Ok c.in-Ok-Whole.field-0-is) None tt c.new-run.ensures in
    let ends : EndsAt run_rules 0 None (lines_of c.args.script.now) end.0 end.1 =
    subst (λ (r : Bor (List ℕ)). EndsAt run_rules 0 None (lines_of r.now) end.0 end.1) c.new-input.ensures.reader end.3 in
    let card = ends_card c.args.script.now end.0 end.1 ends in
    let shown : ShowsRun (Some c.in-Some.card) end.1 = subst (λ (o : Option Held). ShowsRun o end.1) c.in-Some.is (c.into_parts-card.ensures.card end.1 end.2) in
    record {
      card = card.0;
      reached = record {
        explanation = c.requires.0;
        faultless = c.requires.1;
        answers = end.0;
        reached = subst (λ (it : RunWorld). EndsAt run_rules 0 None (lines_of c.args.script.now) end.0 it) card.1 ends;
      };
      led = card.2;
      shown = subst (λ (it : RunWorld). ShowsRun (Some c.in-Some.card) it) card.1 shown;
      at_setup = subst (λ (it : RunWorld). AreRunCountsAtSetup c.into_parts-card.result.1.counts.items it) card.1 (c.into_parts-card.ensures.at_setup end.1 end.2);
    }

pub unreachable-requires : goal.unreachable-requires
unreachable-requires c =
    let end = c.answer_lines.ensures.world (λ r. refl) (c.in-Ok-Whole.is ∙ ap Ok c.in-Ok-Whole.field-0-is) None tt c.new-run.ensures in
    let ends : EndsAt run_rules 0 None (lines_of c.args.script.now) end.0 end.1 =
    subst (λ (r : Bor (List ℕ)). EndsAt run_rules 0 None (lines_of r.now) end.0 end.1) c.new-input.ensures.reader end.3 in
    let card = ends_card c.args.script.now end.0 end.1 ends in
    let shown : ShowsRun None end.1 = subst (λ (o : Option Held). ShowsRun o end.1) c.in-None.is (c.into_parts-card.ensures.card end.1 end.2) in
    subst (λ (it : RunWorld). ShowsRun None it) card.1 shown

pub unreachable-requires-in-Ok-Ended : goal.unreachable-requires-in-Ok-Ended
unreachable-requires-in-Ok-Ended c =
    let text = c.in-Ok-Ended.ensures.text (λ r. refl) (λ w. refl) None tt c.new-run.ensures in
    let ended : Prints run_rules 0 None (lines_of c.new-input.result.reader.now) text.0 Ended =
    subst (λ done. Prints run_rules 0 None (lines_of c.new-input.result.reader.now) text.0 done) c.in-Ok-Ended.field-0-is text.2 in
    let here : Prints run_rules 0 None (lines_of c.args.script.now) text.0 Ended =
    subst (λ (r : Bor (List ℕ)). Prints run_rules 0 None (lines_of r.now) text.0 Ended) c.new-input.ensures.reader ended in
    never_ended c.args.script.now text.0 c.requires here
