use Rattle.std.proofs.Common.{◌≡◌, ◌++◌}
use Rattle.cmd_police.specs.PolicedCards.{PolicedWorld, ShowsPoliced, policed_report}
use Rattle.cmd_run.specs.RunText.{IsLed}
use Rattle.cmd_forward.proofs.ForwardTexts.{in_each}
use Rattle.cmd_forward.proofs.card_judge.PolicedCardCellJudge.close.Goals as goal

pub returns : goal.returns
returns c =
    in_each c.add_report.result (λ (world : PolicedWorld). IsLed world.card) (ShowsPoliced c.args.self.now)
    (λ (world : PolicedWorld). c.add_report.new.report.items ≡ c.args.report.now.items ++ policed_report world c.args.summary.now c.args.end)
    c.add_report.ensures
