-- A line with words opens the card.
use Rattle.std.proofs.Common.{None, subst, sym}
use Rattle.text_io.specs.Answering.{Answers}
use Rattle.text_io.specs.Words.{words_of}
use Rattle.text_io.specs.declared.machine.Turn.TheVariants.{GoesOn}
use Rattle.cmd_run.specs.RunText.{run_rules}
use Rattle.cmd_run.specs.ShownCard.{ShowsRun}
use Rattle.cmd_run.specs.inner.Policing.{OpensAs}
use Rattle.cmd_run.proofs.PolicingLemmas.{line-asks, turn-opened}
use Rattle.cmd_run.proofs.run.Policing.answer_first.Goals as goal

pub returns-in-Some : goal.returns-in-Some
returns-in-Some c =
    let asks = line-asks (words_of c.args.line.now) c.line_words.result c.line_words.ensures c.in-One.is in
    let opened = subst (λ card. OpensAs (words_of c.args.line.now) card c.args.answers.now.items c.open.new.answers.items) c.in-Some.is c.in_ok-self.ensures in
    subst (λ card. Answers run_rules (ShowsRun card) c.args.line.now GoesOn (ShowsRun c.in_ok-self.field-0) c.args.answers.now.items c.open.new.answers.items)
    (sym c.requires)
    (subst (λ card. Answers run_rules (ShowsRun None) c.args.line.now GoesOn (ShowsRun card) c.args.answers.now.items c.open.new.answers.items) (sym c.in-Some.is)
    (turn-opened c.args.line.now c.args.answers.now.items c.open.new.answers.items c.in-Some.field-0 asks opened))
