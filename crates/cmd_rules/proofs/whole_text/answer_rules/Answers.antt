-- An answer that is allowed is one that may be.
use Rattle.text_io.proofs.Public.{served-wider}
use Rattle.text_io.specs.Gathered.{AnswersGathered, gathered}
use Rattle.text_words.specs.FaultLines.{too_long}
use Rattle.cmd_rules.specs.RulesAnswers.{MayBeAnswerBy, most_rules_octets}
use Rattle.cmd_rules.specs.inner.PrintedAs.{MayPrint, prints_as}
use Rattle.cmd_rules.proofs.WholeAnswers.{whole-may}
use Rattle.cmd_rules.proofs.whole_text.answer_rules.Goals as goal

pub returns-clause-served : goal.returns-clause-served
returns-clause-served g c =
    served-wider (λ octets. AnswersGathered too_long (MayPrint (prints_as c.args.printed)) (gathered most_rules_octets octets)) (MayBeAnswerBy (prints_as c.args.printed))
    (whole-may c.args.printed) g.I.Input c.args.input.now c.answer_whole.new.input g.O.Output c.args.output.now c.answer_whole.new.output c.answer_whole.result
    c.answer_whole.ensures.served
