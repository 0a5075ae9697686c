use Rattle.cmd_rules.proofs.whole_text.PrintedAnswerer.answer.Goals as goal

pub returns-in-Source : goal.returns-in-Source
returns-in-Source c = rw c.in-Source.is c.answer_by_source.ensures
