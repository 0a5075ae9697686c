use Rattle.std.specs.List.{Contains}
use Rattle.rules_diagrams.specs.inner.Programs.{GivesValue}
use Rattle.rules_diagrams.specs.declared.diagram.Diagram.{Diagram}
use Rattle.rules_diagrams.proofs.FirstContents.{first_contents, value_given}
use Rattle.rules_diagrams.proofs.ProgramSteps.{telling, told_of}
use Rattle.rules_diagrams.proofs.Results.{if_ok}
use Rattle.rules_diagrams.proofs.program.program_diagram.Goals as goal

pub returns-clause-value : goal.returns-clause-value
returns-clause-value c =
    if_ok c.diagram.result (λ (diagram : Diagram). Contains c.in_ok-tellings.tellings.told.items (telling 0 first_contents diagram)) (GivesValue c.tell_all.new.diagrams c.args.code.now)
    (λ diagram there. value_given c.tell_all.new.diagrams c.args.code.now diagram
    (told_of c.tell_all.new.diagrams c.args.code.now c.in_ok-tellings.tellings.told.items 0 first_contents diagram c.in_ok-tellings.ensures.told there)) c.diagram.ensures
