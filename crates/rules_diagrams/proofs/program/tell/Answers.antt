use Rattle.std.proofs.Common.{List, sym, subst}
use Rattle.std.proofs.lemmas.List.Elements.{All-push}
use Rattle.std.specs.List.{All}
use Rattle.rules_diagrams.specs.inner.Following.{IsTold}
use Rattle.rules_diagrams.specs.declared.contents.DiagramAt.{DiagramAt}
use Rattle.rules_diagrams.proofs.ProgramSteps.{telling, told_kept}
use Rattle.rules_diagrams.proofs.program.tell.Goals as goal

pub returns-clause-told : goal.returns-clause-told
returns-clause-told c =
    let told = IsTold c.diagram_from.new.diagrams c.args.code.now in
    subst (λ (all : List DiagramAt). All told all) (sym c.in_ok-push.ensures.items)
    (All-push told c.args.tellings.now.told.items (telling c.args.place c.in-Some.contents c.in_ok-diagram.diagram)
    (told_kept c.args.diagrams.now c.diagram_from.new.diagrams c.args.code.now c.args.tellings.now.told.items c.in_ok-diagram.ensures.keeps c.requires.told) c.in_ok-diagram.ensures.told)
