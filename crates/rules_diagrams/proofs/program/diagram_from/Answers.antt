use Rattle.std.specs.List.{Contains}
use Rattle.rules_diagrams.specs.inner.Following.{IsTold}
use Rattle.rules_diagrams.specs.declared.diagram.Diagram.{Diagram}
use Rattle.rules_diagrams.proofs.ProgramSteps.{branches_at, continues_at, ends_at, telling}
use Rattle.rules_diagrams.proofs.Results.{if_ok}
use Rattle.rules_diagrams.proofs.program.diagram_from.Goals as goal

pub returns-in-Ends-clause-told : goal.returns-in-Ends-clause-told
returns-in-Ends-clause-told c =
    ends_at c.args.diagrams.now c.args.code.now _ c.args.place c.in-Ends.value c.args.contents.now c.in_ok-value.field-0 c.requires.place c.in-Ends.is c.in_ok-value.ensures

pub returns-in-Continues-clause-told : goal.returns-in-Continues-clause-told
returns-in-Continues-clause-told c =
    if_ok c.diagram.result (λ (diagram : Diagram). Contains c.args.tellings.now.told.items (telling c.in-Continues.next c.in-Continues.after diagram))
    (λ (diagram : Diagram). IsTold c.args.diagrams.now c.args.code.now (telling c.args.place c.args.contents.now diagram))
    (λ diagram there. continues_at c.args.diagrams.now c.args.code.now _ c.args.tellings.now.told.items c.args.place c.in-Continues.next c.args.contents.now c.in-Continues.after diagram c.in_ok-value.field-0
    c.requires.place c.in-Continues.is c.in_ok-value.ensures c.requires.told there) c.diagram.ensures

pub returns-in_ok-branched-in-Branches-clause-told : goal.returns-in_ok-branched-in-Branches-clause-told
returns-in_ok-branched-in-Branches-clause-told c =
    branches_at c.args.diagrams.now c.branched.new.diagrams c.args.code.now _ c.args.tellings.now.told.items c.args.place c.in-Branches.test c.in-Branches.k c.in-Branches.one c.in-Branches.other c.args.contents.now
    c.in_ok-first-in-Branches.first c.in_ok-second-in-Branches.second c.in_ok-branched-in-Branches.field-0 c.in_ok-value.field-0
    c.requires.place c.in-Branches.is c.in_ok-value.ensures c.requires.told c.in_ok-first-in-Branches.ensures c.in_ok-second-in-Branches.ensures c.in_ok-branched-in-Branches.ensures.branch
