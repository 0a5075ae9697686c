use Rattle.std.proofs.Common.{nat_le, ◌+◌, suc, arith, refl, sym, subst, false, ◌≡◌}
use Rattle.std.specs.BTreeSet.{contains}
use Rattle.std.specs.Ordering.{nat_cmp}
use Rattle.rules_cells.specs.declared.rules.RuleLine.TheVariants.{Rule, Block}
use Rattle.rules_diagrams.specs.inner.Holding.{passed_before}
use Rattle.rules_diagrams.specs.inner.Lines.{deciding_line}
use Rattle.rules_diagrams.specs.declared.unused.Unused.{Unused}
use Rattle.rules_diagrams.proofs.InsideSteps.{first_told, first_within, line_at}
use Rattle.rules_diagrams.proofs.Telling.{gives_kept}
use Rattle.rules_diagrams.proofs.UnusedSteps.{block_spared, holds, unused_is}
use Rattle.rules_diagrams.proofs.searching.unused_at.Goals as goal

pub held-requires : goal.held-requires
held-requires c = first_within c.args.diagrams.now (passed_before c.args.rules.now c.args.place) c.args.inside.now.items c.requires.inside

pub takers-requires-clause-held : goal.takers-requires-clause-held
takers-requires-clause-held c =
    (c.in_ok-held-in-Rule.ensures.tells (λ cell. nat_le (passed_before c.args.rules.now c.args.place cell) 0)
    (first_told c.args.diagrams.now (passed_before c.args.rules.now c.args.place) c.args.inside.now.items c.requires.inside)).within

pub returns-in_ok-takers-in-Rule-clause-found : goal.returns-in_ok-takers-in-Rule-clause-found
returns-in_ok-takers-in-Rule-clause-found c =
    let rules = c.args.rules.now in
    let place = c.args.place in
    let at = line_at rules.lines.items place (Rule c.in-Rule.test c.in-Rule.value) c.index.result.now c.requires.place c.index.ensures c.in-Rule.is in
    let unused : Unused = record { place = place; takers = c.in_ok-takers-in-Rule.takers } in
    let held = c.in_ok-held-in-Rule.ensures.tells (λ cell. nat_le (passed_before rules place cell) 0) (first_told c.args.diagrams.now (passed_before rules place) c.args.inside.now.items c.requires.inside) in
    let next : place + 1 ≡ suc place = omega arith in
    let lacks : contains nat_cmp c.args.deciders.now (suc place) ≡ false = subst (λ n. contains nat_cmp c.args.deciders.now n ≡ false) next (sym c.if-contains.ensures) in (
      refl,
      unused_is c.the_first_rule_decides.ensures rules place c.in-Rule.value c.in-Rule.test at c.args.deciders.now c.in_ok-takers-in-Rule.takers.items unused refl refl c.requires.deciders lacks
          (c.in_ok-takers-in-Rule.ensures.taken (deciding_line rules) (holds c.the_first_rule_decides.ensures rules place c.in-Rule.value c.in-Rule.test at)
          (gives_kept c.args.diagrams.now c.held.new.diagrams (deciding_line rules) c.args.deciding c.held.ensures.keeps c.requires.deciding) held),
    )

pub returns-in-Block-clause-found : goal.returns-in-Block-clause-found
returns-in-Block-clause-found c =
    block_spared c.args.rules.now c.args.place c.in-Block.test
    (line_at c.args.rules.now.lines.items c.args.place (Block c.in-Block.test) c.index.result.now c.requires.place c.index.ensures c.in-Block.is)
