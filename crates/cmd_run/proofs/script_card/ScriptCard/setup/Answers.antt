-- The connection is set up, or the desk refuses.
use Rattle.std.proofs.Common.{◌≡◌, ◌∙◌, ap, sym, refl}
use Rattle.card_core.specs.declared.ask.Ask.{Ask}
use Rattle.card_core.specs.declared.reply.Reply.TheVariants.{NotSetUp, SetUp}
use Rattle.card_core.specs.declared.step.Step.TheVariants.{Setup}
use Rattle.cmd_run.specs.RunText.{Obeys}
use Rattle.text_script.specs.ScriptCommands.{setup}
use Rattle.text_card.proofs.Public.{adds-some}
use Rattle.cmd_run.specs.ShownCard.{Held}
use Rattle.cmd_run.proofs.MovesLemmas.{moves-at, moves-setup, moves-taken, no-name, on-ok, on-tie}
use Rattle.cmd_run.proofs.script_card.ScriptCard.setup.Goals.{in-Ok-setup, in-Err-setup}
use Rattle.cmd_run.proofs.script_card.ScriptCard.setup.Goals as goal

pub returns : goal.returns
returns c =
    let vc = c.args.vc in
    let number = c.args.number in
    let wanted = c.args.wanted.now.items in
    let contracts = c.in-Ok.contracts.items in
    let id = c.in-Some.program in
    let ask : Ask = record { vc = vc; program = id; contracts = record { items = contracts } } in
    let old : Held = record { core = c.self.inside.core; names = c.self.inside.names } in
    let new : Held = record { core = c.setup.new.self; names = c.self.inside.names } in
    let named = sym c.named.ensures ∙ c.in-Some.is in
    let is : old.core.shape.side ≡ c.shape-side.result.side = ap (λ shape. shape.side) (sym c.shape-side.ensures) in
    elim c.match-setup.branch [
      | in-Ok-setup w ↦
          on-tie (λ before. Obeys before (setup vc number wanted)) _ new _ _ _ _ _ w.result-is (ap (λ v. v.items) w.answers-is)
          (on-ok w.add_set.result w.add_set.ensures (λ added.
          moves-at (λ before. Obeys before (setup vc number wanted)) old _ new _ _ c.self.view_is
          (moves-setup vc number wanted contracts id old new _ _ c.in-Ok.ensures.sound c.in-Ok.ensures.made named
          (moves-taken old new c.shape-side.result.side (setup vc number wanted) (Setup ask) (SetUp w.in-Ok-setup.field-0) _ _ _ is w.in-Ok-setup.ensures.follows (no-name old.names) added
          (λ before after stepped. refl)))))
      | in-Err-setup w ↦
          on-tie (λ before. Obeys before (setup vc number wanted)) _ new _ _ _ _ _ w.result-is (ap (λ v. v.items) w.answers-is)
          (on-ok w.add_desk_fault.result w.add_desk_fault.ensures (λ added.
          let printed = adds-some _ _ _ added in
          moves-at (λ before. Obeys before (setup vc number wanted)) old _ new _ _ c.self.view_is
          (moves-setup vc number wanted contracts id old new _ _ c.in-Ok.ensures.sound c.in-Ok.ensures.made named
          (moves-taken old new c.shape-side.result.side (setup vc number wanted) (Setup ask) (NotSetUp w.in-Err-setup.fault w.in-Err-setup.field-0-1) printed.0 _ _ is w.in-Err-setup.ensures.follows
          (no-name old.names) printed.1 (λ before after stepped. printed.2)))))
    ]
