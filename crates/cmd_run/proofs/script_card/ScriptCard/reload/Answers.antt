-- The connection gets the program, or the desk refuses.
use Rattle.std.proofs.Common.{◌≡◌, ◌∙◌, ap, sym, refl}
use Rattle.card_core.specs.declared.reply.Reply.TheVariants.{Refused, Reloaded}
use Rattle.card_core.specs.declared.step.Step.TheVariants.{Reload}
use Rattle.cmd_run.specs.RunText.{Obeys, TakesCommand}
use Rattle.text_script.specs.ScriptCommands.{reload}
use Rattle.text_card.proofs.Public.{adds-some}
use Rattle.cmd_run.specs.ShownCard.{Held}
use Rattle.cmd_run.proofs.MovesLemmas.{moves-at, moves-named, moves-taken, no-name, on-ok, on-tie}
use Rattle.cmd_run.proofs.script_card.ScriptCard.reload.Goals.{in-Ok, in-Err}
use Rattle.cmd_run.proofs.script_card.ScriptCard.reload.Goals as goal

pub returns : goal.returns
returns c =
    let vc = c.args.vc in
    let number = c.args.number in
    let id = c.in-Some.program in
    let old : Held = record { core = c.self.inside.core; names = c.self.inside.names } in
    let new : Held = record { core = c.reload.new.self; names = c.self.inside.names } in
    let named = sym c.named.ensures ∙ c.in-Some.is in
    let is : old.core.shape.side ≡ c.shape-side.result.side = ap (λ shape. shape.side) (sym c.shape-side.ensures) in
    elim c.match-reload.branch [
      | in-Ok w ↦
          on-tie (λ before. Obeys before (reload vc number)) _ new _ _ _ _ _ w.result-is (ap (λ v. v.items) w.answers-is)
          (on-ok w.add_reloaded.result w.add_reloaded.ensures (λ added.
          moves-at (λ before. Obeys before (reload vc number)) old _ new _ _ c.self.view_is
          (moves-named (λ before here. TakesCommand before (reload vc number) (Reload vc here)) (reload vc number) number id old new _ _ named
          (moves-taken old new c.shape-side.result.side (reload vc number) (Reload vc id) (Reloaded w.in-Ok.field-0) _ _ _ is w.in-Ok.ensures.follows (no-name old.names) added
          (λ before after stepped. refl)))))
      | in-Err w ↦
          on-tie (λ before. Obeys before (reload vc number)) _ new _ _ _ _ _ w.result-is (ap (λ v. v.items) w.answers-is)
          (on-ok w.add_desk_fault.result w.add_desk_fault.ensures (λ added.
          let printed = adds-some _ _ _ added in
          moves-at (λ before. Obeys before (reload vc number)) old _ new _ _ c.self.view_is
          (moves-named (λ before here. TakesCommand before (reload vc number) (Reload vc here)) (reload vc number) number id old new _ _ named
          (moves-taken old new c.shape-side.result.side (reload vc number) (Reload vc id) (Refused w.in-Err.fault) printed.0 _ _ is w.in-Err.ensures.follows (no-name old.names) printed.1
          (λ before after stepped. printed.2)))))
    ]
