-- The program is retired, or the desk refuses.
use Rattle.std.proofs.Common.{◌∙◌, ap, sym, refl}
use Rattle.card_core.specs.declared.reply.Reply.TheVariants.{Refused, Retired}
use Rattle.card_core.specs.declared.step.Step.TheVariants.{Retire}
use Rattle.cmd_run.specs.RunText.{Obeys, TakesCommand}
use Rattle.text_script.specs.ScriptCommands.{retire}
use Rattle.text_card.proofs.Public.{adds-some}
use Rattle.cmd_run.specs.ShownCard.{Held}
use Rattle.cmd_run.proofs.MovesLemmas.{moves-at, moves-named, moves-taken, no-name, on-ok, on-tie}
use Rattle.cmd_run.proofs.script_card.ScriptCard.retire.Goals.{in-Ok, in-Err}
use Rattle.cmd_run.proofs.script_card.ScriptCard.retire.Goals as goal

pub returns : goal.returns
returns c =
    let number = c.args.number in
    let id = c.in-Some.id in
    let old : Held = record { core = c.self.inside.core; names = c.self.inside.names } in
    let new : Held = record { core = c.retire.new.self; names = c.self.inside.names } in
    let named = sym c.named.ensures ∙ c.in-Some.is in
    elim c.match-retire.branch [
      | in-Ok w ↦
          on-tie (λ before. Obeys before (retire number)) _ new _ _ _ _ _ w.result-is (ap (λ v. v.items) w.answers-is)
          (on-ok w.add_retired.result w.add_retired.ensures (λ added.
          moves-at (λ before. Obeys before (retire number)) old _ new _ _ c.self.view_is
          (moves-named (λ before here. TakesCommand before (retire number) (Retire here)) (retire number) number id old new _ _ named
          (moves-taken old new old.core.shape.side (retire number) (Retire id) (Retired w.in-Ok.field-0) _ _ _ refl w.in-Ok.ensures.follows (no-name old.names) added
          (λ before after stepped. refl)))))
      | in-Err w ↦
          on-tie (λ before. Obeys before (retire number)) _ new _ _ _ _ _ w.result-is (ap (λ v. v.items) w.answers-is)
          (on-ok w.add_desk_fault.result w.add_desk_fault.ensures (λ added.
          let printed = adds-some _ _ _ added in
          moves-at (λ before. Obeys before (retire number)) old _ new _ _ c.self.view_is
          (moves-named (λ before here. TakesCommand before (retire number) (Retire here)) (retire number) number id old new _ _ named
          (moves-taken old new old.core.shape.side (retire number) (Retire id) (Refused w.in-Err.fault) printed.0 _ _ refl w.in-Err.ensures.follows (no-name old.names) printed.1
          (λ before after stepped. printed.2)))))
    ]
