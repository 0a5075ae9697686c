-- The program is loaded under the next name, or the desk refuses.
use Rattle.std.proofs.Common.{◌≡◌, ◌∙◌, ◌+◌, ◌++◌, ◌∷◌, [], Some, ap, codes, length, length-append, refl, sym, arith}
use Rattle.std.specs.Prelude.{suc}
use Rattle.card_core.specs.declared.reply.Reply.TheVariants.{Loaded, NotLoaded}
use Rattle.card_core.specs.declared.step.Step.TheVariants.{Load}
use Rattle.text_words.specs.FaultLines.{line}
use Rattle.text_script.specs.ReplyTexts.{program_name}
use Rattle.cmd_run.specs.RunText.{TakesCommand}
use Rattle.text_script.specs.ScriptCommands.{load}
use Rattle.text_card.proofs.Public.{adds-some}
use Rattle.cmd_run.specs.ShownCard.{Held}
use Rattle.cmd_run.proofs.MovesLemmas.{moves-at, moves-taken, no-name, on-ok}
use Rattle.cmd_run.proofs.script_card.ScriptCard.load_code.Goals as goal

pub returns : goal.returns
returns c =
    let old : Held = record { core = c.self.inside.core; names = c.self.inside.names } in
    let new : Held = record { core = c.load.new.self; names = c.push.new.self } in
    let command = load c.args.digits.now in
    let pushed : new.names ≡ old.names ++ c.in-Ok.id ∷ [] = c.in_ok-push.ensures in
    let count : c.count.result ≡ suc (length old.names) =
    c.count.ensures ∙ ap length pushed ∙ length-append old.names (c.in-Ok.id ∷ []) ∙ (let more : length old.names + 1 ≡ suc (length old.names) = omega arith in more) in
    let follows = rw c.of_accepted.ensures at c.in-Ok.ensures.follows in
    on-ok c.add_loaded.result c.add_loaded.ensures (λ added.
    moves-at (λ before. TakesCommand before command (Load c.args.code.items)) old _ new _ _ c.self.view_is
    (moves-taken old new old.core.shape.side command (Load c.args.code.items) (Loaded c.in-Ok.id) _ _ _ refl follows pushed added
    (λ before after stepped. ap (λ n. Some (line (codes "loaded " ++ program_name n))) (sym count))))

pub returns-in-Err : goal.returns-in-Err
returns-in-Err c =
    let old : Held = record { core = c.self.inside.core; names = c.self.inside.names } in
    let new : Held = record { core = c.load.new.self; names = c.self.inside.names } in
    let command = load c.args.digits.now in
    let follows = rw c.of_accepted.ensures at c.in-Err.ensures.follows in
    on-ok c.add_desk_fault.result c.add_desk_fault.ensures (λ added.
    let printed = adds-some _ _ _ added in
    moves-at (λ before. TakesCommand before command (Load c.args.code.items)) old _ new _ _ c.self.view_is
    (moves-taken old new old.core.shape.side command (Load c.args.code.items) (NotLoaded c.in-Err.fault c.in-Err.field-0-1) printed.0 _ _ refl follows
    (no-name old.names) printed.1 (λ before after stepped. printed.2)))
