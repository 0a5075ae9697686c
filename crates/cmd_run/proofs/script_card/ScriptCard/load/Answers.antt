-- The octets that the digits spell are a program, which is loaded.
use Rattle.std.proofs.Common.{◌≡◌, ◌∙◌, Some, ap, option_map, subst, sym}
use Rattle.card_core.specs.declared.step.Step.TheVariants.{Load}
use Rattle.text_words.specs.Hexadecimal.{octets_of_digits}
use Rattle.cmd_programs.specs.Program.{ReadsAs}
use Rattle.cmd_run.specs.RunText.{TakesCommand}
use Rattle.text_script.specs.ScriptCommands.{load}
use Rattle.cmd_programs.specs.Finding.{Finds}
use Rattle.cmd_run.specs.ShownCard.{Moves}
use Rattle.cmd_run.proofs.MovesLemmas.{moves-load, on-ok}
use Rattle.cmd_run.proofs.script_card.ScriptCard.load.Goals as goal

pub returns-in-Some-2 : goal.returns-in-Some-2
returns-in-Some-2 c =
    let digits = c.args.digits.now in
    let spelled : octets_of_digits digits ≡ Some c.deref.result.now =
    c.in_ok-octets.ensures ∙ ap (λ found. option_map (λ octets. octets.items) found) c.in-Some.is ∙ ap Some (sym c.deref.ensures.value) in
    let found = subst (λ code. Finds (ReadsAs c.deref.result.now) (option_map (λ code. code.items) code) c.args.answers.now.items c.read_code.new.answers.items) c.in-Some-2.is c.in_ok-code.ensures.found in
    on-ok c.load_code.result c.load_code.ensures (λ moves.
    moves-load digits c.deref.result.now c.in-Some-2.code.items c.args.self.now c.load_code.new.self c.args.answers.now.items c.load_code.new.answers.items spelled found.0
    (subst (λ old. Moves (λ before. TakesCommand before (load digits) (Load c.in-Some-2.code.items)) c.args.self.now c.load_code.new.self old c.load_code.new.answers.items) found.1 moves))
