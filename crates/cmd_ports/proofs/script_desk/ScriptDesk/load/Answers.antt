-- The octets that the digits spell are a program, which is loaded or refused.
use Rattle.std.proofs.Common.{◌≡◌, ◌++◌, List, ℕ, Some, ap, codes, option_map, refl, subst, sym, ◌∙◌}
use Rattle.std.proofs.lemmas.Result.{on_ok_weaker}
use Rattle.card_core.specs.declared.reply.Reply.TheVariants.{NotLoaded}
use Rattle.cmd_programs.specs.Finding.{Finds}
use Rattle.cmd_programs.specs.Program.{ReadsAs}
use Rattle.text_script.specs.ReplyTexts.{program_name}
use Rattle.text_script.specs.ScriptCommands.{load}
use Rattle.text_words.specs.FaultLines.{line}
use Rattle.text_words.specs.Hexadecimal.{octets_of_digits}
use Rattle.cmd_ports.proofs.DeskLemmas.{adds-some, load-reply, loaded, replied}
use Rattle.cmd_ports.proofs.script_desk.ScriptDesk.load.Goals as goal

pub returns-in-Err : goal.returns-in-Err
returns-in-Err g c =
    let digits = c.args.digits.now in
    let names = c.args.self.now.names in
    let spelled : octets_of_digits digits ≡ Some c.deref.result.now =
    c.in_ok-octets.ensures ∙ ap (λ found. option_map (λ octets. octets.items) found) c.in-Some.is ∙ ap Some (sym c.deref.ensures.value) in
    let found = subst (λ code. Finds (ReadsAs c.deref.result.now) (option_map (λ code. code.items) code) c.args.answers.now.items c.read_code.new.answers.items) c.in-Some-2.is c.in_ok-code.ensures.found in
    on_ok_weaker c.add_desk_fault.result (λ added.
    let printed = adds-some _ _ _ added in
    load-reply c.args.card.now.side digits c.deref.result.now c.in-Some-2.code.items names names _ _ spelled found.0
    (replied c.args.card.now.side (load digits) (NotLoaded c.in-Err.fault c.in-Err.field-0-1) names printed.0 _ _ c.in-Err.ensures.refused refl printed.2
    (printed.1 ∙ ap (λ (t : List ℕ). t ++ printed.0) found.1))) c.add_desk_fault.ensures

pub returns : goal.returns
returns g c =
    let digits = c.args.digits.now in
    let names = c.args.self.now.names in
    let spelled : octets_of_digits digits ≡ Some c.deref.result.now =
    c.in_ok-octets.ensures ∙ ap (λ found. option_map (λ octets. octets.items) found) c.in-Some.is ∙ ap Some (sym c.deref.ensures.value) in
    let found = subst (λ code. Finds (ReadsAs c.deref.result.now) (option_map (λ code. code.items) code) c.args.answers.now.items c.read_code.new.answers.items) c.in-Some-2.is c.in_ok-code.ensures.found in
    on_ok_weaker c.add_loaded.result (λ added.
    load-reply c.args.card.now.side digits c.deref.result.now c.in-Some-2.code.items names c.push.new.self _ _ spelled found.0
    (loaded c.args.card.now.side digits c.in-Ok.id names c.push.new.self c.count.result _ _ c.in_ok-push.ensures c.count.ensures
    (added ∙ ap (λ (t : List ℕ). t ++ line (codes "loaded " ++ program_name c.count.result)) found.1))) c.add_loaded.ensures
