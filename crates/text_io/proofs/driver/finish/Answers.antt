-- If an allocation fails, nothing was written, and the empty text is a prefix.
use Rattle.std.proofs.Common.{[], refl, sym, ◌++◌}
use Rattle.std.proofs.lemmas.List.{append-nil}
use Rattle.text_io.specs.Lines.{lines_of}
use Rattle.text_io.proofs.PrintingLemmas.{some-text}
use Rattle.text_io.proofs.driver.finish.Goals as goal

pub returns-in-Err-clause-front : goal.returns-in-Err-clause-front
returns-in-Err-clause-front g c = λ known before sound is_shown.
    let m = g.M.Machine in
    let text = some-text m.rules g.met.M.Machine.is_total (lines_of c.args.octets.now) c.args.met before sound in
    (text.0, text.1, ([], c.args.answers.now.items ++ text.0, refl, sym (append-nil (g.O.Output.held c.args.output.now))), text.2)
