use Rattle.std.proofs.Common.{◌++◌, ◌∙◌, sym, ap}
use Rattle.hex.specs.Hex.{encode_lower}
use Rattle.text_io.proofs.Public.{at-ok}
use Rattle.std.proofs.lemmas.Result.{on_ok_weaker}
use Rattle.text_words.proofs.hexadecimal.add_cell_octets.Goals as goal

pub returns : goal.returns
returns c =
    let written = at-ok c.encode_to_slice.result _ (sym c.is_err.ensures.value ∙ c.if-is_err.false) c.encode_to_slice.ensures.written in
    on_ok_weaker c.add_text.result
    (λ grew. grew ∙ ap (λ xs. c.args.answers.now.items ++ xs) written
    ∙ ap (λ xs. c.args.answers.now.items ++ encode_lower xs) c.bytes.ensures) c.add_text.ensures
