use Rattle.std.proofs.Common.{rules, ◌≡◌, true, false, refl}
use Rattle.std.proofs.lemmas.Str.{IsUtf8-from_is_utf8, is_utf8-from_IsUtf8}
use Rattle.std.specs.Str.{is_utf8}
use Rattle.upc_lab.specs.ShownNames.{is_terminal_text}
use Rattle.upc_lab.proofs.file_names.is_terminal_text.Goals as goal

pub returns-in-Ok : goal.returns-in-Ok
returns-in-Ok c =
    let is = is_utf8-from_IsUtf8 c.args.name.now c.in-Ok.ensures.cases.1 in
    let same = c.in-Ok.ensures.cases.0 in
    search rules

pub returns-in-Err : goal.returns-in-Err
returns-in-Err c =
    elim (is_utf8 c.args.name.now) as (λ b. is_utf8 c.args.name.now ≡ b → false ≡ is_terminal_text c.args.name.now) [
      | true ↦ λ e. absurd (c.in-Err.ensures.cases.0 (IsUtf8-from_is_utf8 c.args.name.now e))
      | false ↦ λ e. rw e refl
    ] refl
