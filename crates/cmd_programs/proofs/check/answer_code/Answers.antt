-- The answer to a program or to a refusal.
use Rattle.std.proofs.Common.{refl, ap, ◌∙◌, ◌++◌}
use Rattle.cmd_programs.specs.Check.{accepted_text}
use Rattle.cmd_programs.specs.Program.{is_program, is_refused}
use Rattle.cmd_programs.proofs.check.answer_code.Goals as goal

pub returns-in_ok-add_program-in-Some : goal.returns-in_ok-add_program-in-Some
returns-in_ok-add_program-in-Some c =
    let found = rw c.in-Some.is at c.in_ok-code.ensures.found in
    let code = c.in-Some.code.items in
    let added = rw c.deref.ensures.value at c.in_ok-add_program-in-Some.ensures in (
      accepted_text code,
      added ∙ ap (λ xs. xs ++ accepted_text code) found.1,
      (is_program code, found.0, (refl, refl)),
    )

pub returns-in-None : goal.returns-in-None
returns-in-None c =
    let found = rw c.in-None.is at c.in_ok-code.ensures.found in (found.0, found.2, (is_refused found.0, found.1, (refl, refl)))
