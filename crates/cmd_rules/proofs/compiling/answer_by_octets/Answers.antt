-- The answer to a program.
use Rattle.std.proofs.Common.{inl, refl}
use Rattle.cmd_programs.specs.Check.{accepted_text}
use Rattle.cmd_rules.proofs.compiling.answer_by_octets.Goals as goal

pub returns-in_ok-add_program-in-Ok : goal.returns-in_ok-add_program-in-Ok
returns-in_ok-add_program-in-Ok c =
    let code = c.in-Ok.code.items in
    let added = rw c.deref.ensures.value at c.in_ok-add_program-in-Ok.ensures in
    (accepted_text code, added, inl (code, c.in-Ok.ensures.accepted, c.in-Ok.ensures.text, c.in-Ok.ensures.code, refl, refl))
