-- A later line is answered in the world of the program.
use Rattle.std.proofs.Common.{ap, option_map}
use Rattle.cmd_programs.proofs.LaterLines.{later-answered}
use Rattle.cmd_programs.proofs.after_program.AfterProgramMachine.answer.Goals as goal

pub returns-in-Some : goal.returns-in-Some
returns-in-Some g c =
    let user = g.U.ProgramUser in
    later-answered user.texts (user.code c.in-Some.user) _ c.args.line.now c.args.answers.now.items c.answer_line.new.answers.items c.answer_line.result
    (ap (option_map user.code) c.in-Some.is) c.answer_line.ensures
