-- The answer to a later line is one in the world of its program.
use Rattle.std.proofs.Common.{◌≡◌, ℕ, List, Some, Result, Ok, Err, refl, sym, ◌∙◌, subst}
use Rattle.std.specs.Result.{IfOk}
use Rattle.bpf_code.specs.declared.instr.Instr.{Instr}
use Rattle.cmd_programs.specs.AfterProgram.{LaterLine, ProgramSteps, ProgramTexts, ProgramWorld, program_rules, after_turn}
use Rattle.text_io.specs.Answering.{Answers, TurnsFrom}
use Rattle.text_io.specs.Devices.{Adds}
use Rattle.text_io.specs.declared.machine.Turn.{Turn}
use Rattle.text_io.specs.declared.machine.Turn.TheVariants.{GoesOn, Ends}

turns : (texts : ProgramTexts) (code : List Instr) (world : ProgramWorld) (line here : List ℕ) (turn : Turn) → world ≡ Some code → LaterLine texts code line here turn
    → TurnsFrom (program_rules texts) world line here turn (λ after. after ≡ world)
turns texts code world line here GoesOn is later =
    subst (λ now. TurnsFrom (program_rules texts) now line here GoesOn (λ after. after ≡ now)) (sym is) (Some code, refl, (GoesOn, later, refl))
turns texts code world line here Ends is later =
    subst (λ now. ProgramSteps texts now line here (after_turn code Ends)) (sym is) (Ends, later, refl)

pub later-answered : {E : Type 0} (texts : ProgramTexts) (code : List Instr) (held : ProgramWorld) (line old new : List ℕ) (result : Result Turn E) → held ≡ Some code
    → IfOk result (λ turn. Adds (λ text. LaterLine texts code line text turn) old new)
    → IfOk result (λ turn. Answers (program_rules texts) (λ world. world ≡ held) line turn (λ world. world ≡ held) old new)
later-answered texts code held line old new (Ok turn) is added = (
  added.0,
  added.1,
  λ world sound shown. subst (λ (now : ProgramWorld). TurnsFrom (program_rules texts) world line added.0 turn (λ after. after ≡ now)) shown
      (turns texts code world line added.0 turn (shown ∙ is) added.2),
)
later-answered texts code held line old new (Err fault) is added = added
