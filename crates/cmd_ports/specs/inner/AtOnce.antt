-- The threads of the ports: what each promises of its answers.
use Rattle.std.specs.Prelude.{List, map}
use Rattle.cmd_ports.specs.declared.at_once.AnswersTo.{AnswersTo}
use Rattle.cmd_ports.specs.declared.answered.AnsweredCell.{AnsweredCell}
use Rattle.cmd_ports.specs.inner.Arrivals.{AnswersPort}

-- The answers of a port keep the promise of its thread.
abbrev pub KeepsPromise : AnswersTo → List AnsweredCell → Type 0
KeepsPromise promise arrivals = AnswersPort promise.side (map (λ line. line.now) promise.lines.now) arrivals
