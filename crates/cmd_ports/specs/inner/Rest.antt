-- What the code holds of the answers that aren't printed yet.
use Rattle.std.specs.Prelude.{map}
use Rattle.cmd_ports.specs.declared.waiting_answers.Rest.{Rest}
use Rattle.cmd_ports.specs.inner.InOrder.{Unprinted}

abbrev pub unprinted : Rest → Unprinted
unprinted rest = record {
  cells = map (λ own. own.now) rest.cells.items;
  texts = map (λ text. text.items) rest.texts.now;
  lengths = rest.lengths.now;
}
