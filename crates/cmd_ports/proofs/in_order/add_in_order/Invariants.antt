-- The texts of the answerers so far were appended, and the others aren't printed yet.
use Rattle.std.proofs.Common.{◌≡◌, take}
use Rattle.text_io.specs.Devices.{Adds}
use Rattle.cmd_ports.specs.inner.InOrder.{AllPrint, after_all}
use Rattle.cmd_ports.specs.inner.Rest.{unprinted}
use Rattle.cmd_ports.proofs.in_order.add_in_order.Given as goal

abbrev pub invariant-loop-answerer : goal.invariant-loop-answerer
invariant-loop-answerer l = record {
  added : Adds (AllPrint l.side l.names (unprinted l.fn.rest) (take l.answerer-index l.order)) l.fn.answers.items l.answers.items;
  rest : unprinted l.rest ≡ after_all (take l.answerer-index l.order) (unprinted l.fn.rest);
}
