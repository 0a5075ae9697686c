-- A record with a cell has a place of it.
use Rattle.std.proofs.Common.{[], refl, sym, subst, append-nil}
use Rattle.cmd_forward.specs.RecordsWritten.{IsCellWritten}
use Rattle.cmd_forward.specs.declared.onward.Onward.{Onward}
use Rattle.cmd_forward.proofs.record_writing.add_cell_record.Goals as goal

pub unreachable-requires : goal.unreachable-requires
unreachable-requires c = c.in-None.ensures.none c.requires.cell.0 c.requires.cell.1

pub returns-in-Stays : goal.returns-in-Stays
returns-in-Stays c =
    ([], sym (append-nil c.args.written.now.items), subst (λ (onward : Onward). IsCellWritten onward c.args.octets.now []) (sym c.in-Stays.is) refl)
