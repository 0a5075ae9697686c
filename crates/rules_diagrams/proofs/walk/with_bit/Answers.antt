use Rattle.std.proofs.Common.{◌+◌, ◌∙◌, ap, sym, subst, arith}
use Rattle.rules_diagrams.specs.CellNumbers.{octets_number}
use Rattle.rules_diagrams.specs.inner.Walks.{IsClearFrom}
use Rattle.rules_diagrams.proofs.CellBits.{room, octet_after, octets_after, bit_added, bit_clear}
use Rattle.rules_diagrams.proofs.walk.with_bit.Goals as goal

pub overflow_add-octets : goal.overflow_add-octets
overflow_add-octets c =
    omega (arith, room c.args.bit c.args.cell c.requires.bit c.requires.clear, octet_after c.args.bit c.args.cell c.requires.bit c.requires.clear c.bytes.result.now c.from.result c.bytes.ensures c.from.ensures)

pub returns-clause-clear : goal.returns-clause-clear
returns-clause-clear c =
    subst (λ cell. IsClearFrom (c.args.bit + 1) cell)
    (sym (c.from-2.ensures ∙ octets_after c.args.bit c.args.cell c.requires.bit c.requires.clear c.bytes.result.now c.from.result c.bytes.ensures c.from.ensures))
    (bit_clear c.args.bit c.args.cell c.requires.bit c.requires.clear)

pub returns-clause-number : goal.returns-clause-number
returns-clause-number c =
    ap octets_number (c.from-2.ensures ∙ octets_after c.args.bit c.args.cell c.requires.bit c.requires.clear c.bytes.result.now c.from.result c.bytes.ensures c.from.ensures)
    ∙ bit_added c.args.bit c.args.cell c.requires.bit c.requires.clear
