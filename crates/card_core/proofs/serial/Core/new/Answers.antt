use Rattle.std.proofs.Common.{◌≡◌, Option, None, IfNone, subst}
use Rattle.card_core.specs.declared.fault.CardFault.{CardFault}
use Rattle.card_core.specs.Shapes.{IsShape}
use Rattle.card_core.proofs.OpeningLemmas.{opening-agrees, opening-core}
use Rattle.card_core.proofs.serial.Core.new.Goals as goal

pub invariant_of-result : goal.invariant_of-result
invariant_of-result c =
    opening-core c.args.shape c.in-Ok-new.directory c.in-Some-free_lines.lines.items c.in-Some-outside_ports.ports.items
    c.in-Ok-new.ensures.made c.in-Some-free_lines.ensures c.in-Some-outside_ports.ensures
    (let none : c.refusal.result ≡ None = cc in let fits : IsShape c.args.shape = subst (λ (o : Option CardFault). IfNone o (IsShape c.args.shape)) none c.refusal.ensures.fits in fits.lines)

pub returns-clause-agrees : goal.returns-clause-agrees
returns-clause-agrees c =
    opening-agrees c.args.shape c.in-Ok.store c.in-Ok-new.directory c.in-Some-free_lines.lines.items c.in-Some-outside_ports.ports.items
    c.in-Ok.ensures.made c.in-Ok-new.ensures.made c.in-Some-free_lines.ensures c.in-Some-outside_ports.ensures
