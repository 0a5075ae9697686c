use Rattle.std.proofs.Common.{subst, sym, refl}
use Rattle.rules_cells.specs.declared.field.Field.{Field}
use Rattle.rules_cells.specs.declared.field.Field.TheVariants.{Gfc, Vci, Pti, Clp}
use Rattle.rules_cells.proofs.Bits.{gfc_in, vci_in, pti_in, clp_in}
use Rattle.rules_diagrams.specs.inner.Fields.{AreBitsOf}
use Rattle.rules_diagrams.proofs.FieldBits.{header_bits}
use Rattle.rules_diagrams.proofs.met_tests.bits_of.Goals as goal

pub returns-in-Gfc : goal.returns-in-Gfc
returns-in-Gfc c = subst (λ (field : Field). AreBitsOf c.args.side field (record { bit = 0; width = 4 })) (sym c.in-Gfc.is) (header_bits c.args.side Gfc 28 4 0 (gfc_in c.args.side) refl)

pub returns-in-Vci : goal.returns-in-Vci
returns-in-Vci c = subst (λ (field : Field). AreBitsOf c.args.side field (record { bit = 12; width = 16 })) (sym c.in-Vci.is) (header_bits c.args.side Vci 4 16 12 (vci_in c.args.side) refl)

pub returns-in-Pti : goal.returns-in-Pti
returns-in-Pti c = subst (λ (field : Field). AreBitsOf c.args.side field (record { bit = 28; width = 3 })) (sym c.in-Pti.is) (header_bits c.args.side Pti 1 3 28 (pti_in c.args.side) refl)

pub returns-in-Clp : goal.returns-in-Clp
returns-in-Clp c = subst (λ (field : Field). AreBitsOf c.args.side field (record { bit = 31; width = 1 })) (sym c.in-Clp.is) (header_bits c.args.side Clp 0 1 31 (clp_in c.args.side) refl)
