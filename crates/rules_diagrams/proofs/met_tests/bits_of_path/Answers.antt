use Rattle.std.proofs.Common.{subst, sym, refl}
use Rattle.upc_cell.specs.declared.side.Side.{Side}
use Rattle.rules_cells.specs.declared.field.Field.TheVariants.{Vpi}
use Rattle.rules_diagrams.specs.inner.Fields.{AreBitsOf}
use Rattle.rules_diagrams.proofs.FieldBits.{header_bits, path_uni, path_nni, path_uni_paths, path_nni_paths}
use Rattle.rules_diagrams.proofs.met_tests.bits_of_path.Goals as goal

pub returns-in-Uni : goal.returns-in-Uni
returns-in-Uni c = subst (λ (side : Side). AreBitsOf side Vpi (record { bit = 4; width = 8 })) (sym c.in-Uni.is) (header_bits _ Vpi 20 8 4 path_uni refl)

pub returns-in-Nni : goal.returns-in-Nni
returns-in-Nni c = subst (λ (side : Side). AreBitsOf side Vpi (record { bit = 0; width = 12 })) (sym c.in-Nni.is) (header_bits _ Vpi 20 12 0 path_nni refl)

pub returns-in-UniPaths : goal.returns-in-UniPaths
returns-in-UniPaths c = subst (λ (side : Side). AreBitsOf side Vpi (record { bit = 4; width = 8 })) (sym c.in-UniPaths.is) (header_bits _ Vpi 20 8 4 path_uni_paths refl)

pub returns-in-NniPaths : goal.returns-in-NniPaths
returns-in-NniPaths c = subst (λ (side : Side). AreBitsOf side Vpi (record { bit = 0; width = 12 })) (sym c.in-NniPaths.is) (header_bits _ Vpi 20 12 0 path_nni_paths refl)
